use Rattle.std.proofs.Common.{IsTrue, ◌≡◌, Bool, true, false, not, refl, sym, ◌∙◌, rules, arith}
use Rattle.std.proofs.Common.{below_more}
use denote.Enum.Bare.{same_true, same_false}
use Rattle.cube.specs.contracts.moves.Colour.{the_type}
use Rattle.cube.proofs.Solved.{solved_from, one_colour_from}
use Rattle.cube.proofs.turning.shows_one_colour_a_side.Goals as goal

not_from : (b : Bool) → true ≡ not b → b ≡ false
not_from true h = cc
not_from false h = refl

from_not : (b : Bool) → false ≡ not b → b ≡ true
from_not true h = refl
from_not false h = cc

pub returns-then-ne : goal.returns-then-ne
returns-then-ne c = (
  λ (h : IsTrue false). absurd cc,
  λ solved. absurd (same_false the_type _ _ (not_from _ (sym c.if-ne.true ∙ c.ne.ensures))
      (one_colour_from c.args.colours.now solved c.loop-place.place c.loop-place-test.true)),
)

pub loop-place-preserved : goal.loop-place-preserved
loop-place-preserved c =
    below_more _ _ c.loop-place.invariant (same_true the_type (search rules) _ _
    (from_not _ (sym c.if-ne.false ∙ c.ne.ensures)))

pub returns : goal.returns
returns c = (
  λ _. solved_from c.args.colours.now (λ n h. c.loop-place.invariant n
      (omega (arith, h, c.loop-place-test.false))),
  λ _. search rules,
)
