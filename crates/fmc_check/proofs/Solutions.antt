-- A solution passes its test exactly where it solves the scramble, and its result follows from
-- that.
use Rattle.std.proofs.Common.{◌≡◌, ◌≤◌, ◌↔◌, List, [], ◌∷◌, ◌++◌, length, Bool, true, false, ◌&&◌}
use Rattle.std.proofs.Common.{IsTrue, refl, sym, subst, ap, ◌∙◌}
use Rattle.std.specs.Prelude.{nat_le, if◌then◌else◌}
use Rattle.std.{proofs.lemmas.Bool.leb-true, proofs.lemmas.Bool.le-leb, specs.Cmp.Derive.both_true}
use Rattle.cube.specs.{declared.moves.Colour.Colour, declared.moves.Move.Move, Turns.IsSolved}
use Rattle.cube.specs.{Turns.after, Turns.first_arrangement, notation.Notation.turn_count}
use Rattle.attempts.specs.declared.Fm.{Fm, TheVariants.Moves, TheVariants.Dnf}
use Rattle.fmc_check.specs.Fewest.{final, Solves, is_solved, is_solution, result_of, TestsSolved}
use Rattle.fmc_check.specs.Fewest.{TestsSolution}

both_of : (a b : Bool) → (a && b) ≡ true → (a ≡ true) × (b ≡ true)
both_of true b h = (refl, h)
both_of false b h = (cc, cc)

pub tests_solution : ((a : List Colour) → TestsSolved a) → (scramble solution : List Move)
    → TestsSolution scramble solution
unfolding is_solution
tests_solution law scramble solution = (
  λ h. let parts = both_of (nat_le (length solution) 80) (is_solved (final scramble solution)) h in
      record { short = leb-true _ _ parts.0; solved = (law (final scramble solution)).0 parts.1 },
  λ solves. both_true (le-leb _ _ solves.short) ((law (final scramble solution)).1 solves.solved),
)

result_by : Bool → List Move → Fm
result_by test solution = if test then Moves (turn_count solution) else Dnf

pub moves_result : (scramble solution : List Move) → TestsSolution scramble solution
    → Solves scramble solution → result_of scramble solution ≡ Moves (turn_count solution)
unfolding result_of result_by
moves_result scramble solution tests solves = ap (λ b. result_by b solution) (tests.1 solves)

dnf_by : (test : Bool) (solution : List Move) → (test ≡ true → ⊥) → result_by test solution ≡ Dnf
unfolding result_by
dnf_by true solution h = absurd (h refl)
dnf_by false solution h = refl

pub dnf_result : (scramble solution : List Move) → TestsSolution scramble solution
    → ¬ Solves scramble solution → result_of scramble solution ≡ Dnf
unfolding result_of result_by
dnf_result scramble solution tests unsolved =
    dnf_by (is_solution scramble solution) solution (λ h. unsolved (tests.0 h))

-- moves made one list after the other
pub after-append : (first second : List Move) (arrangement : List Colour)
    → after (first ++ second) arrangement ≡ after second (after first arrangement)
after-append [] second arrangement = refl
after-append (move ∷ moves) second arrangement = after-append moves second _

-- the cube that is looked at is the one after the scramble and the solution
pub tests_solves : (scramble solution : List Move) (seen : List Colour) (test : Bool)
    → length solution ≤ 80 → seen ≡ after solution (after scramble first_arrangement)
    → (IsTrue test ↔ IsSolved seen) → IsTrue test ↔ Solves scramble solution
tests_solves scramble solution seen test short e tests =
    let same : seen ≡ final scramble solution =
    e ∙ sym (after-append scramble solution first_arrangement) in (
      λ h. record { short = short; solved = subst IsSolved same (tests.0 h) },
      λ solves. tests.1 (subst IsSolved (sym same) solves.solved),
    )
