use Rattle.std.proofs.Common.{◌≡◌, sym, subst, ap, ◌∙◌}
use Rattle.std.proofs.lemmas.List.Sorted.{IsPermutation-trans, length_permutation}
use Rattle.std.specs.List.Sorted.{IsPermutation}
use Rattle.cube.specs.model.Pieces.{colours_of}
use Rattle.cube.specs.Turns.{turned, first_arrangement, CarriesStickers}
use Rattle.cube.proofs.Rearranged.{nine_of_each, turned-rearranged, carries}
use Rattle.cube.proofs.turning.Cube.turn.Goals as goal

rearranged : (c : goal.After-self-1)
    → IsPermutation first_arrangement (colours_of c.turned-self-inside.result)
rearranged c =
    let old = colours_of c.self.inside.pieces in
    subst (λ a. IsPermutation first_arrangement a) (sym c.turned-self-inside.ensures)
    (IsPermutation-trans _ _ _ c.self.invariant (turned-rearranged c.args.turn old
    (length_permutation first_arrangement old c.self.invariant)))

arrangement : (c : goal.After-self-1) → colours_of c.turned-self-inside.result
    ≡ turned c.args.turn c.args.self.now
arrangement c = c.turned-self-inside.ensures ∙ ap (turned c.args.turn) c.self.view_is

pub invariant_of-self : goal.invariant_of-self
invariant_of-self c = rearranged c

pub returns-clause-arrangement : goal.returns-clause-arrangement
returns-clause-arrangement c = arrangement c

pub returns-clause-stickers : goal.returns-clause-stickers
returns-clause-stickers c =
    subst (λ a. CarriesStickers c.args.turn c.args.self.now a) (sym (arrangement c))
    (carries c.args.turn c.args.self.now)

pub returns-clause-colours : goal.returns-clause-colours
returns-clause-colours c = nine_of_each _ (rearranged c)
