use Rattle.std.proofs.Common.{◌≡◌, drop}
use Rattle.card_forms.specs.Pairs.{value_of}
use Rattle.card_forms.proofs.pairs.Pairs.value.Given as goal

abbrev pub invariant-loop-pair : goal.invariant-loop-pair
invariant-loop-pair l =
    value_of l.name (drop l.pair-index l.pair-items) ≡ value_of l.name l.self
