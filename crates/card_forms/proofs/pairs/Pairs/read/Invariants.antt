use Rattle.std.proofs.Common.{◌≡◌, ◌++◌, map}
use Rattle.form_urlencoded.specs.Parse.{pairs_left}
use Rattle.card_forms.specs.Pairs.{decoded, pairs_of}
use Rattle.card_forms.proofs.pairs.Pairs.read.Given as goal

abbrev pub invariant-loop-pair : goal.invariant-loop-pair
invariant-loop-pair l =
    (goal.iterator-loop-pair).can_next l.pair-iterator
    × (goal.iterator-loop-pair).is_finite l.pair-iterator
    × (l.pairs.items ++ map decoded (pairs_left l.pair-iterator) ≡ pairs_of l.body)
