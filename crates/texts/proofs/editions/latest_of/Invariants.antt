use Rattle.std.proofs.Common.{◌≡◌, drop, map}
use Rattle.std.specs.Prelude.{fold}
use Rattle.texts.specs.{Editions.later_by, Parts.lent}
use Rattle.texts.proofs.editions.latest_of.Given as goal

-- with the later values it comes to all of them
abbrev pub invariant-loop-value : goal.invariant-loop-value
invariant-loop-value l =
    fold later_by l.latest (map lent (drop l.value-index l.values))
    ≡ fold later_by l.edition (map lent l.values)
