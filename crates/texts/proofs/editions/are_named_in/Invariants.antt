use Rattle.std.proofs.Common.{◌≡◌, drop, map}
use Rattle.std.specs.List.{list_all}
use Rattle.texts.specs.{Editions.is_named_in, Parts.lent}
use Rattle.texts.proofs.editions.are_named_in.Given as goal

-- none of the names so far is not spelled
abbrev pub invariant-loop-value : goal.invariant-loop-value
invariant-loop-value l =
    list_all (is_named_in l.edition) (map lent (drop l.value-index l.values))
    ≡ list_all (is_named_in l.edition) (map lent l.values)
