use Rattle.std.proofs.Common.{◌≡◌, ◌++◌, drop, flat_map}
use Rattle.table_round_views.specs.Entrants.{entrant_line}
use Rattle.table_round_views.proofs.unfinished.push_entrants.Given as goal

-- what was written, and what is written for those that are left, is the whole
abbrev pub invariant-loop-number : goal.invariant-loop-number
invariant-loop-number l =
    l.out.items ++ flat_map (entrant_line l.meet.accepted l.id) (drop l.number-index l.numbers)
    ≡ l.initial.out.items ++ flat_map (entrant_line l.meet.accepted l.id) l.numbers
