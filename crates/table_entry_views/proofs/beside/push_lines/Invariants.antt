use Rattle.std.proofs.Common.{◌≡◌, ◌++◌, flat_map, drop}
use Rattle.table_entry_views.specs.Beside.{line}
use Rattle.table_entry_views.proofs.beside.push_lines.Given as goal

-- the lines so far and those of what is left
abbrev pub invariant-loop-number : goal.invariant-loop-number
invariant-loop-number l =
    l.out.items
    ++ flat_map (line l.meet.accepted l.id (l.round.settings, l.round.table.now))
    (drop l.number-index l.numbers) ≡ l.initial.out.items
    ++ flat_map (line l.meet.accepted l.id (l.round.settings, l.round.table.now)) l.numbers
