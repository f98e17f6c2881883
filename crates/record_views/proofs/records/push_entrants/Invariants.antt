use Rattle.std.proofs.Common.{◌≡◌, ◌++◌, drop, flat_map}
use Rattle.competition_file.specs.Files.{data_of}
use Rattle.record_views.specs.Records.{line_of}
use Rattle.record_views.proofs.records.push_entrants.Given as goal

-- what was written, and what is written for those that are left, is the whole
abbrev pub invariant-loop-number : goal.invariant-loop-number
invariant-loop-number l =
    l.out.items
    ++ flat_map (line_of (data_of l.file) l.meet.accepted l.id l.table)
    (drop l.number-index l.numbers)
    ≡ l.initial.out.items
    ++ flat_map (line_of (data_of l.file) l.meet.accepted l.id l.table) l.numbers
