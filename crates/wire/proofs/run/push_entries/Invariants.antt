use Rattle.std.proofs.Common.{◌≡◌, ◌-◌, ◌++◌, List}
use Rattle.acceptor.specs.declared.entry.Entry.{Entry}
use Rattle.wire.{specs.Reading.entry_at, proofs.Many.GoesOn}
use Rattle.wire.proofs.run.push_entries.Given as goal

-- the entries so far were put after the others
abbrev pub invariant-loop : goal.invariant-loop
invariant-loop l =
    (pushed : List Entry) × (l.entries ≡ l.initial.entries ++ pushed)
    × GoesOn entry_at l.count l.bytes (l.count - l.counter) pushed l.rest
