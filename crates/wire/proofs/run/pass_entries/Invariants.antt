use Rattle.std.proofs.Common.{◌-◌, List}
use Rattle.acceptor.specs.declared.entry.Entry.{Entry}
use Rattle.wire.{specs.Reading.entry_at, proofs.Many.GoesOn}
use Rattle.wire.proofs.run.pass_entries.Given as goal

-- the entries so far were passed
abbrev pub invariant-loop : goal.invariant-loop
invariant-loop l =
    (passed : List Entry) × GoesOn entry_at l.count l.bytes (l.count - l.counter) passed l.rest
