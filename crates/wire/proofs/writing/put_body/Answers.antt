use Rattle.std.specs.Int.{w32, to_be_bytes}
use Rattle.wire.{specs.Spelling.ballot_bytes, specs.Spelling.entry_bytes, proofs.Runs.put_behind}
use Rattle.wire.proofs.writing.put_body.Goals as goal

pub returns-in_ok-put_place-in-Accept : goal.returns-in_ok-put_place-in-Accept
returns-in_ok-put_place-in-Accept c =
    rw c.in-Accept.is (put_behind c.put_entry.result _ _ _ (ballot_bytes c.in-Accept.ballot)
    (to_be_bytes w32 c.in-Accept.pos) (entry_bytes c.in-Accept.entry)
    c.in_ok-put_place-in-Accept.ensures c.put_entry.ensures)

pub returns-in_ok-put_place-in-Nack : goal.returns-in_ok-put_place-in-Nack
returns-in_ok-put_place-in-Nack c =
    rw c.in-Nack.is (put_behind c.put_ballot.result _ _ _ (ballot_bytes c.in-Nack.ballot)
    (to_be_bytes w32 c.in-Nack.pos) (ballot_bytes c.in-Nack.promised)
    c.in_ok-put_place-in-Nack.ensures c.put_ballot.ensures)
