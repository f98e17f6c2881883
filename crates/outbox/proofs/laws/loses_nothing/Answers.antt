use Rattle.outbox.proofs.Held.{nothing_is_lost, reads_after_crash}
use Rattle.outbox.proofs.Staying.{stays_in_the_journal}
use Rattle.outbox.proofs.laws.loses_nothing.Goals as goal

pub returns : goal.returns
returns c = record {
  listed = nothing_is_lost;
  stays = stays_in_the_journal;
  reads = reads_after_crash;
}
