use Rattle.outbox.proofs.Entered.{saved_card_is_seen, saved_fix_is_seen, saved_is_entered}
use Rattle.outbox.proofs.laws.saved_is_entered.Goals as goal

pub returns : goal.returns
returns c = record {
  entered = saved_is_entered;
  card = saved_card_is_seen;
  fix = saved_fix_is_seen;
}
