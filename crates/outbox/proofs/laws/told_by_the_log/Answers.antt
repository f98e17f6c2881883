use Rattle.outbox.proofs.Told.{never_by_guess, told_at_once, told_for_good}
use Rattle.outbox.proofs.laws.told_by_the_log.Goals as goal

pub returns : goal.returns
returns c = record {
  never_by_guess = never_by_guess;
  at_once = told_at_once;
  for_good = told_for_good;
}
