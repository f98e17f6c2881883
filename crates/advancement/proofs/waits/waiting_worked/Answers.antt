use Rattle.std.proofs.Common.{refl}
use Rattle.advancement.proofs.waits.waiting_worked.Goals as goal

pub returns : goal.returns
returns c =
    record {
      goes_on = refl;
      wait = refl;
      tied_go_on = refl;
      tied_wait = refl;
      nobody_waits = refl;
      first = refl;
      second = refl;
      third = refl;
    }
