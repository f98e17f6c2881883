use Rattle.std.proofs.Common.{refl}
use Rattle.commands.specs.Accepted.{round_in}
use Rattle.edition_laws.proofs.laws.worked_days.Goals as goal

pub returns : goal.returns
unfolding round_in
returns c =
    record {
      nobody_left_yet = refl;
      one_leaves = refl;
      two_leave = refl;
      taken_in_leaves = refl;
      nobody_waits = refl;
      first_round = refl;
      left_once = refl;
      no_correction = refl;
      no_reopening = refl;
    }
