use Rattle.std.proofs.Common.{refl, arith}
use Rattle.witnesses.proofs.forms.a_form_is_written.Goals as goal

pub returns : goal.returns
returns c = record {
  bounds = refl;
  each = (
    record { unquoted = refl; one_line = refl; file = tt; content = refl },
    (record { unquoted = refl; one_line = refl; file = (refl, refl); content = refl }, tt),
  );
  few = omega arith;
  sent = refl;
}
