use Rattle.std.proofs.Common.{append_assoc}
use Rattle.standings.proofs.as_text.push_other.Goals as goal

pub returns : goal.returns
returns c =
    simp (
      c.in_ok-push_number-2.ensures,
      c.in_ok-extend_from_slice.ensures.items,
      c.in_ok-push_number.ensures,
      c.from.ensures,
      append_assoc,
    )
