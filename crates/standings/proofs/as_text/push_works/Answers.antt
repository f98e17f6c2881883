use Rattle.std.proofs.Common.{append_assoc}
use Rattle.standings.proofs.as_text.push_works.Goals as goal

pub returns : goal.returns
returns c =
    simp (
      c.in_ok-extend_from_slice.ensures.items,
      c.in_ok-push_every_lag.ensures,
      append_assoc,
    )
