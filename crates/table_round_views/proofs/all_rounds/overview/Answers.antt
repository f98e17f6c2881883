use Rattle.std.proofs.Common.{append_assoc}
use Rattle.table_round_views.specs.Overview.{overview}
use Rattle.table_round_views.proofs.all_rounds.overview.Goals as goal

pub returns : goal.returns
unfolding overview
returns c =
    simp (
      c.in_ok-push_section.ensures,
      c.in_ok-push_before.ensures,
      c.in_ok-push_end.ensures,
      c.in_ok-page.ensures,
    )
    (simp (c.meet.ensures, append_assoc))
