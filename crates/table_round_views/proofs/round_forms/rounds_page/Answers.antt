use Rattle.std.proofs.Common.{append_assoc}
use Rattle.table_round_views.specs.Rounds.{rounds_page}
use Rattle.table_round_views.proofs.round_forms.rounds_page.Goals as goal

pub returns : goal.returns
unfolding rounds_page
returns c =
    simp (c.in_ok-push_inside.ensures, c.in_ok-push_end.ensures, c.in_ok-page.ensures)
    (simp (append_assoc))
