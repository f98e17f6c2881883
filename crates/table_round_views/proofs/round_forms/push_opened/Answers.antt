use Rattle.std.proofs.Common.{append_assoc}
use Rattle.table_round_views.specs.Rounds.{opened_forms}
use Rattle.table_views.proofs.Tails.{same_after}
use Rattle.table_round_views.proofs.round_forms.push_opened.Goals as goal

pub returns : goal.returns
unfolding opened_forms
returns c =
    same_after c.push_closed_or_open.result _ _ _
    (simp (c.in_ok-extend_from_slice-2.ensures.items, c.in_ok-push_settings.ensures)
    (simp (c.in_ok-extend_from_slice.ensures.items, append_assoc))) c.push_closed_or_open.ensures
