use Rattle.std.proofs.Common.{append_assoc}
use Rattle.table_round_views.specs.Rounds.{all_section}
use Rattle.table_views.proofs.Tails.{same_end}
use Rattle.table_round_views.proofs.round_forms.push_all.Goals as goal

pub returns : goal.returns
unfolding all_section
returns c =
    same_end c.extend_from_slice-3.result _ _ _ _
    (simp (c.in_ok-push_edition.ensures, c.in_ok-extend_from_slice-2.ensures.items)
    (simp (c.in_ok-push_events.ensures, c.in_ok-extend_from_slice.ensures.items, c.meet.ensures)
    (simp (append_assoc)))) c.extend_from_slice-3.ensures.items
