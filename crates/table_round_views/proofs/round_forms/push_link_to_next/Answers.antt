use Rattle.std.proofs.Common.{append_assoc}
use Rattle.table_round_views.specs.Rounds.{link_to_next}
use Rattle.table_views.proofs.Tails.{same_end}
use Rattle.table_round_views.proofs.round_forms.push_link_to_next.Goals as goal

pub returns : goal.returns
unfolding link_to_next
returns c =
    same_end c.extend_from_slice-2.result _ _ _ _
    (simp (c.in_ok-push_round_name.ensures, c.in_ok-extend_from_slice.ensures.items)
    (simp (append_assoc))) c.extend_from_slice-2.ensures.items
