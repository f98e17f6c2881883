use Rattle.std.proofs.Common.{append_assoc}
use Rattle.table_views.{specs.Forms.round_value, proofs.Tails.same_end}
use Rattle.table_views.proofs.forms.push_round_value.Goals as goal

pub returns : goal.returns
unfolding round_value
returns c =
    same_end c.extend_from_slice-2.result _ _ _ _
    (simp (c.in_ok-push_round_name.ensures, c.in_ok-extend_from_slice.ensures.items)
    (simp (append_assoc))) c.extend_from_slice-2.ensures.items
