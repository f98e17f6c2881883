use Rattle.std.proofs.Common.{append_assoc}
use Rattle.table_round_views.specs.Opening.{advance_fields}
use Rattle.table_views.proofs.Tails.{same_after}
use Rattle.table_round_views.proofs.opening.push_advance.Goals as goal

pub returns : goal.returns
unfolding advance_fields
returns c =
    same_after c.push_text_field.result _ _ _
    (simp (c.in_ok-extend_from_slice-2.ensures.items, c.in_ok-push_advance_choices.ensures)
    (simp (c.in_ok-extend_from_slice.ensures.items, c.deref.ensures.value)
    (simp (c.in_ok-amount.ensures, append_assoc)))) c.push_text_field.ensures
