use Rattle.std.proofs.Common.{append_assoc}
use Rattle.table_round_views.specs.Scrambles.{scramble_form}
use Rattle.table_views.proofs.Tails.{same_after}
use Rattle.table_round_views.proofs.scrambles.push_scramble_form.Goals as goal

pub returns : goal.returns
unfolding scramble_form
returns c =
    same_after c.push_button.result _ _ _
    (simp (c.in_ok-push_text_field-2.ensures, c.in_ok-push_text_field.ensures)
    (simp (c.in_ok-push_round_form.ensures, c.deref.ensures.value, c.in_ok-digits.ensures)
    (simp (append_assoc)))) c.push_button.ensures
