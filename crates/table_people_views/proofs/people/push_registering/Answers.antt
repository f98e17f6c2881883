use Rattle.std.proofs.Common.{append_assoc}
use Rattle.table_people_views.specs.People.{registering}
use Rattle.table_views.proofs.Tails.{same_after}
use Rattle.table_people_views.proofs.people.push_registering.Goals as goal

pub returns : goal.returns
unfolding registering
returns c =
    same_after c.push_button.result _ _ _
    (simp (c.in_ok-push_text_field-2.ensures, c.in_ok-push_text_field.ensures)
    (simp (c.in_ok-push_form.ensures, c.in_ok-extend_from_slice.ensures.items)
    (simp (c.deref.ensures.value, c.in_ok-digits.ensures, append_assoc)))) c.push_button.ensures
