use Rattle.std.proofs.Common.{append_assoc}
use Rattle.table_round_views.specs.Opening.{opening}
use Rattle.table_views.proofs.Tails.{same_after}
use Rattle.table_round_views.proofs.opening.push_opening.Goals as goal

pub returns : goal.returns
unfolding opening
returns c =
    same_after c.push_button.result _ _ _
    (simp (c.in_ok-push_advance.ensures, c.in_ok-push_rule_fields.ensures)
    (simp (c.in_ok-push_round_form.ensures, c.in_ok-push_head.ensures, append_assoc)))
    c.push_button.ensures
