use Rattle.std.proofs.Common.{append_assoc}
use Rattle.table_round_views.specs.Opening.{rule_fields}
use Rattle.table_views.proofs.Tails.{same_after}
use Rattle.table_round_views.proofs.opening.push_rule_fields.Goals as goal

pub returns : goal.returns
unfolding rule_fields
returns c =
    same_after c.push_limit.result _ _ _
    (simp (c.in_ok-push_cutoff.ensures, c.in_ok-extend_from_slice-2.ensures.items)
    (simp (c.in_ok-push_formats.ensures, c.in_ok-extend_from_slice.ensures.items, append_assoc)))
    c.push_limit.ensures
