use Rattle.std.proofs.Common.{append_assoc}
use Rattle.table_views.proofs.Tails.{same_end}
use Rattle.table_people_views.proofs.people.push_competitor.Goals as goal

pub returns : goal.returns
returns c =
    same_end c.extend_from_slice.result _ _ _ _
    (simp (c.in_ok-fill.ensures, c.in_ok-push_entered.ensures, append_assoc)) c.extend_from_slice.ensures.items
