use Rattle.std.proofs.Common.{append_assoc}
use Rattle.table_views.proofs.Tails.{same_end}
use Rattle.table_views.proofs.recent.push_recent.Goals as goal

pub returns : goal.returns
returns c =
    same_end c.extend_from_slice-2.result _ _ _ _
    (simp (c.in_ok-push_lines.ensures, c.in_ok-extend_from_slice.ensures.items)
    (simp (c.in_ok-newest.ensures, append_assoc))) c.extend_from_slice-2.ensures.items
