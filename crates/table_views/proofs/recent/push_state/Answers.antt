use Rattle.std.proofs.Common.{append_assoc}
use Rattle.table_views.proofs.Tails.{same_after, same_end}
use Rattle.table_views.proofs.recent.push_state.Goals as goal

pub returns-in_ok-push_stands-in-Changed : goal.returns-in_ok-push_stands-in-Changed
returns-in_ok-push_stands-in-Changed c =
    same_after c.push_by.result _ _ _ (simp (c.in_ok-push_stands-in-Changed.ensures, c.meet.ensures)
    (simp (c.in_ok-extend_from_slice-in-Changed.ensures.items, c.in-Changed.is, append_assoc)))
    c.push_by.ensures

pub returns-in_ok-extend_from_slice-in-Refused : goal.returns-in_ok-extend_from_slice-in-Refused
returns-in_ok-extend_from_slice-in-Refused c =
    same_end c.extend_from_slice-in-Refused-2.result _ _ _ _
    (simp (c.in_ok-extend_from_slice-in-Refused.ensures.items, c.as_bytes.ensures.value)
    (simp (c.meaning_of.ensures, c.in-Refused.is, append_assoc)))
    c.extend_from_slice-in-Refused-2.ensures.items

pub returns-in-OtherText : goal.returns-in-OtherText
returns-in-OtherText c =
    same_end c.extend_from_slice-in-OtherText.result _ _ _ _ (simp c.in-OtherText.is)
    c.extend_from_slice-in-OtherText.ensures.items
