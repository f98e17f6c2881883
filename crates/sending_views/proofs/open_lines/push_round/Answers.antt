use Rattle.std.proofs.Common.{append_assoc}
use Rattle.sending_views.specs.Lines.{round_cell}
use Rattle.table_views.proofs.Tails.{same_end}
use Rattle.sending_views.proofs.open_lines.push_round.Goals as goal

pub returns : goal.returns
unfolding round_cell
returns c =
    same_end c.extend_from_slice-3.result _ _ _ _
    (simp (c.in_ok-push_called.ensures, c.in_ok-extend_from_slice-2.ensures.items)
    (simp (c.in_ok-push_round_name.ensures, c.in_ok-extend_from_slice.ensures.items, append_assoc)))
    c.extend_from_slice-3.ensures.items
