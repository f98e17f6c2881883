use Rattle.std.proofs.Common.{append_assoc}
use Rattle.table_round_views.specs.Entrants.{entrant_line}
use Rattle.table_views.proofs.Tails.{same_end}
use Rattle.table_round_views.proofs.unfinished.push_entrant.Goals as goal

pub returns : goal.returns
unfolding entrant_line
returns c =
    same_end c.extend_from_slice-2.result _ _ _ _
    (simp (c.in_ok-push_name.ensures, c.in_ok-fill.ensures, c.in_ok-push_round_name.ensures)
    (simp (c.in_ok-extend_from_slice.ensures.items, append_assoc)))
    c.extend_from_slice-2.ensures.items
