use Rattle.std.proofs.Common.{append_assoc}
use Rattle.table_round_views.specs.Scrambles.{all_scrambles}
use Rattle.table_views.proofs.Tails.{same_after}
use Rattle.table_round_views.proofs.scrambles.push_all.Goals as goal

pub returns : goal.returns
unfolding all_scrambles
returns c =
    same_after c.push_scramble_if-3.result _ _ _
    (simp (c.in_ok-push_scramble_if-2.ensures, c.in_ok-push_scramble_if.ensures)
    (simp (c.in_ok-extend_from_slice.ensures.items, c.id_at.ensures, c.id_at-2.ensures)
    (simp (c.id_at-3.ensures, append_assoc)))) c.push_scramble_if-3.ensures
