use Rattle.std.proofs.Common.{append_assoc}
use Rattle.table_entry_views.specs.Card.{told_sure}
use Rattle.table_entry_views.proofs.card.push_sure.Goals as goal

pub returns : goal.returns
unfolding told_sure
returns c =
    simp (c.in_ok-extend_from_slice-2.ensures.items, c.in_ok-push_words.ensures)
    (simp (c.in_ok-extend_from_slice.ensures.items, append_assoc))
