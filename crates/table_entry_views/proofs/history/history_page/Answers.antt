use Rattle.std.proofs.Common.{append_assoc}
use Rattle.table_entry_views.specs.History.{history_page}
use Rattle.table_entry_views.proofs.history.history_page.Goals as goal

pub returns : goal.returns
unfolding history_page
returns c =
    simp (c.in_ok-push_top.ensures, c.in_ok-push_section.ensures, c.in_ok-push_bottom.ensures)
    (simp (c.deref.ensures.value, c.in_ok-text.ensures, c.new-page.ensures.items, append_assoc))
