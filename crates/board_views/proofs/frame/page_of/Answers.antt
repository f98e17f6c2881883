use Rattle.board_views.proofs.frame.page_of.Goals as goal

pub returns : goal.returns
returns c = rw c.inside-shown.ensures at (rw c.new-page.ensures.items at c.in_ok-fill.ensures)
