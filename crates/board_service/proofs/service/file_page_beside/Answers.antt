use Rattle.board_service.proofs.service.file_page_beside.Goals as goal

pub returns : goal.returns
returns c = rw c.meet.ensures at c.in_ok-page.ensures
