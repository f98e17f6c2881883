use Rattle.board_service.proofs.Beside.{beside}
use Rattle.board_service.proofs.laws.file_is_beside.Goals as goal

pub returns : goal.returns
returns c = beside
