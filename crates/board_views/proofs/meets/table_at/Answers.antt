use Rattle.std.proofs.Common.{rules}
use Rattle.board_views.proofs.Tables.{table_not_open, table_not_there, table_there}
use Rattle.board_views.proofs.meets.table_at.Goals as goal

pub returns-in-Ok : goal.returns-in-Ok
returns-in-Ok c = search (rules, table_there)

pub returns-in-Err-NotThere : goal.returns-in-Err-NotThere
returns-in-Err-NotThere c = search (rules, table_not_there)

pub returns-in-Err-NoSuchRound : goal.returns-in-Err-NoSuchRound
returns-in-Err-NoSuchRound c = search (rules, table_not_open)
