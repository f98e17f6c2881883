use Rattle.arguments.proofs.task.desk_task.Goals as goal

pub returns-in-serve : goal.returns-in-serve
returns-in-serve c = rw c.in-serve.is c.serve_of.ensures

pub returns-in-status : goal.returns-in-status
returns-in-status c = rw c.in-status.is c.status_of.ensures

pub returns-in-enter : goal.returns-in-enter
returns-in-enter c = rw c.in-enter.is c.enter_of.ensures

pub returns-in-text : goal.returns-in-text
returns-in-text c = rw c.in-text.is c.lines_of.ensures

pub returns-in-log : goal.returns-in-log
returns-in-log c = rw c.in-log.is c.log_of.ensures

pub returns-in-sheet : goal.returns-in-sheet
returns-in-sheet c = rw c.in-sheet.is c.sheet_of.ensures
