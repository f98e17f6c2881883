use Rattle.arguments.proofs.task.task_named.Goals as goal

pub returns-in-replay : goal.returns-in-replay
returns-in-replay c = rw c.in-replay.is c.replayed.ensures

pub returns-in-import : goal.returns-in-import
returns-in-import c = rw c.in-import.is c.import_of.ensures

pub returns-in-export : goal.returns-in-export
returns-in-export c = rw c.in-export.is c.export_of.ensures

pub returns-in-results : goal.returns-in-results
returns-in-results c = rw c.in-results.is c.results_of.ensures

pub returns-in-hall : goal.returns-in-hall
returns-in-hall c = rw c.in-hall.is c.hall_of.ensures

pub returns-in-text : goal.returns-in-text
returns-in-text c = rw c.in-text.is c.hall_file_of.ensures

pub returns-in-key : goal.returns-in-key
returns-in-key c = rw c.in-key.is c.key_of.ensures
