use Rattle.sqlite.specs.Files.{file_state}
use Rattle.desk_file.proofs.stored_log.Opened.{read_from}
use Rattle.desk_file.proofs.stored_log.reading.log_of.Goals as goal

pub returns-in-Ok-clause-log : goal.returns-in-Ok-clause-log
returns-in-Ok-clause-log g c =
    read_from _ _ (file_state c.in-Ok.conn) c.log_in.result c.in-Ok.ensures.found
    c.log_in.ensures.log
