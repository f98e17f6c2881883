use Rattle.sqlite.specs.Files.{file_state}
use Rattle.desk_file.proofs.stored_log.Opened.{found}
use Rattle.desk_file.proofs.stored_log.reading.open.Goals as goal

pub returns-in-Ok-clause-found : goal.returns-in-Ok-clause-found
returns-in-Ok-clause-found g c clean =
    let fresh = c.in-Ok.ensures.opened clean in
    found _ (file_state c.in-Ok.conn) fresh.0 fresh.1 (c.in-Ok.ensures.found clean)
