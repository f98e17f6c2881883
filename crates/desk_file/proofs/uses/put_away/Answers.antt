use Rattle.sqlite.specs.Files.{file_state}
use Rattle.desk_file.proofs.Opened.{held_before}
use Rattle.desk_file.proofs.uses.put_away.Goals as goal

pub returns-in-Ok : goal.returns-in-Ok
returns-in-Ok g c =
    let conn = file_state c.into_connection.result in
    let ended = c.in-Ok.ensures in (
      c.in_ok-files.files,
      c.end_use.new.db,
      λ clean settled s log keeps. (
        conn.committed.trees,
        (c.in_ok-files.ensures.copied clean).seen,
        held_before conn _ s log (c.into_connection.ensures.kept settled s log keeps),
      ),
      ended.free,
      ended.synced,
      c.end_use.ensures.others,
    )
