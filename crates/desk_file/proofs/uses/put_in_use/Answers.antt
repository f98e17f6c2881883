use Rattle.sqlite.specs.Files.{file_state}
use Rattle.desk_file.proofs.Opened.{held_before}
use Rattle.desk_file.proofs.uses.put_in_use.Goals as goal

pub returns-in-Ok-begin_next : goal.returns-in-Ok-begin_next
returns-in-Ok-begin_next g c =
    let conn = file_state c.into_connection.result in (
      c.in_ok-files.files,
      c.begin_next.new.files,
      λ clean settled s log keeps. (
        conn.committed.trees,
        (c.in_ok-files.ensures.copied clean).seen,
        held_before conn _ s log (c.into_connection.ensures.kept settled s log keeps),
      ),
      c.in-Ok-begin_next.ensures.next,
    )
