use Rattle.sqlite.specs.Files.{file_state}
use Rattle.desk_file.proofs.{Opened.held_before, Using.some_is}
use Rattle.desk_file.proofs.making.fill.Goals as goal

pub returns-in-Ok-close_whole : goal.returns-in-Ok-close_whole
returns-in-Ok-close_whole g c =
    let conn = file_state c.into_connection.result in (
      c.in-Some.keeper,
      some_is _ c.in-Ok.made c.in-Some.keeper c.in-Some.is c.in-Ok.ensures.made,
      c.in-Ok-close_whole.files,
      λ clean settled s log keeps. (
        conn.committed.trees,
        (c.in-Ok-close_whole.ensures.copied clean).seen,
        held_before conn _ s log (c.into_connection.ensures.kept settled s log keeps),
      ),
    )
