use Rattle.sqlite.specs.Files.{file_state}
use Rattle.desk_file.proofs.Opened.{first_on, is_there, table_on}
use Rattle.desk_file.proofs.opening.make_keeper.Goals as goal

pub returns-in-Ok-open : goal.returns-in-Ok-open
returns-in-Ok-open g c =
    record {
      made =
          first_on _ _ c.args.home (file_state c.in-Ok.conn) c.in-Ok-open.keeper
          c.in-Ok.ensures.opened c.in-Ok.ensures.found
          (c.has_nothing.ensures.0 c.if-not-has_nothing.false) c.in-Ok-open.ensures.home
          c.in-Ok-open.ensures.failures c.in-Ok-open.ensures.settled c.in-Ok-open.ensures.opened;
      there = tt;
    }

pub returns-then-not-has_nothing : goal.returns-then-not-has_nothing
returns-then-not-has_nothing g c =
    record {
      made = tt;
      there = (
        c.in-Ok.conn,
        table_on _ (file_state c.in-Ok.conn) c.in-Ok.ensures.opened c.in-Ok.ensures.found
            (is_there c.has_nothing.result _ c.has_nothing.ensures.1 c.if-not-has_nothing.true),
      );
    }
