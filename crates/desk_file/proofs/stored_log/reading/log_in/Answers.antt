use Rattle.std.proofs.lemmas.Result.{IfOk-weaker}
use Rattle.sqlite.specs.Held.{state}
use Rattle.desk_file.proofs.stored_log.Opened.{kept_in}
use Rattle.desk_file.proofs.stored_log.reading.log_in.Goals as goal

pub returns-in-Ok-open-clause-log : goal.returns-in-Ok-open-clause-log
returns-in-Ok-open-clause-log g c =
    IfOk-weaker c.kept_log.result _ _ (λ log k. (
      k.0,
      λ honest.
          let was = k.1 honest in
          let opens = c.in-Ok-open.ensures.opened was.0 in (
            c.in-Ok.ensures.clean opens.honest,
            kept_in c.in-Ok.home (state g.S.Store c.args.conn)
                (state g.S.Store c.home_in.new.conn) _ log.entries c.in-Ok.ensures.home
                (c.in-Ok.ensures.same opens.honest) c.in-Ok.ensures.table opens was.1,
          ),
    )) c.kept_log.ensures.log
