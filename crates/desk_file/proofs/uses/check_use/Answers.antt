use Rattle.desk_file.specs.Marks.{AreApart, AreWhole}
use Rattle.desk_file.proofs.Using.{as_they_were, fresh_db, fresh_log, tells_ok, there_ok}
use Rattle.desk_file.proofs.uses.check_use.Goals as goal

pub returns-in-Ok-clause-ok : goal.returns-in-Ok-clause-ok
returns-in-Ok-clause-ok g c =
    let fresh = c.in-Ok.ensures.fresh in
    there_ok c.judge.result _ c.judge.new.files
    (tells_ok _ _ c.judge.result AreWhole (fresh_log g.S.Start c.in-Ok.files.log fresh.0)
    (fresh_db g.S.Start c.in-Ok.files.db fresh.1) c.judge.ensures.ok)

pub returns-in-Ok-clause-damaged : goal.returns-in-Ok-clause-damaged
returns-in-Ok-clause-damaged g c is =
    let fresh = c.in-Ok.ensures.fresh in (
      c.judge.new.files,
      λ log db. as_they_were AreApart (fresh_log g.S.Start c.in-Ok.files.log fresh.0)
          (fresh_db g.S.Start c.in-Ok.files.db fresh.1) (c.judge.ensures.damaged is log db),
    )
