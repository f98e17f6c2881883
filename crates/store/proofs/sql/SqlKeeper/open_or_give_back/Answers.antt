use Rattle.std.proofs.Common.{refl, rules, []}
use Rattle.acceptor.specs.Storing.{first_stored}
use Rattle.sqlite.specs.Held.{state}
use Rattle.store.proofs.Settled.{kept_all}
use Rattle.store.proofs.sql.SqlKeeper.open_or_give_back.Goals as goal

pub returns-in-Ok-clause-opened : goal.returns-in-Ok-clause-opened
returns-in-Ok-clause-opened g c clean =
    let end = state g.S.Store c.prepare.new.conn in
    record {
      honest = c.prepare.ensures.clean clean;
      kept =
          let all = c.in-Ok.ensures.found clean in (
            all.0,
            all.1,
            all.4,
            (
              refl,
              all.3,
              kept_all _ _ _ end all.0 all.1 all.2 (search rules) all.5,
            ),
          );
      found = c.in-Ok.ensures.before clean;
      made =
          λ bare.
          let all = c.in-Ok.ensures.made c.requires.autocommit clean bare in
          (refl, all.1, kept_all _ _ _ end first_stored [] all.0 (search rules) all.2);
      same =
          λ s log k.
          let all = c.in-Ok.ensures.same clean s log k in
          (refl, all.1, kept_all _ _ _ end s log all.0 (search rules) all.2);
    }

pub returns-in-Err-clause-told : goal.returns-in-Err-clause-told
returns-in-Err-clause-told g c clean = record {
  honest = c.prepare.ensures.clean clean;
  tells = record {
    damaged =
        λ is away s log sound k.
        c.prepare.ensures.damaged (rw is at c.in-Err.is) clean away s log sound k;
    own = λ is away s h. c.prepare.ensures.own (rw is at c.in-Err.is) clean away s h;
    wrong = λ is. c.prepare.ensures.wrong (rw is at c.in-Err.is) clean;
  };
  fresh =
      λ is.
      c.prepare.ensures.fresh (rw is at c.in-Err.is) clean c.requires.in_range
      c.requires.autocommit;
  remains = c.prepare.ensures.remains clean;
}
