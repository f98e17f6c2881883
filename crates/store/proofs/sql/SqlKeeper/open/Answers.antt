use Rattle.store.proofs.sql.SqlKeeper.open.Goals as goal

pub returns-clause-told : goal.returns-clause-told
returns-clause-told g c = (c.in-Err.field-0-1, c.in-Err.ensures.told)
