use Rattle.replica.proofs.replica.Replica.load.Goals as goal

pub returns-in-Ok-new-clause-stored : goal.returns-in-Ok-new-clause-stored
returns-in-Ok-new-clause-stored g c honest =
    rw c.in-Ok-new.ensures (g.met.K.Keeper.alone _ _ _ honest (c.in-Ok.ensures.kept honest))
