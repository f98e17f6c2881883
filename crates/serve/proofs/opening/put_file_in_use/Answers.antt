use Rattle.serve.proofs.opening.put_file_in_use.Goals as goal

pub returns-in-Ok-clause-used : goal.returns-in-Ok-clause-used
returns-in-Ok-clause-used g c =
    (c.in_ok-keeper.keeper, c.in_ok-keeper.ensures.opened, c.in-Ok.ensures)
