use Rattle.serve.proofs.opening.open_store.Goals as goal

pub returns-clause-opened : goal.returns-clause-opened
returns-clause-opened g c = c.in_ok-keeper.ensures.kept _ c.args.home c.in_ok-opened.ensures.opened

pub returns-clause-used : goal.returns-clause-used
returns-clause-used g c = c.in_ok-number.ensures.used
