use Rattle.serve.proofs.opening.as_asked.Goals as goal

pub returns-in-New-clause-kept : goal.returns-in-New-clause-kept
returns-in-New-clause-kept g c = rw c.in-New.is c.first_of.ensures.first
