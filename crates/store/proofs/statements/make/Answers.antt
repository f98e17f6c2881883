use Rattle.store.proofs.statements.make.Goals as goal

pub returns-in-Promised-clause-makes : goal.returns-in-Promised-clause-makes
returns-in-Promised-clause-makes g c clean home t more past k last =
    rw c.in-Promised.is (c.promise.ensures.makes clean home t more past k)

pub returns-in-Voted-clause-makes : goal.returns-in-Voted-clause-makes
returns-in-Voted-clause-makes g c clean home t more past k last =
    rw c.in-Voted.is (c.vote.ensures.makes clean home t more past k)

pub returns-in-Tried-clause-makes : goal.returns-in-Tried-clause-makes
returns-in-Tried-clause-makes g c clean home t more past k last =
    rw c.in-Tried.is (c.try_number.ensures.makes clean home t more past k)

pub returns-in-Appended-clause-makes : goal.returns-in-Appended-clause-makes
returns-in-Appended-clause-makes g c clean home t more past k last =
    rw c.in-Appended.is (c.append.ensures.makes clean home t more past k last)
