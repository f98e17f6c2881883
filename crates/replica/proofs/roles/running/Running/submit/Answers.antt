use Rattle.replica.specs.contracts.roles.running.Running.{the_view}
use Rattle.replica.proofs.roles.Steps.{refuses_passed}
use Rattle.replica.proofs.roles.running.Running.submit.Goals as goal

pub returns-clause-refused : goal.returns-clause-refused
returns-clause-refused c =
    rw (← c.self.view_is) (refuses_passed (the_view c.self.inside).desk c.submit.result _
    (rw (← c.len-len.ensures.len) c.submit.ensures.refused))
