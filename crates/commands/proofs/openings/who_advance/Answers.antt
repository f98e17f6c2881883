use Rattle.std.specs.List.{IsDistinct}
use Rattle.commands.proofs.openings.who_advance.Goals as goal

pub returns-in-None-clause-each_once : goal.returns-in-None-clause-each_once
unfolding IsDistinct
returns-in-None-clause-each_once c = rw c.new.ensures.items tt
