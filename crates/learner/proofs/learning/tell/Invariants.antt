use Rattle.std.proofs.Common.{◌≡◌, ◌-◌, take, drop}
use Rattle.learner.specs.Learning.{told}
use Rattle.learner.proofs.learning.tell.Given as goal

abbrev pub invariant-loop-pos : goal.invariant-loop-pos
invariant-loop-pos l =
    l.messages.items
    ≡ told l.from l.to l.first (take (l.pos - l.first) (drop l.first l.log.entries))
