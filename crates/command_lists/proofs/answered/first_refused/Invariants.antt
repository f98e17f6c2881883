use Rattle.std.proofs.Common.{◌≡◌, drop}
use Rattle.command_lists.specs.Answered.{refused_from}
use Rattle.command_lists.proofs.answered.first_refused.Given as goal

abbrev pub invariant-loop-place : goal.invariant-loop-place
invariant-loop-place l = refused_from l.place (drop l.place l.answers) ≡ refused_from 0 l.answers
