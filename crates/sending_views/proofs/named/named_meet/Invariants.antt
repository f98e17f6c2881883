use Rattle.std.proofs.Common.{◌≡◌, drop}
use Rattle.answers.specs.Answers.{texts}
use Rattle.commands.specs.History.{history}
use Rattle.sending_views.proofs.Listed.{with_all}
use Rattle.sending_views.proofs.named.named_meet.Given as goal

-- the entries that were taken, and those that are left, come to the whole
abbrev pub invariant-loop-position : goal.invariant-loop-position
invariant-loop-position l =
    with_all l.meet (drop l.position l.log.entries) ≡ history (texts l.log.entries)
