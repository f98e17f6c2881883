use Rattle.std.proofs.Common.{◌≡◌, ◌++◌}
use Rattle.hall.specs.Texts.{messages_text}
use Rattle.hall.proofs.printing.push_messages.Given as goal

-- what was printed, and what is printed for the messages that are left, is the whole
abbrev pub invariant-loop-place : goal.invariant-loop-place
invariant-loop-place l =
    l.out.items ++ messages_text l.place l.sent
    ≡ l.initial.out.items ++ messages_text l.fn.told l.sent
