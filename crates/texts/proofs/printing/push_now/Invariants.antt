use Rattle.std.proofs.Common.{◌≡◌, ◌++◌, drop, map}
use Rattle.texts.{specs.Spelling.stays_or_text, proofs.Splits.behind_each}
use Rattle.texts.proofs.printing.push_now.Given as goal

-- with the later outcomes it comes to all of them
abbrev pub invariant-loop-outcome : goal.invariant-loop-outcome
invariant-loop-outcome l =
    l.out.items ++ behind_each 47 (map stays_or_text (drop l.outcome-index l.later))
    ≡ l.initial.out.items ++ behind_each 47 (map stays_or_text l.later)
