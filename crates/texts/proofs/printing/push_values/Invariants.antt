use Rattle.std.proofs.Common.{◌≡◌, ◌++◌, drop, map}
use Rattle.texts.specs.{Parts.lent, Spelling.values_text}
use Rattle.texts.proofs.printing.push_values.Given as goal

-- with the later values it comes to all of them
abbrev pub invariant-loop-value : goal.invariant-loop-value
invariant-loop-value l =
    l.out.items ++ values_text (map lent (drop l.value-index l.values))
    ≡ l.initial.out.items ++ values_text (map lent l.values)
