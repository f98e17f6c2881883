use Rattle.std.proofs.Common.{◌≡◌, ◌++◌, drop, map}
use Rattle.texts.{specs.Spelling.counted_text, proofs.Splits.behind_each}
use Rattle.texts.proofs.printing.push_was.Given as goal

-- with the later values it comes to all of them
abbrev pub invariant-loop-value : goal.invariant-loop-value
invariant-loop-value l =
    l.out.items ++ behind_each 44 (map counted_text (drop l.value-index l.later))
    ≡ l.initial.out.items ++ behind_each 44 (map counted_text l.later)
