use Rattle.std.proofs.Common.{◌≡◌, ◌++◌, flat_map, take}
use Rattle.standings.specs.AsText.{line_text}
use Rattle.standings.proofs.as_text.push_lines.Given as goal

abbrev pub invariant-loop-one : goal.invariant-loop-one
invariant-loop-one l =
    l.out.items ≡ l.initial.out.items ++ flat_map (line_text l.size) (take l.one-index l.polled)
