use Rattle.std.proofs.Common.{◌≡◌, ◌++◌, flat_map, drop}
use Rattle.sheets.specs.model.Shown.{line_shown}
use Rattle.sheets.proofs.as_text.push_lines.Given as goal

-- the lines so far and those of what is left
abbrev pub invariant-loop-number : goal.invariant-loop-number
invariant-loop-number l =
    l.out.items
    ++ flat_map (line_shown l.shown) (drop l.number-index l.numbers) ≡ l.initial.out.items
    ++ flat_map (line_shown l.shown) l.numbers
