use Rattle.std.proofs.Common.{◌≡◌, ◌++◌, flat_map, drop}
use Rattle.board_rounds.specs.model.Shown.{listed_shown}
use Rattle.board_rounds.proofs.lines.push_lines.Given as goal

-- the lines so far and those of what is left
abbrev pub invariant-loop-number : goal.invariant-loop-number
invariant-loop-number l =
    l.out.items ++ flat_map (listed_shown l.podium l.shown) (drop l.number-index l.numbers)
    ≡ l.initial.out.items ++ flat_map (listed_shown l.podium l.shown) l.numbers
