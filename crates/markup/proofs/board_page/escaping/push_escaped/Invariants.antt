use Rattle.std.proofs.Common.{◌≡◌, ◌++◌, drop}
use Rattle.markup.specs.board_page.Escaped.{escaped}
use Rattle.markup.proofs.board_page.escaping.push_escaped.Given as goal

-- what was written, and what is written for the bytes that are left, is the whole
abbrev pub invariant-loop-byte : goal.invariant-loop-byte
invariant-loop-byte l =
    l.out.items ++ escaped (drop l.byte-index l.text) ≡ l.initial.out.items ++ escaped l.text
