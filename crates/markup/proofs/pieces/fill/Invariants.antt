use Rattle.std.proofs.Common.{◌≡◌, ◌++◌, drop, map}
use Rattle.markup.specs.Pieces.{fill, piece_text}
use Rattle.markup.proofs.pieces.fill.Given as goal

-- what was written, and what is written for the bytes and pieces that are left, is the whole
abbrev pub invariant-loop-byte : goal.invariant-loop-byte
invariant-loop-byte l =
    l.out.items
    ++ fill (drop l.byte-index l.html) (map piece_text (drop l.next l.pieces))
    ≡ l.initial.out.items ++ fill l.html (map piece_text l.pieces)
