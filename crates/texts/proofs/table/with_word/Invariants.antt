use Rattle.std.proofs.Common.{◌≡◌, drop, find, map, bytes_eq}
use Rattle.texts.specs.Table.{plain}
use Rattle.texts.proofs.table.with_word.Given as goal

-- none of those so far has the word
abbrev pub invariant-loop-row : goal.invariant-loop-row
invariant-loop-row l =
    find (λ row. bytes_eq row.word l.word) (map plain (drop l.row-index l.rows))
    ≡ find (λ row. bytes_eq row.word l.word) (map plain l.rows)
