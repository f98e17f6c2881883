use Rattle.std.proofs.Common.{◌≡◌, drop, find, map}
use Rattle.texts.specs.Table.{plain, same_tag}
use Rattle.texts.proofs.table.with_tag.Given as goal

-- none of those so far has the tag
abbrev pub invariant-loop-row : goal.invariant-loop-row
invariant-loop-row l =
    find (λ row. same_tag row.tag l.tag) (map plain (drop l.row-index l.rows))
    ≡ find (λ row. same_tag row.tag l.tag) (map plain l.rows)
