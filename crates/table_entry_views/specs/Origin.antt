-- Where what is on a card comes from (the project's own).
use Rattle.std.specs.Prelude.{ℕ, Bool, true, false, List, [], ◌∷◌, ◌++◌, codes, decimal, Option}
use Rattle.std.specs.{Prelude.None, Prelude.Some, Option.option_copied}
use Rattle.markup.specs.{Pieces.fill, board_page.Escaped.escaped}
use Rattle.table_entry_views.specs.declared.origin.Origin.{Origin}
use Rattle.table_entry_views.specs.declared.origin.TheConstants.{ENTRY, REMARK}

abbrev pub place_words : Bool → List ℕ
place_words true = codes "entered at this table"
place_words false = codes "from no card of this table"

-- which entry it is, and where it was entered
abbrev pub entry_words : ℕ → Bool → List ℕ
entry_words position here = fill ENTRY.now (decimal position ∷ place_words here ∷ [])

-- the remark of an entry, if it has one
abbrev pub remark_words : Option (List ℕ) → List ℕ
remark_words None = []
remark_words (Some remark) = fill REMARK.now (escaped remark ∷ [])

abbrev pub origin_words : Origin → List ℕ
origin_words origin =
    entry_words origin.position origin.here ++ remark_words (option_copied origin.remark)
    ++ codes "</p>\n"

-- the entry that last said what counts, where it was entered, and its remark; nothing where that is
-- not known
abbrev pub origin_line : Option Origin → List ℕ
origin_line None = []
origin_line (Some origin) = origin_words origin
