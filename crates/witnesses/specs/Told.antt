-- Entries that are given to a mirror (the project's own).
use Rattle.std.specs.Prelude.{ℕ, List, [], ◌∷◌, codes, Some}
use Rattle.acceptor.specs.declared.entry.Entry.{Entry}
use Rattle.mirror.specs.Fronts.{LogsOfAgree, TakesAll, Telling}
use Rattle.mirror.specs.declared.mirror.MirrorGrowth.TheVariants.{Gap, Grew, Known}

abbrev pub entry : ℕ → List ℕ → Entry
entry id text = record { id = id; text = text }

-- three commands, and the first two of them
abbrev pub long_log : List Entry
long_log =
    entry 11 (codes "REG 1 Ann") ∷ entry 12 (codes "REG 2 Ben") ∷ entry 13 (codes "REG 3 Cas") ∷ []

abbrev pub short_log : List Entry
short_log = entry 11 (codes "REG 1 Ann") ∷ entry 12 (codes "REG 2 Ben") ∷ []

-- the first of the short one, then all of the long one, then the second of the short one again, and
-- one past the mirror's end
abbrev pub first_told : Telling
first_told = record { log = short_log; position = 0; count = 1; outcome = Some Grew }

abbrev pub second_told : Telling
second_told = record { log = long_log; position = 0; count = 3; outcome = Some Grew }

abbrev pub third_told : Telling
third_told = record { log = short_log; position = 1; count = 1; outcome = Some Known }

abbrev pub fourth_told : Telling
fourth_told = record { log = long_log; position = 5; count = 1; outcome = Some Gap }

abbrev pub tellings : List Telling
tellings = first_told ∷ second_told ∷ third_told ∷ fourth_told ∷ []

pub record WorksMirror : Type 0 where
  pub agree : LogsOfAgree tellings
  pub takes : TakesAll [] tellings long_log
