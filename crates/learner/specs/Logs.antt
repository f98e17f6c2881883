-- A log: its entries by position, and the room for more (the project's own).
use Rattle.std.specs.Prelude.{ℕ, ◌-◌, List, [], ◌∷◌, ◌++◌, Option, ◌==◌}
use Rattle.std.specs.List.{position_from}
use Rattle.acceptor.specs.declared.entry.Entry.{Entry}

pub record LogValue : Type 0 where
  pub entries : List Entry
  pub room : ℕ

abbrev pub empty_log : LogValue
empty_log = record { entries = []; room = 0 }

-- the log after room for one more entry was made
abbrev pub reserved : LogValue → LogValue
reserved l = record { entries = l.entries; room = 1 }

-- the log after the entry was put at its end
abbrev pub appended : LogValue → Entry → LogValue
appended l e = record { entries = l.entries ++ e ∷ []; room = l.room - 1 }

-- the first position that has an entry of this id
abbrev pub position_of : List Entry → ℕ → Option ℕ
position_of entries id = position_from (λ e. e.id == id) 0 entries
