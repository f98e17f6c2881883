-- Labels for all who are registered (the project's own).
use Rattle.std.specs.Prelude.{ℕ, ◌+◌, List, [], ◌∷◌, ◌++◌, codes, decimal, flat_map, Option}
use Rattle.std.specs.{Prelude.option_map, Prelude.unwrap_or, List.range_with_len}
use Rattle.markup.specs.{board_page.Escaped.escaped, Pieces.fill}
use Rattle.commands.specs.Accepted.{name_of}
use Rattle.competition_file.specs.Numbers.{text_of}
use Rattle.texts.specs.declared.command.Command.{Command}
use Rattle.table_entry_views.specs.{paper.Frame.top, paper.Seating.person_at, paper.Seating.wca_id}
use Rattle.table_entry_views.specs.declared.paper.frame.TheConstants.{BOTTOM}
use Rattle.table_entry_views.specs.declared.paper.labels.TheConstants.{LABEL}

abbrev pub country : Option (List ℕ) → ℕ → List ℕ
country file n = text_of (codes "countryIso2") (person_at file n)

-- number and name; and of the person in the file, where there is one, the WCA ID and the letters of
-- the country
abbrev pub label : Option (List ℕ) → ℕ → List ℕ → List ℕ
label file n name =
    fill LABEL.now
    (decimal n ∷ escaped name ∷ escaped (wca_id file n) ∷ escaped (country file n) ∷ [])

-- the label of the next number, where it is registered
abbrev pub next_label : List Command → Option (List ℕ) → ℕ → List ℕ
next_label accepted file n =
    unwrap_or (option_map (label file (n + 1)) (name_of accepted (n + 1))) []

-- those of the numbers up to this one
unfoldable pub labels : List Command → Option (List ℕ) → ℕ → List ℕ
labels accepted file last = flat_map (next_label accepted file) (range_with_len 0 last)

-- a label for each registered competitor, in the order of the numbers
abbrev pub labels_page : List Command → Option (List ℕ) → List ℕ
labels_page accepted file =
    top (codes "labels") (codes "labels") ++ labels accepted file 9999 ++ BOTTOM.now
