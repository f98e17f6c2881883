-- What a reader of comma-separated values finds in the table of a sheet (the project's own).
use Rattle.std.specs.Prelude.{◌≡◌, ℕ, List, ◌∷◌, map, Some}
use Rattle.std.specs.List.{AllByRecursion}
use Rattle.csv.specs.Reading.{AreRecords, default_config, strip_bom}
use Rattle.formats.specs.{declared.events.Event.Event, Results.average_of}
use Rattle.formats.specs.Events.{attempts_of, unit_of}
use Rattle.rounds.specs.Tables.{Entrant, Table, entrant, number_of_entrant, place, standings}
use Rattle.texts.specs.declared.command.{Command.Command, Settings.Settings}
use Rattle.commands.specs.Accepted.{round_of, seen_of}
use Rattle.sheets.specs.Sheet.{entrant_fields, header, is_marked, name_text, table_sheet}
use Rattle.csv.specs.declared.parser.State.TheVariants as st

-- the round's entrants in order of its standings
abbrev pub AreInOrder : Table → List Entrant → Type 0
AreInOrder t es =
    (map number_of_entrant es ≡ standings t) × AllByRecursion (λ e. entrant t e.number ≡ Some e) es

-- place, number, name, average, best, attempts and mark of an entrant, as they are printed
abbrev pub fields_of_entrant : List Command → Event → ℕ → Settings × Table → Entrant → List (List ℕ)
fields_of_entrant cs event round r e =
    entrant_fields (unit_of event) (attempts_of r.0.format) (place r.1 e) e.number
    (name_text cs e.number) (average_of r.1.format r.1.unit e.values) e.values
    (is_marked r.1 (seen_of cs event round) e.number)

-- of every round that was opened, the table reads as the header, and then one record for each
-- entrant in order of standings
abbrev pub TableReadsBack : Type 0
TableReadsBack =
    (cs : List Command) (event : Event) (round : ℕ) (r : Settings × Table)
    → round_of cs event round ≡ Some r → (text : List ℕ) × (table_sheet cs event round ≡ Some text)
    × (es : List Entrant) × AreInOrder r.1 es
    × AreRecords default_config st.StartRecord (strip_bom text)
    (header (attempts_of r.0.format) ∷ map (fields_of_entrant cs event round r) es)
