-- The line of a row is that of its entrant.
use Rattle.std.proofs.Common.{◌≡◌, ℕ, List, [], refl, sym, ap, ◌∙◌}
use Rattle.std.specs.Prelude.{option_map, unwrap_or, Option}
use Rattle.serde_json.specs.Data.{Data}
use Rattle.rounds.specs.{declared.table.EntrantRow.EntrantRow, Rows.IsRow}
use Rattle.rounds.specs.Tables.{Entrant, Table}
use Rattle.sheets.specs.Sheet.{name_text}
use Rattle.texts.specs.declared.command.{Command.Command, RoundId.RoundId}
use Rattle.record_views.specs.Records.{entrant_line, line, line_of, person}

pub line_of_row : (file : Data) (cs : List Command) (id : RoundId) (t : Table) (n : ℕ) (e : Entrant)
    (row : EntrantRow) (name : List ℕ) (found : Option Data) → IsRow t n e row
    → name ≡ name_text cs n → found ≡ person n file
    → line id.event n name found row.average row.values.now ≡ line_of file cs id t n
line_of_row file cs id t n e row name found is named is_found =
    let whole : line id.event n name found row.average row.values.now
    ≡ entrant_line file cs id t n e =
    rw (named, is_found, is.values, is.average) refl in
    whole ∙ sym (ap (λ o. unwrap_or (option_map (entrant_line file cs id t n) o) []) is.entrant)
