-- What is printed of a row is what is printed of its entrant.
use Rattle.std.proofs.Common.{◌≡◌, ℕ, Bool, List, [], ◌++◌, Some, refl, sym, ap, ◌∙◌, append_assoc}
use Rattle.std.specs.Prelude.{option_map, unwrap_or}
use Rattle.attempts.specs.declared.{Unit.Unit as Measure, Value.Value}
use Rattle.formats.specs.declared.{events.Event.Event, results.Averaged.Averaged}
use Rattle.formats.specs.{Events.attempts_of, Results.average_of}
use Rattle.csv.specs.Writing.{row_text, default_writer}
use Rattle.texts.specs.declared.command.{Command.Command, Settings.Settings}
use Rattle.commands.specs.Accepted.{round_of}
use Rattle.rounds.specs.{declared.table.EntrantRow.EntrantRow, Rows.IsRow}
use Rattle.rounds.specs.Tables.{Entrant, Table, place}
use Rattle.sheets.specs.Sheet.{name_text, results, attempts, person, entrant_line, line_of}
use Rattle.sheets.specs.Sheet.{entrant_fields, entrant_record, record_of}

pub line_of_row : (unit : Measure) (cs : List Command) (settings : Settings) (t : Table)
    (marks : ℕ → Bool) (n : ℕ) (e : Entrant) (row : EntrantRow) (shown : Measure) (count : ℕ)
    (marked : Bool) (name : List ℕ) → IsRow t n e row
    → shown ≡ unit → count ≡ attempts_of settings.format → marked ≡ marks n → name ≡ name_text cs n
    → results shown row.place row.average row.values.now ++ attempts shown count row.values.now
    ++ person n marked name ≡ line_of unit cs settings t marks n
unfolding entrant_line
line_of_row unit cs settings t marks n e row shown count marked name is in_unit of_format
    as_marked named =
    let line : results shown row.place row.average row.values.now
    ++ attempts shown count row.values.now ++ person n marked name
    ≡ entrant_line unit settings t marks n (name_text cs n) e =
    rw (in_unit, of_format, as_marked, named, is.values, is.average, is.place) refl in
    line ∙ sym
    (ap (λ o. unwrap_or
    (option_map (entrant_line unit settings t marks n (name_text cs n)) o) []) is.entrant)

pub record_of_row : (unit : Measure) (cs : List Command) (settings : Settings) (t : Table)
    (marks : ℕ → Bool) (n : ℕ) (e : Entrant) (row : EntrantRow) (marked : Bool) → IsRow t n e row
    → marked ≡ marks n
    → row_text default_writer (entrant_fields unit (attempts_of settings.format) row.place n
    (name_text cs n) row.average row.values.now marked) ≡ record_of unit cs settings t marks n
unfolding entrant_record
record_of_row unit cs settings t marks n e row marked is as_marked =
    let text : ℕ → Averaged → List Value → List ℕ =
    λ place average vs. row_text default_writer
    (entrant_fields unit (attempts_of settings.format) place n (name_text cs n) average vs
    (marks n)) in
    ap (λ m.
    row_text default_writer
    (entrant_fields unit (attempts_of settings.format) row.place n (name_text cs n) row.average
    row.values.now m)) as_marked
    ∙ ap (λ p. text p row.average row.values.now) is.place
    ∙ ap (λ a. text (place t e) a row.values.now) is.average
    ∙ ap (λ vs. text (place t e) (average_of t.format t.unit e.values) vs) is.values
    ∙ sym (ap (λ o. unwrap_or
    (option_map (entrant_record unit settings t marks n (name_text cs n)) o) []) is.entrant)

-- a text of two parts, each behind the one before, the first behind nothing
pub two_parts : (out top rows first second a b text : List ℕ) → out ≡ [] → first ≡ out ++ top
    → second ≡ first ++ rows → text ≡ second → top ≡ a → rows ≡ b → text ≡ a ++ b
two_parts out top rows first second a b text none one two is at_top below =
    is ∙ two ∙ rw (one, none, at_top, below) refl

-- what is printed of a round that is shown is what is printed of the round of its meet
pub printed : (print : List Command → Event → ℕ → Settings × Table → List ℕ)
    (cs ds : List Command) (e f : Event) (r s : ℕ) (round : Settings × Table) (text : List ℕ)
    → cs ≡ ds → e ≡ f → r ≡ s → text ≡ print cs e r round → Some round ≡ round_of ds f s
    → option_map (print ds f s) (round_of ds f s) ≡ Some text
printed print cs ds e f r s round text meet event number is found =
    ap (option_map (print ds f s)) (sym found)
    ∙ ap Some (sym (is ∙ ap (λ x. print x e r round) meet ∙ ap (λ x. print ds x r round) event
    ∙ ap (λ x. print ds f x round) number))

-- a text of three parts, each behind the one before
pub three_parts : (out a b c x y z : List ℕ) → x ≡ out ++ a → y ≡ x ++ b → z ≡ y ++ c
    → z ≡ out ++ (a ++ b ++ c)
three_parts out a b c x y z p q r =
    r ∙ ap (λ w. w ++ c) (q ∙ ap (λ w. w ++ b) p)
    ∙ rw (append_assoc out a b, append_assoc out (a ++ b) c) refl
