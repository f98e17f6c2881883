-- The fields of a card's form (the project's own).
use Rattle.std.specs.Prelude.{ℕ, ◌-◌, List, [], ◌∷◌, ◌++◌, codes, decimal, flat_map, slice_get}
use Rattle.std.specs.Prelude.{Bool, true, false, Option, None, Some, option_map, unwrap_or}
use Rattle.std.specs.Prelude.{if◌then◌else◌, length, nat_lt}
use Rattle.attempts.specs.declared.{Unit.Unit as Measure, Value.Value}
use Rattle.markup.specs.{board_page.Escaped.escaped, Pieces.fill}
use Rattle.card_forms.specs.Readings.{is_untouched, shown_at, text_at}
use Rattle.card_forms.specs.declared.cards.CardForm.{CardForm}
use Rattle.formats.specs.declared.events.Format.{Format}
use Rattle.rounds.specs.Tables.{Table}
use Rattle.round_counts.specs.Counts.{numbers_in}
use Rattle.texts.specs.declared.command.Command.{Command}
use Rattle.table_views.specs.{People.number_in, People.name_in, Standing.values_of}
use Rattle.table_entry_views.specs.declared.{draft.Draft.Draft, notes.CardNote.CardNote}
use Rattle.table_entry_views.specs.declared.draft.Draft.TheVariants.{Empty, Number, Typed}
use Rattle.table_entry_views.specs.Notes.{field_end, said_at}
use Rattle.table_entry_views.specs.declared.fields.TheConstants.{CARRIED, FIELD_START, NUMBER_START}

-- ---- what a form is filled in with

abbrev pub notes_of : Draft → List CardNote
notes_of Empty = []
notes_of (Number number) = []
notes_of (Typed form notes) = notes.now

-- whose card it is
abbrev pub competitor_of : Draft → Option ℕ
competitor_of Empty = None
competitor_of (Number number) = Some number
competitor_of (Typed form notes) = number_in form.now.number

-- the values that count of a competitor, if there is one and it is in the round
abbrev pub standing_of : Table → Draft → List Value
standing_of t draft = unwrap_or (option_map (values_of t) (competitor_of draft)) []

-- the name of a competitor, if there is one
abbrev pub name_if : List Command → Option ℕ → List ℕ
name_if accepted None = []
name_if accepted (Some number) = escaped (name_in accepted number)

abbrev pub number_text : Draft → List ℕ
number_text Empty = []
number_text (Number number) = decimal number
number_text (Typed form notes) = escaped form.now.number

-- the text of the field at a place, counted from 0: what was entered for its attempt, where that
-- counts and is known
abbrev pub own_text : List Value → List (List ℕ) → ℕ → List ℕ
own_text values filled place = if nat_lt place (length values) then text_at filled place else []

abbrev pub inside_by : Measure → List Value → ℕ → List ℕ → List ℕ
inside_by unit values place [] = shown_at unit values place
inside_by unit values place (b ∷ bs) = escaped (b ∷ bs)

-- what fills a field in: its own text, where it has one, and else what the attempt counts
abbrev pub inside : Measure → List Value → List (List ℕ) → ℕ → List ℕ
inside unit values filled place = inside_by unit values place (own_text values filled place)

-- a field that is as its page filled it in has what fills it in now, and else what was typed
abbrev pub typed_or : Bool → List ℕ → List ℕ → List ℕ
typed_or true stands text = stands
typed_or false stands text = escaped text

abbrev pub typed_by : CardForm → Measure → List Value → List (List ℕ) → ℕ → Option (List ℕ) → List ℕ
typed_by form unit values filled place None = []
typed_by form unit values filled place (Some text) =
    typed_or (is_untouched unit form.was form.filled place text) (inside unit values filled place)
    text

-- what was typed into the field at a place, counted from 0
abbrev pub typed_filled : CardForm → Measure → List Value → List (List ℕ) → ℕ → List ℕ
typed_filled form unit values filled place =
    typed_by form unit values filled place (slice_get form.attempts place)

-- what an attempt's field is filled in with: what was entered or counts, or what was typed
abbrev pub filled : Draft → Measure → List Value → List (List ℕ) → ℕ → List ℕ
filled Empty unit values texts place = []
filled (Number number) unit values texts place = inside unit values texts place
filled (Typed form notes) unit values texts place = typed_filled form.now unit values texts place

-- the text that fills a field in, unseen, where it has its own
abbrev pub carried : ℕ → List ℕ → List ℕ
carried attempt [] = []
carried attempt (b ∷ bs) = fill CARRIED.now (decimal attempt ∷ escaped (b ∷ bs) ∷ [])

-- ---- the fields

-- the competitor's name, and where names that are found are listed
unfoldable pub who : List Command → Option ℕ → List ℕ
who accepted number =
    codes "<output id=\"who\"><bdi>" ++ name_if accepted number
    ++ codes "</bdi></output><ul id=\"found\"></ul>"

-- the competitor's field, with the name and what is said of it
unfoldable pub number_field : List Command → Draft → List ℕ
number_field accepted draft =
    NUMBER_START.now ++ number_text draft ++ field_end 0 (notes_of draft)
    ++ who accepted (competitor_of draft) ++ said_at 0 (notes_of draft) ++ codes "</div>\n"

abbrev pub field_start : ℕ → List ℕ
field_start attempt =
    fill FIELD_START.now (decimal attempt ∷ decimal attempt ∷ decimal attempt ∷ decimal attempt
    ∷ [])

unfoldable pub stands_start : List ℕ
stands_start = codes "<output></output><span class=\"stands\">"

-- what is beside a field, and what is said of it
unfoldable pub beside_field : Draft → Measure → List Value → ℕ → List ℕ
beside_field draft unit values attempt =
    stands_start ++ shown_at unit values (attempt - 1) ++ codes "</span>"
    ++ said_at attempt (notes_of draft) ++ codes "</p>\n"

-- the field of an attempt, with what is beside it and what is said of it
unfoldable pub field : Draft → Measure → List Value → List (List ℕ) → ℕ → List ℕ
field draft unit values texts attempt =
    field_start attempt ++ filled draft unit values texts (attempt - 1)
    ++ field_end attempt (notes_of draft) ++ carried attempt (own_text values texts (attempt - 1))
    ++ beside_field draft unit values attempt

-- a field for each attempt of the format
abbrev pub fields : Draft → Measure → List Value → List (List ℕ) → Format → List ℕ
fields draft unit values texts format =
    flat_map (field draft unit values texts) (numbers_in format)
