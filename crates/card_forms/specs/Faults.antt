-- What is wrong with a command's form, where it asks for no command (the project's own).
use Rattle.std.specs.Prelude.{◌≡◌, ◌⊎◌, ℕ, ◌==◌, ◌++◌, Bool, true, false, if◌then◌else◌, bytes_eq}
use Rattle.std.specs.Prelude.{codes, decimal, length, nat_le, nat_lt, ◌&&◌, List, [], ◌∷◌, IsTrue}
use Rattle.std.specs.Prelude.{Option, None, Some, Result, Ok}
use Rattle.std.specs.{List.list_any, Option.option_map}
use Rattle.attempts.specs.declared.Unit.{Unit as Measure}
use Rattle.cube.specs.declared.notation.reading.NotationFault.{NotationFault}
use Rattle.formats.specs.{declared.events.Event.Event, Events.event_of_name, Events.unit_of}
use Rattle.scorecard.specs.declared.fault.ScorecardFault.{ScorecardFault}
use Rattle.texts.specs.declared.{command.Entered.Entered, table.FieldKind.FieldKind}
use Rattle.texts.specs.{declared.value.FieldValue.FieldValue, Fields.number_between}
use Rattle.texts.specs.Table.{TheRow, row_named}
use Rattle.card_forms.specs.declared.command_faults.{CommandFormFault.CommandFormFault, Field.Field}
use Rattle.card_forms.specs.declared.command_faults.{FieldFault.FieldFault, FieldError.FieldError}
use Rattle.card_forms.specs.{declared.pairs.Pair.Pair, Cards.form_id_of, Pairs.value_of}
use Rattle.card_forms.specs.Asking.{FieldsAsk, HasValue, IsCommandText, field as value_in, has_form}
use Rattle.card_forms.specs.Asking.{has_round, the_round}
use Rattle.attempts.specs.declared.Unit.TheVariants as measure
use Rattle.cube.specs.declared.notation.reading.NotationFault.TheVariants as read
use Rattle.texts.specs.declared.command.Entered.TheVariants as entered
use Rattle.texts.specs.declared.table.FieldKind.TheVariants as kind
use Rattle.card_forms.specs.declared.command_faults.CommandFormFault.TheVariants as form
use Rattle.card_forms.specs.declared.command_faults.Field.TheVariants as field
use Rattle.card_forms.specs.declared.command_faults.FieldFault.TheVariants as at
use Rattle.card_forms.specs.declared.command_faults.FieldError.TheVariants as wrong

-- ---- in words

-- the name of a field in the form
abbrev pub field_name : Field → List ℕ
field_name field.Command = codes "command"
field_name field.Number = codes "number"
field_name field.Name = codes "name"
field_name field.Event = codes "event"
field_name field.Round = codes "round"
field_name field.Format = codes "format"
field_name field.After = codes "after"
field_name field.Cutoff = codes "cutoff"
field_name field.Limit = codes "limit"
field_name field.Advance = codes "advance"
field_name field.Amount = codes "amount"
field_name field.Attempt = codes "attempt"
field_name field.Moves = codes "moves"
field_name field.Text = codes "text"

abbrev pub wrong_words : FieldError → List ℕ
wrong_words wrong.NoSuchCommand = codes "there is no such command"
wrong_words (wrong.NotBetween low high) =
    codes "a number of " ++ decimal low ++ codes " to " ++ decimal high
wrong_words wrong.NotAName =
    codes "a name has 1 to 160 bytes that are seen, no quote mark, one space between its parts"
wrong_words wrong.NotAnEvent = codes "there is no such event"
wrong_words wrong.NotARound = codes "there is no such round"
wrong_words wrong.NotAFormat = codes "there is no such format"
wrong_words wrong.NotATime = codes "a time is like 10.43 or 1:02.33"
wrong_words wrong.NotAnAdvance = codes "top, pct or final"
wrong_words wrong.NotMoves = codes "moves are like R U' F2 Rw x"
wrong_words wrong.NotACommand = codes "this is no command"
wrong_words wrong.TooLong = codes "too long"

-- a field of the form, and what is said of it
abbrev pub Said : Type 0
Said = Field × FieldError

abbrev pub said_words : Said → List ℕ
said_words it = field_name it.0 ++ codes ": " ++ wrong_words it.1

-- ---- a field that has no value

abbrev pub fault_of : Said → FieldFault
fault_of it = at.Wrong it.0 it.1

-- this holds of what is said; or memory ran out
abbrev pub IsSaid : (Said → Type 0) → FieldFault → Type 0
IsSaid P (at.Wrong field why) = P (field, why)
IsSaid P at.NoMemory = Unit {0}

-- nothing is so
abbrev pub Lacks : {T : Type 0} → (T → Type 0) → Type 0
Lacks {T} P = (x : T) → P x → ⊥

-- nothing is so, and this is said of it; or memory ran out
abbrev pub LacksAs : {T : Type 0} → (T → Type 0) → Said → FieldFault → Type 0
LacksAs P said why = IsSaid (λ it. Lacks P × (it ≡ said)) why

-- the fault of moves that are not read
abbrev pub moves_fault : NotationFault → FieldFault
moves_fault read.NoMemory = at.NoMemory
moves_fault _ = at.Wrong field.Moves wrong.NotMoves

-- a time of at most an hour, without penalties
abbrev pub clock_of : Result Entered ScorecardFault → Option ℕ
clock_of (Ok (entered.Time time penalties)) =
    if penalties == 0 && nat_le time 360000 then Some time else None
clock_of _ = None

-- the event of a command: of its round, where it has one
abbrev pub event_by : Bool → List Pair → Option Event
event_by true pairs = option_map (λ id. id.event) (the_round pairs)
event_by false pairs = event_of_name (value_in (codes "event") pairs)

abbrev pub said_of_event : Bool → Said
said_of_event true = (field.Round, wrong.NotARound)
said_of_event false = (field.Event, wrong.NotAnEvent)

-- what an attempt has to be below: a time, or a number
abbrev pub said_below : Measure → Said
said_below measure.Time = (field.Cutoff, wrong.NotATime)
said_below measure.Moves = (field.Cutoff, wrong.NotBetween 1 360000)
said_below measure.Multi = (field.Cutoff, wrong.NotBetween 1 360000)

abbrev pub said_of_after : Event → Option ℕ → Said
said_of_after event None = (field.After, wrong.NotBetween 1 4)
said_of_after event (Some after) = said_below (unit_of event)

-- of a cutoff: its event is read first, then after how many attempts it counts, then what one of
-- them has to be below
abbrev pub said_of_cutoff : Bool → List Pair → Option Event → Said
said_of_cutoff by_round pairs None = said_of_event by_round
said_of_cutoff by_round pairs (Some event) =
    said_of_after event (number_between 1 4 (value_in (codes "after") pairs))

-- of who advances, by the word
abbrev pub said_of_advance : List ℕ → Said
said_of_advance word =
    if bytes_eq word (codes "top") then (field.Amount, wrong.NotBetween 1 999)
    else if bytes_eq word (codes "pct") then (field.Amount, wrong.NotBetween 1 75)
    else (field.Advance, wrong.NotAnAdvance)

-- which field of the form is to blame where a command's field of a kind has no value, and what is
-- said of it
abbrev pub said_of : Bool → List Pair → FieldKind → Said
said_of by_round pairs kind.Number = (field.Number, wrong.NotBetween 1 9999)
said_of by_round pairs kind.Event = said_of_event by_round
said_of by_round pairs kind.Round = (field.Round, wrong.NotARound)
said_of by_round pairs kind.Format = (field.Format, wrong.NotAFormat)
said_of by_round pairs kind.Cutoff = said_of_cutoff by_round pairs (event_by by_round pairs)
said_of by_round pairs kind.Limit = (field.Limit, wrong.NotATime)
said_of by_round pairs kind.Advance = said_of_advance (value_in (codes "advance") pairs)
said_of by_round pairs kind.Attempt = (field.Attempt, wrong.NotBetween 1 5)
said_of by_round pairs kind.Moves = (field.Moves, wrong.NotMoves)
said_of by_round pairs _ = (field.Command, wrong.NoSuchCommand)

-- a field of a command has no value, and this is said
abbrev pub IsLacking : Bool → List Pair → FieldKind → Said → Type 0
IsLacking by_round pairs k it =
    Lacks (HasValue by_round pairs k) × (it ≡ said_of by_round pairs k)

-- this is said of the first of a command's fields, in order, that has no value
abbrev pub IsFirstLacking : Bool → List Pair → List FieldKind → Said → Type 0
IsFirstLacking by_round pairs [] it = ⊥
IsFirstLacking by_round pairs (k ∷ ks) it =
    IsLacking by_round pairs k it ⊎ (((v : FieldValue) × HasValue by_round pairs k v)
    × IsFirstLacking by_round pairs ks it)

-- ---- a text that is no command

abbrev pub is_name : FieldKind → Bool
is_name kind.Name = true
is_name kind.NewName = true
is_name _ = false

abbrev pub is_moves : FieldKind → Bool
is_moves kind.Moves = true
is_moves _ = false

-- what is to blame where all fields have their values, and the text of the command is none: its
-- name, or else its moves
abbrev pub blamed : List FieldKind → Said
blamed ks =
    if list_any is_name ks then (field.Name, wrong.NotAName)
    else if list_any is_moves ks then (field.Moves, wrong.NotMoves)
    else (field.Command, wrong.NotACommand)

-- more than 600 bytes are too long
abbrev pub said_of_text : Said → List ℕ → Said
said_of_text it text = (it.0, if nat_lt 600 (length text) then wrong.TooLong else it.1)

-- a text is no command, and this is said
abbrev pub IsNoCommand : Said → List ℕ → Said → Type 0
IsNoCommand blame text it = (IsCommandText text → ⊥) × (it ≡ said_of_text blame text)

abbrev pub may_be_asked : Option TheRow → Bool
may_be_asked None = false
may_be_asked (Some row) = has_form row.tag

abbrev pub blamed_in : Option TheRow → Said
blamed_in None = (field.Command, wrong.NoSuchCommand)
blamed_in (Some row) = blamed row.fields

-- what is to blame where the text that a form asks for is no command, by whether its field `text`
-- is empty
abbrev pub Blames : Bool → List Pair → Said → Type 0
Blames true pairs it =
    IsTrue (may_be_asked (row_named (value_in (codes "command") pairs)))
    × (it ≡ blamed_in (row_named (value_in (codes "command") pairs)))
Blames false pairs it = it ≡ (field.Text, wrong.NotACommand)

-- ---- a form

-- the text that the fields ask for is no command
abbrev pub AsksNoCommand : List Pair → Said → Said → Type 0
AsksNoCommand pairs blame it =
    (text : List ℕ) × FieldsAsk pairs text × IsNoCommand blame text it

abbrev pub IsWrongIf : Bool → List Pair → List FieldKind → Said → Type 0
IsWrongIf false pairs ks it = it ≡ (field.Command, wrong.NoSuchCommand)
IsWrongIf true pairs ks it =
    IsFirstLacking (has_round ks) pairs ks it ⊎ AsksNoCommand pairs (blamed ks) it

-- by the command of the field `command`, which has a form
abbrev pub IsWrongRow : Option TheRow → List Pair → Said → Type 0
IsWrongRow None pairs it = it ≡ (field.Command, wrong.NoSuchCommand)
IsWrongRow (Some row) pairs it = IsWrongIf (has_form row.tag) pairs row.fields it

abbrev pub has_no_text : List Pair → Bool
has_no_text pairs = length (value_in (codes "text") pairs) == 0

-- by whether the field `text` is empty
abbrev pub IsWrongBy : Bool → List Pair → Said → Type 0
IsWrongBy true pairs it = IsWrongRow (row_named (value_in (codes "command") pairs)) pairs it
IsWrongBy false pairs it =
    IsNoCommand (field.Text, wrong.NotACommand) (value_in (codes "text") pairs) it

-- the form asks for no command, and this is said of one of its fields
abbrev pub IsWrong : List Pair → Said → Type 0
IsWrong pairs it = IsWrongBy (has_no_text pairs) pairs it

-- this is why a form asks for no command; or memory ran out
abbrev pub IsFault : List Pair → CommandFormFault → Type 0
IsFault pairs form.BadId = form_id_of (value_of (codes "id") pairs) ≡ None
IsFault pairs (form.Wrong field why) = IsWrong pairs (field, why)
IsFault pairs form.NoMemory = Unit {0}

-- the fault of a form by that of one of its fields
abbrev pub form_fault : FieldFault → CommandFormFault
form_fault (at.Wrong field why) = form.Wrong field why
form_fault at.NoMemory = form.NoMemory
