-- The fields of a card, read (the project's own).
use Rattle.std.specs.Prelude.{◌≡◌, ℕ, suc, ◌+◌, ◌==◌, ◌&&◌, if◌then◌else◌, List, [], ◌∷◌, length}
use Rattle.std.specs.Prelude.{Bool, true, false, not, bytes_eq, drop, flat_map, map, nat_lt}
use Rattle.std.specs.Prelude.{position, slice_get, unwrap_or, Option, None, Some, Result, Ok, Err}
use Rattle.std.specs.List.{list_all, list_any}
use Rattle.std.specs.Option.{ok_or, option_and_then, option_map}
use Rattle.attempts.specs.{Texts.value_text, declared.Unit.Unit as Measure, declared.Value.Value}
use Rattle.formats.specs.Events.{unit_of}
use Rattle.texts.specs.declared.command.{CardEntry.CardEntry, Entered.Entered}
use Rattle.texts.specs.Fields.{number_between}
use Rattle.scorecard.specs.{Spelling.trimmed, Spelling.Spells, Reading.Reads}
use Rattle.scorecard.specs.declared.fault.ScorecardFault.{ScorecardFault as FieldFault}
use Rattle.card_forms.specs.declared.{cards.CardForm.CardForm, faults.NumberFault.NumberFault}
use Rattle.card_forms.specs.declared.faults.{CardFault.CardFault, CardReading.CardReading}
use Rattle.card_forms.specs.declared.reading.FieldContent.{FieldContent}
use Rattle.scorecard.specs.declared.fault.ScorecardFault.TheVariants as field
use Rattle.card_forms.specs.declared.faults.CardFault.TheVariants as card
use Rattle.card_forms.specs.declared.faults.CardReading.TheVariants as reading
use Rattle.card_forms.specs.declared.faults.NumberFault.TheVariants as number
use Rattle.card_forms.specs.declared.reading.FieldContent.TheVariants as said

-- ---- the number

-- a competitor's number, with white space around it
abbrev pub number_in : List ℕ → Result ℕ NumberFault
number_in text =
    if length text == 0 then Err number.Empty
    else ok_or (number_between 1 9999 text) number.NotANumber

abbrev pub number_of : List ℕ → Result ℕ NumberFault
number_of text = number_in (trimmed text)

-- ---- a field

-- what the page of a card shows of the attempt at a place, counted from 0, where these count
abbrev pub shown_at : Measure → List Value → ℕ → List ℕ
shown_at unit was place = unwrap_or (option_map (value_text unit) (slice_get was place)) []

-- the text that a page filled a field in with, where it carries one
abbrev pub text_at : List (List ℕ) → ℕ → List ℕ
text_at filled place = unwrap_or (slice_get filled place) []

-- what the field of an attempt is filled in with: nothing where none counts; such a text, where
-- there is one; and else what the attempt counts
abbrev pub filled_by : Measure → Option Value → List ℕ → List ℕ
filled_by unit None text = []
filled_by unit (Some value) [] = value_text unit value
filled_by unit (Some value) (b ∷ bs) = b ∷ bs

-- what the page of a card filled the field at a place in with, where these stood
abbrev pub filled_at : Measure → List Value → List (List ℕ) → ℕ → List ℕ
filled_at unit was filled place = filled_by unit (slice_get was place) (text_at filled place)

-- a field is as its page filled it in, but for the white space around it
abbrev pub is_untouched : Measure → List Value → List (List ℕ) → ℕ → List ℕ → Bool
is_untouched unit was filled place text =
    bytes_eq (trimmed text) (filled_at unit was filled place)

-- a field that was not touched leaves what counts
abbrev pub left_at : List Value → ℕ → FieldContent
left_at was place = if nat_lt place (length was) then said.Stays else said.Nothing

-- what was typed says nothing, where it is empty, else what it spells
abbrev pub SaysTyped : Measure → List ℕ → FieldContent → Type 0
SaysTyped unit text said.Nothing = length (trimmed text) ≡ 0
SaysTyped unit text said.Stays = ⊥
SaysTyped unit text (said.Enters x) = Spells unit text x

abbrev pub SaysBy : Bool → Measure → List Value → ℕ → List ℕ → FieldContent → Type 0
SaysBy true unit was place text it = it ≡ left_at was place
SaysBy false unit was place text it = SaysTyped unit text it

-- what the field at a place says, where the page showed that these count, and filled its fields in
-- with these texts
abbrev pub Says : Measure → List Value → List (List ℕ) → ℕ → List ℕ → FieldContent → Type 0
Says unit was filled place text it =
    SaysBy (is_untouched unit was filled place text) unit was place text it

-- each field, from this place on, says what is at its place
abbrev pub AllSay : Measure → List Value → List (List ℕ) → ℕ → List (List ℕ) → List FieldContent
    → Type 0
AllSay unit was filled place [] [] = Unit {0}
AllSay unit was filled place (text ∷ texts) (it ∷ them) =
    Says unit was filled place text it × AllSay unit was filled (suc place) texts them
AllSay unit was filled place _ _ = ⊥

-- ---- a card

abbrev pub says_something : FieldContent → Bool
says_something said.Nothing = false
says_something said.Stays = true
says_something (said.Enters x) = true

-- the attempt, from 1 on, of the first field that says nothing, where one after it says something
abbrev pub gap_at : List Bool → ℕ → Option ℕ
gap_at filled place =
    if list_any (λ is. is) (drop place filled) then Some (place + 1) else None

abbrev pub gap_in : List Bool → Option ℕ
gap_in filled = option_and_then (gap_at filled) (position not filled)

-- what is to count by a field: nothing, what counts, or what is entered
abbrev pub stands_by : FieldContent → List (Option Entered)
stands_by said.Nothing = []
stands_by said.Stays = None ∷ []
stands_by (said.Enters x) = Some x ∷ []

abbrev pub stays : Option Entered → Bool
stays None = true
stays (Some x) = false

-- all that counts stays, and nothing is entered
abbrev pub changes_nothing : List Value → List (Option Entered) → Bool
changes_nothing was now = length now == length was && list_all stays now

abbrev pub unfit_by : Option ℕ → Bool → Option CardFault
unfit_by (Some field) idle = Some (card.Gap field)
unfit_by None true = Some card.Nothing
unfit_by None false = None

-- the first cause why fields that say this are no card
abbrev pub unfit : List Value → List FieldContent → Option CardFault
unfit was says =
    unfit_by (gap_in (map says_something says)) (changes_nothing was (flat_map stands_by says))

-- the form is read as this card: over what the page showed, and with what its fields say
pub record IsReadAs (form : CardForm) (entry : CardEntry) : Type 0 where
  pub id : entry.id ≡ form.round
  pub number : number_of form.number ≡ Ok entry.number
  pub was : entry.was ≡ form.was
  pub says : List FieldContent
  pub all : AllSay (unit_of form.round.event) form.was form.filled 0 form.attempts says
  pub fit : unfit form.was says ≡ None
  pub now : entry.now ≡ flat_map stands_by says

-- ---- what is wrong

-- what is wrong with what was typed; or memory ran out
abbrev pub FaultsAs : Measure → List ℕ → FieldFault → Type 0
FaultsAs unit text field.NoMemory = Unit {0}
FaultsAs unit text why = Reads unit text (Err why)

-- what is wrong with a field: nothing, where it says something or is empty
abbrev pub Faults : Measure → List Value → List (List ℕ) → ℕ → List ℕ → Option FieldFault → Type 0
Faults unit was filled place text None = (it : FieldContent) × Says unit was filled place text it
Faults unit was filled place text (Some why) = FaultsAs unit text why

abbrev pub fault_in : Result FieldContent FieldFault → Option FieldFault
fault_in (Ok it) = None
fault_in (Err why) = Some why

abbrev pub number_fault : Result ℕ NumberFault → Option NumberFault
number_fault (Ok n) = None
number_fault (Err why) = Some why

-- fields that say this are no card, for this reason; or memory ran out
abbrev pub IsUnfitAs : List Value → List FieldContent → CardReading → Type 0
IsUnfitAs was says (reading.Unread u) = ⊥
IsUnfitAs was says (reading.Unfit why) = unfit was says ≡ Some why
IsUnfitAs was says reading.NoMemory = Unit {0}

-- the fields say this, and are no card
pub record IsUnfit (form : CardForm) (why : CardFault) : Type 0 where
  pub says : List FieldContent
  pub all : AllSay (unit_of form.round.event) form.was form.filled 0 form.attempts says
  pub is : unfit form.was says ≡ Some why

-- the form is not read: what is said of its number is what is wrong with it; or its fields are no
-- card; or memory ran out
abbrev pub IsNotRead : CardForm → CardReading → Type 0
IsNotRead form (reading.Unread u) = u.number ≡ number_fault (number_of form.number)
IsNotRead form (reading.Unfit why) = IsUnfit form why
IsNotRead form reading.NoMemory = Unit {0}
