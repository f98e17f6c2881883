-- A command as its tag and the values of its fields (the project's own).
use Rattle.std.specs.Prelude.{ℕ, List, [], ◌∷◌, Option, None, Some, slice_get}
use Rattle.attempts.specs.declared.Value.{Value}
use Rattle.cube.specs.declared.moves.Move.{Move}
use Rattle.formats.specs.declared.advance.Advance.{Advance}
use Rattle.formats.specs.declared.events.{Event.Event, Format.Format}
use Rattle.texts.specs.declared.command.{Command.Command, AttemptEntry.AttemptEntry}
use Rattle.texts.specs.declared.command.Command.TheVariants.{Register, Open, Enter, Scramble}
use Rattle.texts.specs.declared.command.Command.TheVariants.{Attempt, Correct, Strike, SetAdvance}
use Rattle.texts.specs.declared.command.Command.TheVariants.{Close, SetEdition, Rename, SetRound}
use Rattle.texts.specs.declared.command.Command.TheVariants.{Rescramble, Withdraw, Reopen, Card}
use Rattle.texts.specs.declared.command.Command.TheVariants.{Fix, Cancel}
use Rattle.texts.specs.declared.command.{CardEntry.CardEntry, Entered.Entered, RoundId.RoundId}
use Rattle.texts.specs.declared.{command.Settings.Settings, table.Tag.Tag}
use Rattle.texts.specs.declared.value.{LentValue.LentValue, FieldValue.FieldValue}
use Rattle.texts.specs.Fields.{round_id, attempt_entry, card_entry}
use Rattle.texts.specs.declared.table.Tag.TheVariants as tag
use Rattle.texts.specs.declared.value.LentValue.TheVariants as lending
use Rattle.texts.specs.declared.value.FieldValue.TheVariants as value

-- ---- values

-- a value that is lent, without its reference
abbrev pub lent : LentValue → FieldValue
lent (lending.Number n) = value.Number n
lent (lending.Name name) = value.Name name.now
lent (lending.Event event) = value.Event event
lent (lending.Round n) = value.Round n
lent (lending.Format form) = value.Format form
lent (lending.Cutoff cutoff) = value.Cutoff cutoff
lent (lending.Limit limit) = value.Limit limit
lent (lending.Advance advance) = value.Advance advance
lent (lending.Attempt n) = value.Attempt n
lent (lending.Moves moves) = value.Moves moves.now
lent (lending.Outcome outcome) = value.Outcome outcome.now
lent (lending.Edition n) = value.Edition n
lent (lending.Was was) = value.Was was.now
lent (lending.Now now) = value.Now now.now

-- ---- the values of a command

-- a tag and values
abbrev pub Parts : Type 0
Parts = Tag × List FieldValue

-- a round, and what is after it
abbrev pub in_round : RoundId → List FieldValue → List FieldValue
in_round id vs = value.Event id.event ∷ value.Round id.round ∷ vs

-- how a round is run
abbrev pub settings_values : Settings → List FieldValue
settings_values s =
    value.Format s.format ∷ value.Cutoff s.cutoff ∷ value.Limit s.limit ∷ value.Advance s.advance
    ∷ []

-- what was entered for an attempt
abbrev pub entry_values : AttemptEntry → List FieldValue
entry_values entry =
    in_round entry.id
    (value.Attempt entry.attempt ∷ value.Number entry.number ∷ value.Outcome entry.outcome ∷ [])

-- a scorecard
abbrev pub card_values : CardEntry → List FieldValue
card_values card =
    in_round card.id
    (value.Number card.number ∷ value.Was card.was ∷ value.Now card.now ∷ [])

-- a command's tag, and the values of its fields in order
abbrev pub parts : Command → Parts
parts (Register number name) = (tag.Register, value.Number number ∷ value.Name name ∷ [])
parts (Open id settings) = (tag.Open, in_round id (settings_values settings))
parts (Enter event number) = (tag.Enter, value.Event event ∷ value.Number number ∷ [])
parts (Scramble id attempt moves) =
    (tag.Scramble, in_round id (value.Attempt attempt ∷ value.Moves moves ∷ []))
parts (Attempt entry) = (tag.Attempt, entry_values entry)
parts (Correct entry) = (tag.Correct, entry_values entry)
parts (Strike id number) = (tag.Strike, in_round id (value.Number number ∷ []))
parts (SetAdvance id advance) = (tag.SetAdvance, in_round id (value.Advance advance ∷ []))
parts (Close id) = (tag.Close, in_round id [])
parts (SetEdition edition) = (tag.SetEdition, value.Edition edition ∷ [])
parts (Rename number name) = (tag.Rename, value.Number number ∷ value.Name name ∷ [])
parts (SetRound id form cutoff limit) =
    (tag.SetRound, in_round id (value.Format form ∷ value.Cutoff cutoff ∷ value.Limit limit ∷ []))
parts (Rescramble id attempt moves) =
    (tag.Rescramble, in_round id (value.Attempt attempt ∷ value.Moves moves ∷ []))
parts (Withdraw id number) = (tag.Withdraw, in_round id (value.Number number ∷ []))
parts (Reopen id) = (tag.Reopen, in_round id [])
parts (Card card) = (tag.Card, card_values card)
parts (Fix card) = (tag.Fix, card_values card)
parts (Cancel id) = (tag.Cancel, in_round id [])

-- ---- the command of values

infixl 10 ◌>>=◌
abbrev pub ◌>>=◌ : {A B : Type 0} → Option A → (A → Option B) → Option B
None >>= f = None
(Some x) >>= f = f x

-- a value, where it is of its kind

abbrev pub number_in : Option FieldValue → Option ℕ
number_in (Some (value.Number x)) = Some x
number_in _ = None

abbrev pub name_in : Option FieldValue → Option (List ℕ)
name_in (Some (value.Name x)) = Some x
name_in _ = None

abbrev pub event_in : Option FieldValue → Option Event
event_in (Some (value.Event x)) = Some x
event_in _ = None

abbrev pub round_in : Option FieldValue → Option ℕ
round_in (Some (value.Round x)) = Some x
round_in _ = None

abbrev pub format_in : Option FieldValue → Option Format
format_in (Some (value.Format x)) = Some x
format_in _ = None

abbrev pub cutoff_in : Option FieldValue → Option (Option (ℕ × ℕ))
cutoff_in (Some (value.Cutoff x)) = Some x
cutoff_in _ = None

abbrev pub limit_in : Option FieldValue → Option (Option ℕ)
limit_in (Some (value.Limit x)) = Some x
limit_in _ = None

abbrev pub advance_in : Option FieldValue → Option Advance
advance_in (Some (value.Advance x)) = Some x
advance_in _ = None

abbrev pub attempt_in : Option FieldValue → Option ℕ
attempt_in (Some (value.Attempt x)) = Some x
attempt_in _ = None

abbrev pub moves_in : Option FieldValue → Option (List Move)
moves_in (Some (value.Moves x)) = Some x
moves_in _ = None

abbrev pub outcome_in : Option FieldValue → Option Entered
outcome_in (Some (value.Outcome x)) = Some x
outcome_in _ = None

abbrev pub edition_in : Option FieldValue → Option ℕ
edition_in (Some (value.Edition x)) = Some x
edition_in _ = None

abbrev pub was_in : Option FieldValue → Option (List Value)
was_in (Some (value.Was x)) = Some x
was_in _ = None

abbrev pub now_in : Option FieldValue → Option (List (Option Entered))
now_in (Some (value.Now x)) = Some x
now_in _ = None

abbrev pub id_in : Option FieldValue → Option FieldValue → Option RoundId
id_in a b = do
  event ← event_in a
  round ← round_in b
  Some (round_id event round)

abbrev pub entry_in : Option FieldValue → Option FieldValue → Option FieldValue → Option FieldValue
    → Option FieldValue → Option AttemptEntry
entry_in first second third fourth fifth = do
  id ← id_in first second
  attempt ← attempt_in third
  number ← number_in fourth
  outcome ← outcome_in fifth
  Some (attempt_entry id attempt number outcome)

abbrev pub card_in : Option FieldValue → Option FieldValue → Option FieldValue → Option FieldValue
    → Option FieldValue → Option CardEntry
card_in first second third fourth fifth = do
  id ← id_in first second
  number ← number_in third
  was ← was_in fourth
  now ← now_in fifth
  Some (card_entry id number was now)

abbrev pub settings_in : Option FieldValue → Option FieldValue → Option FieldValue
    → Option FieldValue → Option Settings
settings_in first second third fourth = do
  form ← format_in first
  cutoff ← cutoff_in second
  limit ← limit_in third
  advance ← advance_in fourth
  Some (record { format = form; cutoff = cutoff; limit = limit; advance = advance })

-- the command of a tag and up to six values, where they are of the kinds of its fields
abbrev pub made : Tag → Option FieldValue → Option FieldValue → Option FieldValue
    → Option FieldValue → Option FieldValue → Option FieldValue → Option Command
made tag.Register first second third fourth fifth sixth = do
  number ← number_in first
  name ← name_in second
  Some (Register number name)
made tag.Open first second third fourth fifth sixth = do
  id ← id_in first second
  settings ← settings_in third fourth fifth sixth
  Some (Open id settings)
made tag.Enter first second third fourth fifth sixth = do
  event ← event_in first
  number ← number_in second
  Some (Enter event number)
made tag.Scramble first second third fourth fifth sixth = do
  id ← id_in first second
  attempt ← attempt_in third
  moves ← moves_in fourth
  Some (Scramble id attempt moves)
made tag.Attempt first second third fourth fifth sixth = do
  entry ← entry_in first second third fourth fifth
  Some (Attempt entry)
made tag.Correct first second third fourth fifth sixth = do
  entry ← entry_in first second third fourth fifth
  Some (Correct entry)
made tag.Strike first second third fourth fifth sixth = do
  id ← id_in first second
  number ← number_in third
  Some (Strike id number)
made tag.SetAdvance first second third fourth fifth sixth = do
  id ← id_in first second
  advance ← advance_in third
  Some (SetAdvance id advance)
made tag.Close first second third fourth fifth sixth = do
  id ← id_in first second
  Some (Close id)
made tag.SetEdition first second third fourth fifth sixth = do
  edition ← edition_in first
  Some (SetEdition edition)
made tag.Rename first second third fourth fifth sixth = do
  number ← number_in first
  name ← name_in second
  Some (Rename number name)
made tag.SetRound first second third fourth fifth sixth = do
  id ← id_in first second
  form ← format_in third
  cutoff ← cutoff_in fourth
  limit ← limit_in fifth
  Some (SetRound id form cutoff limit)
made tag.Rescramble first second third fourth fifth sixth = do
  id ← id_in first second
  attempt ← attempt_in third
  moves ← moves_in fourth
  Some (Rescramble id attempt moves)
made tag.Withdraw first second third fourth fifth sixth = do
  id ← id_in first second
  number ← number_in third
  Some (Withdraw id number)
made tag.Reopen first second third fourth fifth sixth = do
  id ← id_in first second
  Some (Reopen id)
made tag.Card first second third fourth fifth sixth = do
  card ← card_in first second third fourth fifth
  Some (Card card)
made tag.Fix first second third fourth fifth sixth = do
  card ← card_in first second third fourth fifth
  Some (Fix card)
made tag.Cancel first second third fourth fifth sixth = do
  id ← id_in first second
  Some (Cancel id)

-- the command of these parts: `parts` gives them back
abbrev pub made_of : Parts → Option Command
made_of p =
    made p.0 (slice_get p.1 0) (slice_get p.1 1) (slice_get p.1 2) (slice_get p.1 3)
    (slice_get p.1 4) (slice_get p.1 5)
