-- What a command's form asks for (the project's own).
use Rattle.std.specs.Prelude.{◌≡◌, ℕ, ◌==◌, Bool, true, false, ◌&&◌, ◌||◌, ◌≤◌, codes, bytes_eq}
use Rattle.std.specs.Prelude.{IsTrue, List, [], ◌∷◌, length, slice_get, Option, None, Some}
use Rattle.std.specs.{List.list_any, Option.option_map}
use denote.Enum.Bare.{sameb}
use Rattle.attempts.specs.declared.Unit.{Unit as Measure}
use Rattle.formats.specs.declared.advance.Advance.{Advance}
use Rattle.formats.specs.declared.advance.Advance.TheVariants.{Final, Percent, Top}
use Rattle.formats.specs.declared.events.{Event.Event, Format.Format}
use Rattle.formats.specs.Events.{event_of_name, format_named, unit_of}
use Rattle.cube.specs.{declared.moves.Move.Move, notation.Notation.Spells as SpellsMoves}
use Rattle.texts.specs.declared.command.{Command.Command, RemarkedCommand.RemarkedCommand}
use Rattle.texts.specs.declared.{command.RoundId.RoundId, value.FieldValue.FieldValue}
use Rattle.texts.specs.declared.table.{FieldKind.FieldKind, Tag.Tag}
use Rattle.texts.specs.{contracts.table.FieldKind.the_type as kinds, Fields.number_between}
use Rattle.texts.specs.{Parts.Parts, Parts.parts, Table.fields_in, Table.row_of, Table.same_tag}
use Rattle.texts.specs.Spelling.{IsFitTold, spelling, told_spelling, words_of}
use Rattle.scorecard.specs.Spelling.{Spells, trimmed}
use Rattle.card_forms.specs.declared.{asking.TheConstants.FORMS, pairs.Pair.Pair}
use Rattle.card_forms.specs.{Cards.round_of, Pairs.value_of}
use Rattle.attempts.specs.declared.Unit.TheVariants as measure
use Rattle.texts.specs.declared.command.Entered.TheVariants as entered
use Rattle.texts.specs.declared.table.FieldKind.TheVariants as kind
use Rattle.texts.specs.declared.value.FieldValue.TheVariants as value

-- a text is the spelling of a command whose fields are in their ranges, with its remark if it has
-- one
abbrev pub IsCommandText : List ℕ → Type 0
IsCommandText text = (told : RemarkedCommand) × IsFitTold told × (text ≡ told_spelling told)

-- ---- fields

-- the value of a field, without the white space around it
abbrev pub field : List ℕ → List Pair → List ℕ
field name pairs = trimmed (value_of name pairs)

-- a field has this number of a range
abbrev pub HasNumber : List ℕ → ℕ → ℕ → List Pair → ℕ → Type 0
HasNumber name low high pairs n = number_between low high (field name pairs) ≡ Some n

abbrev pub HasCompetitor : List Pair → ℕ → Type 0
HasCompetitor pairs number = HasNumber (codes "number") 1 9999 pairs number

abbrev pub HasAttempt : List Pair → ℕ → Type 0
HasAttempt pairs attempt = HasNumber (codes "attempt") 1 5 pairs attempt

abbrev pub HasName : List Pair → List ℕ → Type 0
HasName pairs name = name ≡ field (codes "name") pairs

-- at most 400 moves
abbrev pub HasMoves : List Pair → List Move → Type 0
HasMoves pairs moves =
    SpellsMoves (field (codes "moves") pairs) moves × (length moves ≤ 400)

-- an event and a round are one field of the form
abbrev pub the_round : List Pair → Option RoundId
the_round pairs = round_of (field (codes "round") pairs)

abbrev pub HasRound : List Pair → RoundId → Type 0
HasRound pairs id = the_round pairs ≡ Some id

abbrev pub HasRoundNumber : List Pair → ℕ → Type 0
HasRoundNumber pairs number = option_map (λ id. id.round) (the_round pairs) ≡ Some number

abbrev pub is_round : FieldKind → Bool
is_round k = sameb kinds k kind.Round

-- a command has a round
abbrev pub has_round : List FieldKind → Bool
has_round ks = list_any is_round ks

-- the event of a command: of its round, where it has one
abbrev pub HasEvent : Bool → List Pair → Event → Type 0
HasEvent true pairs event = option_map (λ id. id.event) (the_round pairs) ≡ Some event
HasEvent false pairs event = event_of_name (field (codes "event") pairs) ≡ Some event

abbrev pub HasFormat : List Pair → Format → Type 0
HasFormat pairs form = format_named (field (codes "format") pairs) ≡ Some form

-- a time as on a scorecard, of at most an hour, in hundredths of a second
abbrev pub IsClock : List ℕ → ℕ → Type 0
IsClock text time = Spells measure.Time text (entered.Time time 0) × (time ≤ 360000)

-- nothing is written, or a hyphen
abbrev pub is_none : List ℕ → Bool
is_none text = length text == 0 || bytes_eq text (codes "-")

abbrev pub IsNumberBelow : List ℕ → ℕ → Type 0
IsNumberBelow text below = number_between 1 360000 text ≡ Some below

-- what an attempt has to be below, in the event's unit
abbrev pub IsBelow : Measure → List ℕ → ℕ → Type 0
IsBelow measure.Time text below = IsClock text below
IsBelow measure.Moves text below = IsNumberBelow text below
IsBelow measure.Multi text below = IsNumberBelow text below

-- no cutoff where neither field has anything
abbrev pub HasCutoff : List Pair → Event → Option (ℕ × ℕ) → Type 0
HasCutoff pairs event None =
    (is_none (field (codes "cutoff") pairs) && is_none (field (codes "after") pairs)) ≡ true
HasCutoff pairs event (Some cutoff) =
    HasNumber (codes "after") 1 4 pairs cutoff.0
    × IsBelow (unit_of event) (field (codes "cutoff") pairs) cutoff.1

-- the same in the unit of the command's event
abbrev pub HasCutoffBy : Bool → List Pair → Option (ℕ × ℕ) → Type 0
HasCutoffBy by_round pairs cutoff =
    (event : Event) × HasEvent by_round pairs event × HasCutoff pairs event cutoff

abbrev pub HasLimit : List Pair → Option ℕ → Type 0
HasLimit pairs None = is_none (field (codes "limit") pairs) ≡ true
HasLimit pairs (Some limit) = IsClock (field (codes "limit") pairs) limit

-- the word of who advances
abbrev pub IsAdvance : List Pair → List ℕ → Type 0
IsAdvance pairs word = bytes_eq (field (codes "advance") pairs) word ≡ true

abbrev pub HasAdvance : List Pair → Advance → Type 0
HasAdvance pairs Final = IsAdvance pairs (codes "final")
HasAdvance pairs (Top number) =
    IsAdvance pairs (codes "top") × HasNumber (codes "amount") 1 999 pairs number
HasAdvance pairs (Percent percent) =
    IsAdvance pairs (codes "pct") × HasNumber (codes "amount") 1 75 pairs percent

-- ---- commands

-- a command has a form
abbrev pub has_form : Tag → Bool
has_form tag = list_any (λ t. same_tag t tag) FORMS

-- a field of a command has this value: its kind says which fields of the form it is read from. The
-- edition is always 4. What is entered at the score table is read from no such form
abbrev pub HasValue : Bool → List Pair → FieldKind → FieldValue → Type 0
HasValue _ pairs kind.Number (value.Number number) = HasCompetitor pairs number
HasValue _ pairs kind.Name (value.Name name) = HasName pairs name
HasValue _ pairs kind.NewName (value.Name name) = HasName pairs name
HasValue by_round pairs kind.Event (value.Event event) = HasEvent by_round pairs event
HasValue _ pairs kind.Round (value.Round number) = HasRoundNumber pairs number
HasValue _ pairs kind.Format (value.Format form) = HasFormat pairs form
HasValue by_round pairs kind.Cutoff (value.Cutoff cutoff) = HasCutoffBy by_round pairs cutoff
HasValue _ pairs kind.Limit (value.Limit limit) = HasLimit pairs limit
HasValue _ pairs kind.Advance (value.Advance advance) = HasAdvance pairs advance
HasValue _ pairs kind.Attempt (value.Attempt attempt) = HasAttempt pairs attempt
HasValue _ pairs kind.Moves (value.Moves moves) = HasMoves pairs moves
HasValue _ pairs kind.Edition (value.Edition edition) = edition ≡ 4
HasValue _ _ _ _ = ⊥

-- fields of these kinds have these values, one each in order
abbrev pub HasValues : Bool → List Pair → List FieldKind → List FieldValue → Type 0
HasValues by_round pairs [] [] = Unit {0}
HasValues by_round pairs (k ∷ ks) (v ∷ vs) =
    HasValue by_round pairs k v × HasValues by_round pairs ks vs
HasValues _ _ _ _ = ⊥

-- the same of all fields of a command
abbrev pub HasAll : List Pair → List FieldKind → List FieldValue → Type 0
HasAll pairs ks vs = HasValues (has_round ks) pairs ks vs

-- a command has a form, and its fields have these values
abbrev pub HasParts : List Pair → Parts → Type 0
HasParts pairs p = IsTrue (has_form p.0) × HasAll pairs (fields_in (row_of p.0)) p.1

abbrev pub HasFields : List Pair → Command → Type 0
HasFields pairs command = HasParts pairs (parts command)

-- a command has this word, and its fields are the form's
abbrev pub IsAsked : List Pair → List ℕ → Command → Type 0
IsAsked pairs word command =
    (slice_get (words_of command) 0 ≡ Some word) × HasFields pairs command

-- a text is the spelling of the command of this word that the fields ask for
abbrev pub WordAsks : List Pair → List ℕ → List ℕ → Type 0
WordAsks pairs word text =
    (command : Command) × IsAsked pairs word command × (text ≡ spelling command)

-- the same of the word in the field `command`
abbrev pub FieldsAsk : List Pair → List ℕ → Type 0
FieldsAsk pairs text = WordAsks pairs (field (codes "command") pairs) text

-- by whether the field `text` is empty: the command that the fields ask for, or that text
abbrev pub AsksBy : Bool → List Pair → List ℕ → Type 0
AsksBy true pairs text = FieldsAsk pairs text
AsksBy false pairs text = text ≡ field (codes "text") pairs

-- the form asks for the command of this text
abbrev pub Asks : List Pair → List ℕ → Type 0
Asks pairs text = AsksBy (length (field (codes "text") pairs) == 0) pairs text
