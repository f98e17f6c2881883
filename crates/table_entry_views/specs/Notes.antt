-- What is said of the fields of a card (the project's own).
use Rattle.std.specs.Prelude.{ℕ, ◌==◌, Bool, true, false, if◌then◌else◌, List, [], ◌∷◌, ◌++◌, codes}
use Rattle.std.specs.Prelude.{◌&&◌, decimal, flat_map}
use Rattle.std.specs.List.{list_any}
use Rattle.card_forms.specs.declared.faults.{NumberFault.NumberFault, CardFault.CardFault}
use Rattle.scorecard.specs.declared.fault.ScorecardFault.{ScorecardFault as FieldFault}
use Rattle.markup.specs.Pieces.{fill}
use Rattle.table_entry_views.specs.declared.notes.CardNote.{CardNote}
use Rattle.table_entry_views.specs.declared.notes.CardNote.TheVariants.{Number, Field, Card, Unlike}
use Rattle.table_entry_views.specs.declared.notes.CardNote.TheVariants.{Changes, Refused, Fast}
use Rattle.table_entry_views.specs.declared.notes.CardNote.TheVariants.{Half, Unsolved, Repeats}
use Rattle.table_entry_views.specs.declared.notes.CardNote.TheVariants.{BelowBest, BelowField}
use Rattle.attempts.specs.{Texts.value_text, declared.Unit.TheVariants.Time}
use Rattle.texts.specs.{declared.answer.Code.Code, Codes.code_number, meanings.Meanings.meaning_of}
use Rattle.table_entry_views.specs.declared.notes.TheConstants.{FIELD_END, GAP, HALF, MORE_SOLVED}
use Rattle.table_entry_views.specs.declared.notes.TheConstants.{NUMBERED, SAID_START, UNSOLVED}
use Rattle.table_entry_views.specs.declared.notes.TheConstants.{BELOW_BEST, BELOW_FIELD}
use Rattle.attempts.specs.declared.Value.TheVariants as value
use Rattle.card_forms.specs.declared.faults.NumberFault.TheVariants as number
use Rattle.card_forms.specs.declared.faults.CardFault.TheVariants as card
use Rattle.scorecard.specs.declared.fault.ScorecardFault.TheVariants as field
use Rattle.texts.specs.declared.answer.Code.TheVariants as code

-- ---- where it is: 0 is the competitor's number, 1 to 5 are the attempts, 6 is the card

abbrev pub place_of_fault : CardFault → ℕ
place_of_fault (card.Gap field) = field
place_of_fault card.Nothing = 6
place_of_fault card.TooLong = 6

abbrev pub place_of_code : Code → ℕ
place_of_code code.UnknownCompetitor = 0
place_of_code code.NotEntered = 0
place_of_code _ = 6

abbrev pub place_of : CardNote → ℕ
place_of (Number fault) = 0
place_of (Field attempt fault) = attempt
place_of (Card fault) = place_of_fault fault
place_of (Refused why) = place_of_code why
place_of (Fast attempt) = attempt
place_of (Half attempt) = attempt
place_of (BelowBest attempt time best) = attempt
place_of (BelowField attempt time best) = attempt
place_of (Unlike attempt) = attempt
place_of (Unsolved attempt) = attempt
place_of Repeats = 3
place_of (Changes attempt) = attempt

-- a fault can't be confirmed
abbrev pub is_fault : CardNote → Bool
is_fault (Number fault) = true
is_fault (Field attempt fault) = true
is_fault (Card fault) = true
is_fault _ = false

-- ---- how it is confirmed

abbrev pub numbered : List ℕ → ℕ → List ℕ
numbered word number = fill NUMBERED.now (word ∷ decimal number ∷ [])

-- the word by which a form says that a scoretaker has confirmed a note
abbrev pub note_word : CardNote → List ℕ
note_word (Refused why) = numbered (codes "refused-") (code_number why)
note_word (Fast attempt) = numbered (codes "fast-") attempt
note_word (Half attempt) = numbered (codes "half-") attempt
note_word (BelowBest attempt time best) = numbered (codes "best-") attempt
note_word (BelowField attempt time best) = numbered (codes "field-") attempt
note_word (Unlike attempt) = numbered (codes "unlike-") attempt
note_word (Unsolved attempt) = numbered (codes "unsolved-") attempt
note_word Repeats = codes "repeats"
note_word (Changes attempt) = numbered (codes "changes-") attempt
note_word _ = codes "-"

-- ---- in words

abbrev pub number_words : NumberFault → List ℕ
number_words number.Empty = codes "whose card is it?"
number_words number.NotANumber = codes "a number is 1 to 9999"

abbrev pub field_words : FieldFault → List ℕ
field_words field.Empty = codes "nothing is written"
field_words field.NotATime = codes "a time is like 1043, 10.43 or 1:02.33"
field_words field.BadSeconds = codes "seconds are below 60"
field_words field.OutOfRange = codes "a time is 0.01 to 166:39.99"
field_words field.BadPenalty = codes "penalties are +2, +4 to +18"
field_words field.NotAResult = codes "a result is like 11/13 58:20"
field_words field.BadAttempted = codes "2 to 99 cubes are attempted"
field_words (field.MoreSolved attempted) =
    fill MORE_SOLVED.now (decimal attempted ∷ [])
field_words field.NoSeconds = codes "a time is 0:01 to 99:59"
field_words field.NotMoves =
    codes "write its moves, as R U' F2 Rw x: a number of moves alone is no solution"
field_words field.NoMemory = codes "memory ran out"

abbrev pub card_words : CardFault → List ℕ
card_words (card.Gap field) =
    fill GAP.now (decimal field ∷ [])
card_words card.Nothing = codes "nothing is typed"
card_words card.TooLong = codes "too long for one command: enter one attempt after the other"

abbrev pub is_changed : Code → Bool
is_changed code.Changed = true
is_changed _ = false

abbrev pub other_words : Code → List ℕ
other_words why = meaning_of why ++ codes ": send it all the same?"

abbrev pub refused_words : Code → List ℕ
refused_words why =
    if is_changed why
    then codes "the page showed other attempts: is it still right?"
    else other_words why

abbrev pub unsolved_words : ℕ → List ℕ
unsolved_words attempt =
    fill UNSOLVED.now (decimal attempt ∷ [])

abbrev pub time_words : ℕ → List ℕ
time_words time = value_text Time (value.Number time)

-- with which best of the competition's file a time is compared
abbrev pub below_words : List ℕ → ℕ → ℕ → List ℕ
below_words words time best = fill words (time_words time ∷ time_words best ∷ [])

abbrev pub note_words : CardNote → List ℕ
note_words (Number fault) = number_words fault
note_words (Field attempt fault) = field_words fault
note_words (Card fault) = card_words fault
note_words (Refused why) = refused_words why
note_words (Fast attempt) = codes "nobody has ever been that fast: is it right?"
note_words (Half attempt) = HALF.now
note_words (BelowBest attempt time best) = below_words BELOW_BEST.now time best
note_words (BelowField attempt time best) = below_words BELOW_FIELD.now time best
note_words (Unlike attempt) =
    codes "more than twice or less than half of the others: is it right?"
note_words (Unsolved attempt) = unsolved_words attempt
note_words Repeats = codes "the times of attempts 1 and 2 again: is it right?"
note_words (Changes attempt) = codes "another result counts: change it?"

unfoldable pub note_line : CardNote → List ℕ
note_line note = codes "<strong role=\"alert\">" ++ note_words note ++ codes "</strong>"

-- a note, if it is at this place
abbrev pub note_at : ℕ → CardNote → List ℕ
note_at place note = if place_of note == place then note_line note else []

-- the notes of a field, at a place, under the id by which the field names what describes it
unfoldable pub said_at : ℕ → List CardNote → List ℕ
said_at place notes =
    fill SAID_START.now (decimal place ∷ [])
    ++ flat_map (note_at place) notes ++ codes "</span>"

-- a note is a fault of this place
abbrev pub is_wrong_at : ℕ → CardNote → Bool
is_wrong_at place note = place_of note == place && is_fault note

abbrev pub invalid_if : Bool → List ℕ
invalid_if true = codes " aria-invalid=\"true\""
invalid_if false = []

-- the end of a field: what describes it, and whether it has a fault
unfoldable pub field_end : ℕ → List CardNote → List ℕ
field_end place notes =
    fill FIELD_END.now (decimal place ∷ [])
    ++ invalid_if (list_any (is_wrong_at place) notes) ++ codes ">"
