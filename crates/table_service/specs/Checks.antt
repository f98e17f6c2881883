-- What is said of a card before it is taken (the project's own).
use Rattle.std.specs.Prelude.{ℕ, ◌+◌, ◌*◌, ◌==◌, ◌&&◌, ◌||◌, nat_lt, Bool, true, false, option_map}
use Rattle.std.specs.Prelude.{if◌then◌else◌, List, [], ◌∷◌, ◌++◌, flat_map, filter_map, length}
use Rattle.std.specs.Prelude.{take, drop, min, get_or, slice_get, Option, None, Some, is_some}
use Rattle.std.specs.{Prelude.option_and_then, List.list_all, List.list_any, List.range_with_len}
use Rattle.texts.specs.declared.command.{Command.Command, Command.TheVariants.Card, Entered.Entered}
use Rattle.texts.specs.declared.command.{CardEntry.CardEntry, RoundId.RoundId, Settings.Settings}
use Rattle.texts.specs.declared.answer.Code.{Code}
use Rattle.formats.specs.{declared.events.Event.Event, Results.is_dnf, Results.least}
use Rattle.commands.specs.Accepted.{card_refusal, card_values, is_solution, is_value}
use Rattle.commands.specs.Accepted.{lacks_scramble, refusal, round_by, scramble_of, settled}
use Rattle.cube.specs.declared.moves.Move.{Move}
use Rattle.rounds.specs.Tables.{Table}
use Rattle.attempts.specs.declared.Value.{Value}
use Rattle.scorecard.specs.declared.fault.ScorecardFault.{ScorecardFault as FieldFault}
use Rattle.card_forms.specs.declared.faults.{NumberFault.NumberFault, FieldFaults.FieldFaults}
use Rattle.table_views.specs.Standing.{standing}
use Rattle.table_entry_views.specs.Bounds.{best_in, floor_of, single_of, time_of}
use Rattle.table_entry_views.specs.{Doubts.file_notes, declared.notes.CardNote.CardNote}
use Rattle.table_service.specs.declared.checks.Bounds.{Bounds}
use Rattle.attempts.specs.declared.Value.TheVariants as value
use Rattle.table_entry_views.specs.declared.notes.CardNote.TheVariants as note

-- ---- times that are unlike the others

abbrev pub has_time_in : Option ℕ → Bool
has_time_in None = false
has_time_in (Some time) = true

abbrev pub has_time : Option Entered → Bool
has_time field = has_time_in (time_of field)

abbrev pub is_short_in : ℕ → Option ℕ → Bool
is_short_in time None = true
is_short_in time (Some other) = nat_lt (2 * other) time

-- a field's time, if it has one, is less than half of this one
abbrev pub is_short : ℕ → Option Entered → Bool
is_short time field = is_short_in time (time_of field)

abbrev pub is_long_in : ℕ → Option ℕ → Bool
is_long_in time None = true
is_long_in time (Some other) = nat_lt (2 * time) other

-- a field's time, if it has one, is more than twice this one
abbrev pub is_long : ℕ → Option Entered → Bool
is_long time field = is_long_in time (time_of field)

-- the fields but the one at a place
abbrev pub others : List (Option Entered) → ℕ → List (Option Entered)
others fields place = take place fields ++ drop (place + 1) fields

-- a time is more than twice each of the times in these fields, or less than half of each, and there
-- is one
abbrev pub is_unlike_those : ℕ → List (Option Entered) → Bool
is_unlike_those time fields =
    list_any has_time fields && (list_all (is_short time) fields || list_all (is_long time) fields)

abbrev pub is_unlike_in : Option ℕ → List (Option Entered) → Bool
is_unlike_in None fields = false
is_unlike_in (Some time) fields = is_unlike_those time fields

abbrev pub is_unlike : List (Option Entered) → ℕ → Bool
is_unlike fields place =
    is_unlike_in (time_of (get_or fields place None)) (others fields place)

-- ---- times that are too good to be true

abbrev pub is_fast_in : ℕ → Option ℕ → Bool
is_fast_in floor None = false
is_fast_in floor (Some time) = nat_lt time floor

-- a field's time is below a floor
abbrev pub is_fast : ℕ → Option Entered → Bool
is_fast floor field = is_fast_in floor (time_of field)

-- a time is less than half of a single, if there is one
abbrev pub is_half_of : ℕ → Option ℕ → Bool
is_half_of time None = false
is_half_of time (Some single) = nat_lt (2 * time) single

abbrev pub is_half_in : Bounds → Option ℕ → Bool
is_half_in bounds None = false
is_half_in bounds (Some time) = is_half_of time bounds.here || is_half_of time bounds.elsewhere

-- a field's time is less than half of one of two singles
abbrev pub is_half : Bounds → Option Entered → Bool
is_half bounds field = is_half_in bounds (time_of field)

-- the best single that counts in a round, if it was opened
abbrev pub best_here : List Command → RoundId → Option ℕ
best_here accepted id = option_and_then (λ round. best_in round.1) (round_by accepted id)

abbrev pub numbered : Event → ℕ → RoundId
numbered event round = record { event = event; round = round }

-- the best single that counts of a number in a round of the event that is not this one
abbrev pub single_beside : List Command → RoundId → ℕ → ℕ → Option ℕ
single_beside accepted id number round =
    if round == id.round then None
    else single_of (standing accepted (numbered id.event round) number)

-- the best single that counts of a number in the other rounds of the event (which has at most four:
-- WCA Regulations, article 9m)
abbrev pub best_elsewhere : List Command → RoundId → ℕ → Option ℕ
best_elsewhere accepted id number =
    least (filter_map (single_beside accepted id number) (1 ∷ 2 ∷ 3 ∷ 4 ∷ []))

-- what the times of a card are compared with: a time below which no result of the event has ever
-- been, the best single of the round, and the competitor's best in the others
abbrev pub bounds_of : List Command → CardEntry → Bounds
bounds_of accepted card = record {
  floor = floor_of card.id.event;
  here = best_here accepted card.id;
  elsewhere = best_elsewhere accepted card.id card.number;
}

-- ---- what is asked of times

abbrev pub fast_at : Bounds → List (Option Entered) → ℕ → List CardNote
fast_at bounds fields place =
    if is_fast bounds.floor (get_or fields place None) then note.Fast (place + 1) ∷ [] else []

abbrev pub half_at : Bounds → List (Option Entered) → ℕ → List CardNote
half_at bounds fields place =
    if is_half bounds (get_or fields place None) then note.Half (place + 1) ∷ [] else []

abbrev pub unlike_at : List (Option Entered) → ℕ → List CardNote
unlike_at fields place = if is_unlike fields place then note.Unlike (place + 1) ∷ [] else []

-- what is asked of the time at a place: whether it is below the floor of the event, less than half
-- of the singles before it, or unlike the others of the card
abbrev pub time_at : Bounds → List (Option Entered) → ℕ → List CardNote
time_at bounds fields place =
    fast_at bounds fields place ++ half_at bounds fields place ++ unlike_at fields place

-- what is asked of each of the first five times
abbrev pub time_notes : Bounds → List (Option Entered) → List CardNote
time_notes bounds fields =
    flat_map (time_at bounds fields) (range_with_len 0 (min (length fields) 5))

-- ---- what it would be answered

abbrev pub enters : (Entered → Bool) → Option Entered → Bool
enters is None = false
enters is (Some x) = is x

-- a solution is entered at a place, counted from 0, for an attempt that has no scramble
abbrev pub lacks_at : (ℕ → Option (List Move)) → List (Option Entered) → ℕ → Bool
lacks_at scrambles now at = enters (lacks_scramble (scrambles (at + 1))) (get_or now at None)

-- what a card leaves at a place, counted from 0
abbrev pub left_by : (Entered → Value) → Option Entered → Option Value → List Value
left_by counts (Some x) was = counts x ∷ []
left_by counts None (Some value) = value ∷ []
left_by counts None None = []

abbrev pub left_at : List Command → CardEntry → Settings → ℕ → List Value
left_at accepted card settings at =
    left_by (settled settings (scramble_of accepted card.id.event card.id.round (at + 1)))
    (get_or card.now at None) (slice_get card.was at)

-- the code with which a card would be refused in its round, which was opened with these settings
-- and has this table
abbrev pub opened_refusal : List Command → CardEntry → Settings → Table → Option Code
opened_refusal accepted card settings table =
    card_refusal card.id.event (scramble_of accepted card.id.event card.id.round) card
    (Some (settings, table))

abbrev pub refused_notes : Option Code → List CardNote
refused_notes None = []
refused_notes (Some why) = note.Refused why ∷ []

-- ---- attempts that would change

abbrev pub is_left : Option Value → Option Value → Bool
is_left (Some value) (Some left) = is_value value left
is_left None None = true
is_left _ _ = false

-- the attempt at a place, counted from 0, would not be what it was
abbrev pub change_at : List Value → List Value → ℕ → List CardNote
change_at was left place =
    if is_left (slice_get was place) (slice_get left place) then []
    else note.Changes (place + 1) ∷ []

-- each attempt that counts and would change
abbrev pub change_notes : List Value → List Value → List CardNote
change_notes was left = flat_map (change_at was left) (range_with_len 0 (min (length was) 5))

abbrev pub left_in : List Command → CardEntry → Option Settings → List Value
left_in accepted card None = []
left_in accepted card (Some settings) =
    card_values (scramble_of accepted card.id.event card.id.round) card settings

-- the values that a card leaves in its round; none, where the round was not opened
abbrev pub left_of : List Command → CardEntry → List Value
left_of accepted card =
    left_in accepted card (option_map (λ round. round.0) (round_by accepted card.id))

-- ---- what is left, beside what is entered

abbrev pub is_failed : Option Value → Bool
is_failed None = false
is_failed (Some value) = is_dnf value

-- the solution that is entered at a place, counted from 0, counts DNF under the scramble of its
-- attempt
abbrev pub is_unsolved : (ℕ → Option (List Move)) → List (Option Entered) → List Value → ℕ → Bool
is_unsolved scrambles now left at =
    enters is_solution (get_or now at None) && is_some (scrambles (at + 1))
    && is_failed (slice_get left at)

abbrev pub unsolved_at : (ℕ → Option (List Move)) → List (Option Entered) → List Value → ℕ
    → List CardNote
unsolved_at scrambles now left at =
    if is_unsolved scrambles now left at then note.Unsolved (at + 1) ∷ [] else []

-- each of the first five solutions that does not solve its scramble; these values are left
abbrev pub unsolved_notes : (ℕ → Option (List Move)) → List (Option Entered) → List Value
    → List CardNote
unsolved_notes scrambles now left =
    flat_map (unsolved_at scrambles now left) (range_with_len 0 (min (length now) 5))

abbrev pub is_again : Option Value → Option Value → Bool
is_again (Some (value.Number first)) (Some (value.Number again)) = first == again
is_again _ _ = false

abbrev pub is_entered : List (Option Entered) → ℕ → Bool
is_entered now at = enters (λ x. true) (get_or now at None)

-- attempts 3 and 4, or 4 and 5, are left as results, those of 1 and 2 again, and one of them is
-- entered
abbrev pub is_repeat : List (Option Entered) → List Value → Bool
is_repeat now left =
    (is_entered now 2 || is_entered now 3) && (is_again (slice_get left 0) (slice_get left 2)
    && is_again (slice_get left 1) (slice_get left 3))
    || (is_entered now 3 || is_entered now 4)
    && (is_again (slice_get left 0) (slice_get left 3)
    && is_again (slice_get left 1) (slice_get left 4))

abbrev pub repeat_notes : List (Option Entered) → List Value → List CardNote
repeat_notes now left = if is_repeat now left then note.Repeats ∷ [] else []

-- what is asked of the values that a card leaves: each solution that does not solve its scramble;
-- the first two results again; and each attempt that counts and would change
abbrev pub left_notes : (ℕ → Option (List Move)) → CardEntry → List Value → List CardNote
left_notes scrambles card left =
    unsolved_notes scrambles card.now left ++ repeat_notes card.now left
    ++ change_notes card.was left

-- what is to be confirmed of a card: the code with which it would be refused, if it came next; each
-- time that is below what anybody ever had, or unlike the others; and what it would leave
abbrev pub doubts : List Command → CardEntry → List CardNote
doubts accepted card =
    refused_notes (refusal accepted (Card card)) ++ time_notes (bounds_of accepted card) card.now
    ++ left_notes (scramble_of accepted card.id.event card.id.round) card (left_of accepted card)

-- what is to be confirmed of a card by the competition's file, where there is one
abbrev pub file_doubts : Option (List ℕ) → List Command → CardEntry → List CardNote
file_doubts None accepted card = []
file_doubts (Some file) accepted card = file_notes file accepted card

-- all that is to be confirmed of a card: by the commands that were accepted, and by the file
abbrev pub all_doubts : Option (List ℕ) → List Command → CardEntry → List CardNote
all_doubts file accepted card = doubts accepted card ++ file_doubts file accepted card

-- ---- what is wrong

abbrev pub number_notes : Option NumberFault → List CardNote
number_notes None = []
number_notes (Some why) = note.Number why ∷ []

abbrev pub field_note : ℕ → Option FieldFault → List CardNote
field_note attempt None = []
field_note attempt (Some why) = note.Field attempt why ∷ []

-- what is wrong with the fields of the attempts, from this one on
abbrev pub field_notes : ℕ → List (Option FieldFault) → List CardNote
field_notes attempt [] = []
field_notes attempt (fault ∷ faults) =
    field_note attempt fault ++ field_notes (attempt + 1) faults

abbrev pub unread_notes : FieldFaults → List CardNote
unread_notes faults = number_notes faults.number ++ field_notes 1 faults.attempts
