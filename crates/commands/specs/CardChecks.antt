-- The checks of a scorecard: in a round that is open, and in one that is closed. Each is made of
-- the whole card before the next one is. They and their order are this project's own.
use Rattle.std.specs.Prelude.{ℕ, suc, Bool, true, false, not, ◌==◌, ◌&&◌, ◌||◌, if◌then◌else◌, List}
use Rattle.std.specs.Prelude.{[], ◌∷◌, is_some, Option, None, Some}
use Rattle.std.specs.Option.{option_or, option_map}
use Rattle.cube.specs.declared.moves.Move.{Move}
use Rattle.attempts.specs.declared.Value.{Value}
use Rattle.formats.specs.{declared.events.Event.Event, Events.unit_of}
use Rattle.texts.specs.declared.command.{CardEntry.CardEntry, Entered.Entered, Settings.Settings}
use Rattle.texts.specs.declared.answer.Code.{Code}
use Rattle.rounds.specs.Tables.{Entrant, Table, entrant, set_fault, fix_fault, with_values}
use Rattle.rounds.specs.Tables.{is_attempted, started}
use Rattle.commands.specs.{Values.settled, Values.values_now, RoundChecks.breaks_rounds_rule}
use Rattle.commands.specs.FaultCodes.{set_code, fix_code}
use Rattle.commands.specs.AttemptChecks.{is_wrong, lacks_scramble}
use Rattle.attempts.specs.declared.Value.TheVariants as value
use Rattle.texts.specs.declared.answer.Code.TheVariants as code

-- some outcome, from attempt k on, is one of these
abbrev pub has_outcome : (ℕ → Entered → Bool) → ℕ → List (Option Entered) → Bool
has_outcome is k [] = false
has_outcome is k (None ∷ xs) = has_outcome is (suc k) xs
has_outcome is k (Some x ∷ xs) = is k x || has_outcome is (suc k) xs

-- the first check that fails of what a card enters, under the scrambles of its attempts
abbrev pub unfit_card_refusal : Event → (ℕ → Option (List Move)) → List (Option Entered)
    → Option Code
unfit_card_refusal e scrambles now =
    if has_outcome (λ k x. is_wrong (unit_of e) x) 1 now then Some code.WrongOutcome
    else if has_outcome (λ k x. lacks_scramble (scrambles k) x) 1 now then Some code.NoScramble
    else None

abbrev pub is_value : Value → Value → Bool
is_value (value.Number n) (value.Number m) = n == m
is_value value.Dnf value.Dnf = true
is_value value.Dns value.Dns = true
is_value _ _ = false

abbrev pub are_values : List Value → List Value → Bool
are_values [] [] = true
are_values [] (w ∷ ws) = false
are_values (v ∷ vs) [] = false
are_values (v ∷ vs) (w ∷ ws) = is_value v w && are_values vs ws

-- the values that count of an entrant are not those that the writer of a card saw
abbrev pub seen_refusal : List Value → Option Entrant → Option Code
seen_refusal was None = Some code.NotEntered
seen_refusal was (Some e) = if are_values was e.values then None else Some code.Changed

-- what an outcome of attempt k counts, under a round's settings and its scrambles
abbrev pub counts_in : Settings → (ℕ → Option (List Move)) → ℕ → Entered → Value
counts_in settings scrambles k x = settled settings (scrambles k) x

-- the values that a card leaves, where what counts is what its writer saw
abbrev pub card_values : (ℕ → Option (List Move)) → CardEntry → Settings → List Value
card_values scrambles card settings =
    values_now (counts_in settings scrambles) 1 card.now card.was

-- a round with a card
abbrev pub with_card : (ℕ → Option (List Move)) → CardEntry → Settings × Table → Settings × Table
with_card scrambles card round =
    (round.0, with_values round.1 card.number (card_values scrambles card round.0))

-- the first check of a card that fails
abbrev pub card_refusal : Event → (ℕ → Option (List Move)) → CardEntry
    → Option (Settings × Table) → Option Code
card_refusal e scrambles card None = Some code.RoundUnknown
card_refusal e scrambles card (Some round) =
    option_or (unfit_card_refusal e scrambles card.now) (if round.1.is_closed then Some code.Closed
    else option_or (seen_refusal card.was (entrant round.1 card.number))
    (option_map set_code (set_fault round.1 card.number (card_values scrambles card round.0))))

-- the numbers of competitors of an event's rounds, with this many in round r
abbrev pub but_for : (ℕ → ℕ) → ℕ → ℕ → ℕ → ℕ
but_for competitors r count j = if j == r then count else competitors j

-- the next round is not opened, and with this round the rounds rule is broken
abbrev pub breaks_with : (ℕ → ℕ) → Bool → ℕ → Settings × Table → Bool
breaks_with competitors is_next_open r round =
    not is_next_open
    && breaks_rounds_rule (but_for competitors r (started round.1)) r round.0.advance

-- the first check of a card in a closed round that fails; the competitors are those of the
-- event's rounds as the next ones see them
abbrev pub fix_refusal : Event → (ℕ → Option (List Move)) → CardEntry → (ℕ → ℕ) → Bool
    → Option (Settings × Table) → Option Code
fix_refusal e scrambles card competitors is_next_open None = Some code.RoundUnknown
fix_refusal e scrambles card competitors is_next_open (Some round) =
    option_or (unfit_card_refusal e scrambles card.now)
    (if not round.1.is_closed then Some code.NotClosed
    else option_or (seen_refusal card.was (entrant round.1 card.number)) (option_or
    (option_map fix_code (fix_fault round.1 card.number (card_values scrambles card round.0)))
    (if breaks_with competitors is_next_open card.id.round (with_card scrambles card round)
    then Some code.RoundsRule else None)))

-- the first check that fails of taking back that a round was opened, whose next one is open or not
abbrev pub cancel_refusal : Option (Settings × Table) → Option (Settings × Table) → Option Code
cancel_refusal next None = Some code.RoundUnknown
cancel_refusal next (Some round) =
    if is_some next then Some code.RoundOpen
    else if is_attempted round.1 1 then Some code.HasAttempts
    else None
