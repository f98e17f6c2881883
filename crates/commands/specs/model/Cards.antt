-- A model of the code: what a card is asked one attempt after the other, and how it is refused.
use Rattle.std.specs.Prelude.{◌≡◌, ◌<◌, ◌≤◌, ℕ, Bool, true, false, All, IfSome, Option, None, Some}
use Rattle.std.specs.{Prelude.List, Prelude.length, Prelude.slice_index_or, Option.option_or}
use Rattle.cube.specs.declared.moves.Move.{Move}
use Rattle.attempts.specs.declared.Value.{Value}
use Rattle.formats.specs.Events.{last_round}
use Rattle.rounds.specs.Tables.{Table, entrant, changed}
use Rattle.texts.specs.{declared.answer.Code.Code, Spelling.IsEntered}
use Rattle.texts.specs.declared.command.{CardEntry.CardEntry, Command.Command, RoundId.RoundId}
use Rattle.texts.specs.declared.command.{Entered.Entered, Settings.Settings}
use Rattle.commands.specs.Accepted.{scramble_of, lacks_scramble, unfit_card_refusal, seen_refusal}
use Rattle.commands.specs.Accepted.{values_now, counts_in}
use Rattle.texts.specs.declared.answer.Code.TheVariants as code

-- what a card that is read keeps to: its round is one that there may be, it has at most five
-- attempts, what is entered is in its ranges, and what it keeps is there
pub record IsReadCard (card : CardEntry) : Type 0 where
  pub round : card.id.round ≤ last_round
  pub few : length card.now ≤ 5
  pub entered : All (λ o. IfSome o IsEntered) card.now
  pub stands : (i : ℕ) → i < length card.now → slice_index_or card.now i None ≡ None
      → i < length card.was

-- the scrambles of a round's attempts
abbrev pub scrambles_of : List Command → RoundId → ℕ → Option (List Move)
scrambles_of cs id k = scramble_of cs id.event id.round k

-- for an attempt one of these is entered
abbrev pub enters : (Entered → Bool) → Option Entered → Bool
enters is None = false
enters is (Some x) = is x

-- a solution for attempt k, which has no scramble
abbrev pub lacks_in : (ℕ → Option (List Move)) → ℕ → Entered → Bool
lacks_in scrambles k x = lacks_scramble (scrambles k) x

-- the value of an attempt by what is entered, or the one that counts
abbrev pub value_at : (Entered → Value) → Option Entered → Value → Value
value_at counts None v = v
value_at counts (Some x) v = counts x

-- a round is not open, or not closed where it has to be
abbrev pub state_refusal : Bool → Bool → Option Code
state_refusal false false = None
state_refusal false true = Some code.Closed
state_refusal true false = Some code.NotClosed
state_refusal true true = None

-- the checks of a card before those of its values, in a round that has to be closed, or else open
abbrev pub early_refusal : Bool → (ℕ → Option (List Move)) → CardEntry → Settings × Table
    → Option Code
early_refusal closed scrambles card round =
    option_or (unfit_card_refusal card.id.event scrambles card.now)
    (option_or (state_refusal closed round.1.is_closed)
    (seen_refusal card.was (entrant round.1 card.number)))

-- a round with the values that a card enters for its number; those that it keeps are of what counts
abbrev pub with_outcomes : (ℕ → Option (List Move)) → CardEntry → Settings × Table
    → Settings × Table
with_outcomes scrambles card round = (
  round.0,
  changed round.1 card.number (values_now (counts_in round.0 scrambles) 1 card.now),
)
