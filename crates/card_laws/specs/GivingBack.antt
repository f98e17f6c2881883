-- A card over what no longer counts is accepted only where a command between gave that back (the
-- project's own).
use Rattle.std.specs.Prelude.{◌≡◌, ℕ, Bool, true, false, List, [], ◌∷◌, ◌++◌, Option, None, Some}
use Rattle.attempts.specs.declared.Value.{Value}
use Rattle.formats.specs.declared.events.Event.{Event}
use Rattle.texts.specs.declared.command.{Command.Command, CardEntry.CardEntry}
use Rattle.texts.specs.declared.command.Command.TheVariants.{Card, Fix}
use Rattle.rounds.specs.Tables.{Entrant}
use Rattle.commands.specs.Accepted.{refusal, round_of, are_values}
use Rattle.card_laws.specs.{Accepting.AreAccepted, Holding.held, Holding.names}

-- the values of an entrant who is there are these
abbrev pub has_values : List Value → Option Entrant → Bool
has_values was None = false
has_values was (Some one) = are_values was one.values

-- after these commands the values of a number in a round are these
abbrev pub shows : List Command → Event → ℕ → ℕ → List Value → Bool
shows cs e r n was = has_values was (held n (round_of cs e r))

-- what a card says that counts is what counts after these commands
abbrev pub is_shown : List Command → CardEntry → Bool
is_shown cs card = shows cs card.id.event card.id.round card.number card.was

-- One of the commands after `cs` gives values back to a number in a round: before it other values
-- count, or the number is not in the round; after it these count. Where the number was in the
-- round, the command names it there; else the command lets it in, as an entry or a withdrawal of
-- another does.
pub record GivesBack (cs after : List Command) (e : Event) (r n : ℕ)
    (was : List Value) : Type 0 where
  pub front : List Command
  pub one : Command
  pub back : List Command
  pub there : after ≡ front ++ one ∷ back
  pub otherwise : shows (cs ++ front) e r n was ≡ false
  pub given : shows (cs ++ front ++ one ∷ []) e r n was ≡ true
  pub names : (stood : Entrant) → held n (round_of (cs ++ front) e r) ≡ Some stood
      → names e r n one ≡ true

-- if other values count than a command with a card says, it is accepted later only if one of the
-- commands between gave back the values that it says
abbrev pub OnlyWhereGivenBack : (CardEntry → Command) → Type 0
OnlyWhereGivenBack command =
    (cs between : List Command) (card : CardEntry) → is_shown cs card ≡ false
    → refusal (cs ++ between) (command card) ≡ None
    → GivesBack cs between card.id.event card.id.round card.number card.was

abbrev pub AcceptedOnlyWhereGivenBack : Type 0
AcceptedOnlyWhereGivenBack = OnlyWhereGivenBack Card

-- the same of a card in a closed round
abbrev pub FixedOnlyWhereGivenBack : Type 0
FixedOnlyWhereGivenBack = OnlyWhereGivenBack Fix

-- two cards are of one entrant in one round, and say that the same counts
pub record AreOverTheSame (first second : CardEntry) : Type 0 where
  pub id : first.id ≡ second.id
  pub number : first.number ≡ second.number
  pub was : first.was ≡ second.was

-- An accepted one of the commands after `cs` gives back what a card says.
abbrev pub IsGivenBack : List Command → List Command → CardEntry → Type 0
IsGivenBack cs after card =
    (given : GivesBack cs after card.id.event card.id.round card.number card.was)
    × (refusal (cs ++ given.front) given.one ≡ None)

-- Two cards are over the same, and both are accepted, with all commands between them. If the first
-- changes what counts, one of the commands between gave it back. So if two tables enter the same
-- card, and nothing between gave that back, the second is refused.
abbrev pub SecondOnlyWhereGivenBack : Type 0
SecondOnlyWhereGivenBack =
    (cs between : List Command) (first second : CardEntry) → AreOverTheSame first second
    → AreAccepted cs (Card first ∷ between ++ Card second ∷ [])
    → is_shown (cs ++ Card first ∷ []) first ≡ false
    → IsGivenBack (cs ++ Card first ∷ []) between second
