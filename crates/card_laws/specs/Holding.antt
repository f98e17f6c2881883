-- What a round holds of an entrant stays until a command names that one there (the project's own).
use Rattle.std.specs.Prelude.{◌≡◌, ◌≢◌, ℕ, Bool, false, ◌==◌, ◌&&◌, List, [], ◌∷◌, ◌++◌, All}
use Rattle.std.specs.Prelude.{Option, None, Some}
use Rattle.attempts.specs.declared.Value.{Value}
use Rattle.formats.specs.declared.events.Event.{Event}
use Rattle.texts.specs.declared.command.{Command.Command, CardEntry.CardEntry, Settings.Settings}
use Rattle.texts.specs.declared.command.Command.TheVariants.{Attempt, Correct, Strike, Withdraw}
use Rattle.texts.specs.declared.command.Command.TheVariants.{Card, Fix}
use Rattle.rounds.specs.Tables.{Entrant, Table, entrant}
use Rattle.commands.specs.Accepted.{is_of, is_cancelled, round_of, round_by, scramble_of}
use Rattle.commands.specs.Accepted.{card_values}
use Rattle.card_laws.specs.Accepting.{AreAccepted}

-- the entrant of a round, where it is opened and the number is in it
abbrev pub held : ℕ → Option (Settings × Table) → Option Entrant
held n None = None
held n (Some round) = entrant round.1 n

-- a command is of the attempts of a number in a round, or takes it out of there
abbrev pub names : Event → ℕ → ℕ → Command → Bool
names e r n (Attempt entry) = is_of e r entry.id && entry.number == n
names e r n (Correct entry) = is_of e r entry.id && entry.number == n
names e r n (Strike id m) = is_of e r id && m == n
names e r n (Withdraw id m) = is_of e r id && m == n
names e r n (Card card) = is_of e r card.id && card.number == n
names e r n (Fix card) = is_of e r card.id && card.number == n
names e r n _ = false

-- what a round holds of an entrant, it holds until a command names that one there, or takes back
-- that the round was opened; whether these commands are accepted doesn't matter
abbrev pub HoldsUntilNamed : Type 0
HoldsUntilNamed =
    (cs later : List Command) (e : Event) (r n : ℕ) (one : Entrant)
    → held n (round_of cs e r) ≡ Some one
    → All (λ c. names e r n c ≡ false) later → All (λ c. is_cancelled e r c ≡ false) later
    → held n (round_of (cs ++ later) e r) ≡ Some one

-- the values that a card leaves in its round, whose attempts have the scrambles by these commands
abbrev pub values_left : List Command → CardEntry → Settings × Table → List Value
values_left cs card round = card_values (scramble_of cs card.id.event card.id.round) card round.0

-- an entrant with these values
abbrev pub entrant_with : ℕ → List Value → Entrant
entrant_with n vs = record { number = n; values = vs }

-- A command with a card is accepted, and more commands are, one after the other, none of which
-- names the entrant in this round. Then the entrant's values are those that the card leaves, where
-- it leaves any; so `CANCEL` is not one of these commands.
abbrev pub StandsUntilNamed : (CardEntry → Command) → Type 0
StandsUntilNamed command =
    (cs later : List Command) (card : CardEntry) (round : Settings × Table)
    → round_by cs card.id ≡ Some round → AreAccepted cs (command card ∷ later)
    → All (λ c. names card.id.event card.id.round card.number c ≡ false) later
    → values_left cs card round ≢ []
    → held card.number (round_by (cs ++ command card ∷ later) card.id)
    ≡ Some (entrant_with card.number (values_left cs card round))

-- after a card that is accepted its attempts count, until another accepted command names the
-- entrant
abbrev pub CardStands : Type 0
CardStands = StandsUntilNamed Card

-- the same of a card in a closed round
abbrev pub FixStands : Type 0
FixStands = StandsUntilNamed Fix
