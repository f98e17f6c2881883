-- What the laws ask of a round is so of the rounds of every meet (the project's own).
use Rattle.std.specs.Prelude.{◌≡◌, ℕ, [], Option, None, Some}
use Rattle.texts.specs.{Fields.was_of, Spelling.was_text, declared.command.Settings.Settings}
use Rattle.rounds.specs.Tables.{Entrant, Table}
use Rattle.card_laws.specs.{Holding.held, OverNothing.HasRules, OverNothing.StandsBare}

-- of a number in a round: the entrant who is found to have it, if any, is the only one, so nothing
-- counts of the number where nothing counts of that one; and what counts of it is read back from
-- the field of a card
pub record MeetsPremises (n : ℕ) (round : Option (Settings × Table)) : Type 0 where
  pub rules : HasRules round
  pub absent : held n round ≡ None → StandsBare n round
  pub bare : (one : Entrant) → held n round ≡ Some one → one.values ≡ [] → StandsBare n round
  pub reads_back : (one : Entrant) → held n round ≡ Some one
      → was_of (was_text one.values) ≡ Some one.values
