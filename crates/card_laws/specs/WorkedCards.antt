-- Worked by hand: lists of commands that meet the premises of the laws.
use Rattle.std.specs.Prelude.{◌≡◌, ◌≤◌, ℕ, false, true, List, [], ◌∷◌, ◌++◌, All, codes, None, Some}
use Rattle.std.specs.List.{list_any}
use Rattle.attempts.specs.declared.Value.{Value}
use Rattle.formats.specs.declared.{advance.Advance.TheVariants.Final, events.Format.TheVariants.Bo3}
use Rattle.formats.specs.declared.events.{Event.TheVariants.Cube3, Format.TheVariants.Ao5}
use Rattle.texts.specs.declared.command.{Command.Command, CardEntry.CardEntry, RoundId.RoundId}
use Rattle.texts.specs.declared.command.Command.TheVariants.{Register, Open, Enter, Correct, Close}
use Rattle.texts.specs.declared.command.Command.TheVariants.{SetEdition, Reopen, Card, Fix, Cancel}
use Rattle.texts.specs.declared.command.{Entered.Entered, Settings.Settings}
use Rattle.texts.specs.{Fields.attempt_entry, Fields.card_entry, Fields.round_id, Spelling.spelling}
use Rattle.rounds.specs.Tables.{Table}
use Rattle.commands.specs.Accepted.{edition_in, is_cancelled, opened, refusal, round_by}
use Rattle.commands.specs.History.{history_in}
use Rattle.card_laws.specs.Accepting.{AreAccepted, first_refusal}
use Rattle.card_laws.specs.GivingBack.{AreOverTheSame, is_shown}
use Rattle.card_laws.specs.Holding.{entrant_with, held, names, values_left}
use Rattle.card_laws.specs.OverNothing.{HasRules, StandsBare, attempts_from, first_card}
use Rattle.attempts.specs.declared.Unit.TheVariants as measure
use Rattle.attempts.specs.declared.Value.TheVariants as value
use Rattle.texts.specs.declared.answer.Code.TheVariants as code
use Rattle.texts.specs.declared.command.Entered.TheVariants as entered

abbrev pub id : RoundId
id = round_id Cube3 1

-- an entrant who is not below 11.00 in two attempts has no more
abbrev pub settings : Settings
settings =
    record { format = Ao5; cutoff = Some (2, 1100); limit = Some 60000; advance = Final }

-- two are in a round, and one more is registered
abbrev pub begun : List Command
begun =
    SetEdition 4 ∷ Register 1 (codes "Ann") ∷ Register 2 (codes "Ben")
    ∷ Register 3 (codes "Cas") ∷ Open id settings ∷ Enter Cube3 1 ∷ Enter Cube3 2 ∷ []

abbrev pub begun_round : Settings × Table
begun_round = (
  settings,
  record {
    format = Ao5;
    unit = measure.Time;
    cutoff = Some (2, 1100);
    is_closed = false;
    entrants = entrant_with 1 [] ∷ entrant_with 2 [] ∷ [];
  },
)

abbrev pub time : ℕ → ℕ → Entered
time hundredths penalties = entered.Time hundredths penalties

-- what is written on Ann's card, and what it counts
abbrev pub written : List Entered
written = time 1043 0 ∷ time 998 1 ∷ entered.Dnf ∷ time 1200 0 ∷ time 1131 0 ∷ []

abbrev pub counted : List Value
counted =
    value.Number 1043 ∷ value.Number 1198 ∷ value.Dnf ∷ value.Number 1200 ∷ value.Number 1131 ∷ []

abbrev pub ann : CardEntry
ann = first_card id 1 written

-- one attempt of it
abbrev pub begun_card : CardEntry
begun_card = first_card id 1 (time 1043 0 ∷ [])

-- the same card at another table, where the penalty is overlooked
abbrev pub again : CardEntry
again = first_card id 1 (time 1043 0 ∷ time 998 0 ∷ entered.Dnf ∷ time 1200 0 ∷ time 1131 0 ∷ [])

-- Ben does not meet the cutoff
abbrev pub slow : List Entered
slow = time 1200 0 ∷ time 1300 0 ∷ []

abbrev pub ben : CardEntry
ben = first_card id 2 slow

-- Ann's card is taken back
abbrev pub back : Command
back = Card (card_entry id 1 counted [])

abbrev pub closed : List Command
closed = begun ++ Card ann ∷ Card ben ∷ Close id ∷ []

-- Ann's second attempt has no penalty; and it has one after all
abbrev pub fix : CardEntry
fix = card_entry id 1 counted (None ∷ Some (time 998 0) ∷ None ∷ None ∷ None ∷ [])

abbrev pub fixed_back : Command
fixed_back =
    Fix (card_entry id 1
    (value.Number 1043 ∷ value.Number 998 ∷ value.Dnf ∷ value.Number 1200 ∷ value.Number 1131 ∷ [])
    (None ∷ Some (time 998 1) ∷ None ∷ None ∷ None ∷ []))

-- what happens to Ben once Ann's card is entered, and once it is fixed
abbrev pub to_ben : List Command
to_ben = Card ben ∷ Correct (attempt_entry id 1 2 entered.Dnf) ∷ Close id ∷ []

abbrev pub to_ben_later : List Command
to_ben_later = Fix (card_entry id 2 (value.Number 1200 ∷ value.Number 1300 ∷ [])
    (None ∷ Some entered.Dnf ∷ [])) ∷ Reopen id ∷ []

-- a solution is no outcome of this event
abbrev pub mixed : List Entered
mixed = time 1000 0 ∷ entered.Solution [] ∷ []

-- a card over nothing, with the attempts of the same outcomes
pub record WorksOverNothing : Type 0 where
  pub done : AreAccepted [] closed
  pub rules : HasRules (round_by begun id)
  pub bare : StandsBare 1 (round_by begun id)
  pub card : refusal begun (Card ann) ≡ None
  pub attempts : AreAccepted begun (attempts_from id 1 1 written)
  -- a third attempt is one too many
  pub refused_card : refusal begun (Card (first_card id 2 (time 1200 0 ∷ slow)))
      ≡ Some code.NoMoreAttempts
  pub refused_attempts : first_refusal begun (attempts_from id 2 1 (time 1200 0 ∷ slow))
      ≡ Some code.NoMoreAttempts
  -- an outcome that the event doesn't allow: this is the first check of a card
  pub other_card : refusal closed (Card (first_card id 3 mixed)) ≡ Some code.WrongOutcome
  pub other_attempts : first_refusal closed (attempts_from id 3 1 mixed) ≡ Some code.Closed

-- a card, in an open round and in a closed one, and commands after it that are of somebody else
pub record WorksStanding : Type 0 where
  pub round : round_by begun id ≡ Some begun_round
  pub accepted : AreAccepted begun (Card ann ∷ to_ben)
  pub unnamed : All (λ c. names Cube3 1 1 c ≡ false) to_ben
  pub leaves : values_left begun ann begun_round ≡ counted
  pub stands : held 1 (round_by (begun ++ Card ann ∷ to_ben) id) ≡ Some (entrant_with 1 counted)
  pub not_cancelled : refusal (begun ++ Card begun_card ∷ []) (Cancel id) ≡ Some code.HasAttempts
  pub fixed : AreAccepted closed (Fix fix ∷ to_ben_later)
  pub unnamed_later : All (λ c. names Cube3 1 1 c ≡ false) to_ben_later

-- two cards over the same, in an open round and in a closed one
pub record WorksGivingBack : Type 0 where
  pub same : AreOverTheSame ann again
  pub changes : is_shown (begun ++ Card ann ∷ []) ann ≡ false
  pub refused : refusal (begun ++ Card ann ∷ []) (Card again) ≡ Some code.Changed
  pub given_back : AreAccepted begun (Card ann ∷ back ∷ Card again ∷ [])
  pub fix_changes : is_shown (closed ++ Fix fix ∷ []) fix ≡ false
  pub fix_refused : refusal (closed ++ Fix fix ∷ []) (Fix fix) ≡ Some code.Changed
  pub fix_given_back : AreAccepted closed (Fix fix ∷ fixed_back ∷ Fix fix ∷ [])

-- ---- a round that was opened by mistake

-- nobody is entered yet
abbrev pub called : List Command
called = SetEdition 4 ∷ Register 1 (codes "Ann") ∷ []

abbrev pub mistaken : List Command
mistaken = called ++ Open id settings ∷ []

-- the settings that were meant
abbrev pub meant : Settings
meant = record { format = Bo3; cutoff = None; limit = Some 60000; advance = Final }

abbrev pub taken_back : List Command
taken_back = mistaken ++ Cancel id ∷ []

-- the first opening holds where nobody takes it back, and the one after that where somebody does
pub record WorksTakenBack : Type 0 where
  pub opens : refusal called (Open id settings) ≡ None
  pub not_cancelled : list_any (is_cancelled Cube3 1) mistaken ≡ false
  pub first : opened Cube3 1 [] mistaken
      ≡ Some (record { before = called; settings = settings; since = [] })
  pub cancels : refusal mistaken (Cancel id) ≡ None
  pub gone : round_by taken_back id ≡ None
  pub opens_again : refusal taken_back (Open id meant) ≡ None
  pub cancelled : list_any (is_cancelled Cube3 1) (taken_back ++ Open id meant ∷ []) ≡ true
  pub second : opened Cube3 1 [] (taken_back ++ Open id meant ∷ [])
      ≡ Some (record { before = taken_back; settings = meant; since = [] })

-- edition 4 holds after the text that sets it
abbrev pub SetsEdition : Type 0
SetsEdition =
    (number : ℕ) → 4 ≤ edition_in (history_in 4 ((number, spelling (SetEdition 4)) ∷ [])).accepted
