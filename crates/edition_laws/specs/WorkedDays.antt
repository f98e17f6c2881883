-- Worked days of edition 3, by hand: who is in a round after withdrawals, and what can no longer be
-- mended then.
use Rattle.std.specs.Prelude.{◌≡◌, ℕ, List, [], ◌∷◌, ◌++◌, map, codes, Some, None}
use Rattle.std.specs.Option.{option_map_or}
use Rattle.formats.specs.declared.advance.Advance.{Advance, TheVariants.Final, TheVariants.Top}
use Rattle.formats.specs.declared.events.{Event.TheVariants.Cube3, Format.TheVariants.Bo1}
use Rattle.texts.specs.Fields.{attempt_entry, round_id}
use Rattle.texts.specs.declared.command.{Command.Command, Entered.Entered, Settings.Settings}
use Rattle.texts.specs.declared.command.Command.TheVariants.{Register, SetEdition, Withdraw, Reopen}
use Rattle.texts.specs.declared.command.Command.TheVariants.{Open, Enter, Attempt, Correct, Close}
use Rattle.rounds.specs.Tables.{number_of_entrant}
use Rattle.commands.specs.Accepted.{refusal, round_of}
use Rattle.texts.specs.declared.answer.Code.TheVariants as code
use Rattle.texts.specs.declared.command.Entered.TheVariants as entered

abbrev pub one_attempt : Advance → Settings
one_attempt advance =
    record { format = Bo1; cutoff = None; limit = Some 60000; advance = advance }

-- eight are in the first round, of whom two can advance
abbrev pub begun : List Command
begun =
    SetEdition 3 ∷ Register 1 (codes "Ann") ∷ Register 2 (codes "Ben") ∷ Register 3 (codes "Cas")
    ∷ Register 4 (codes "Dee") ∷ Register 5 (codes "Eli") ∷ Register 6 (codes "Fay")
    ∷ Register 7 (codes "Gus") ∷ Register 8 (codes "Hal")
    ∷ Open (round_id Cube3 1) (one_attempt (Top 2)) ∷ Enter Cube3 1 ∷ Enter Cube3 2 ∷ Enter Cube3 4
    ∷ Enter Cube3 3 ∷ Enter Cube3 5 ∷ Enter Cube3 6 ∷ Enter Cube3 7 ∷ Enter Cube3 8 ∷ []

abbrev pub did : ℕ → Entered → Command
did n outcome = Attempt (attempt_entry (round_id Cube3 1) 1 n outcome)

-- 1 and 2 advance. 4 and 3 are tied behind them: they wait in the order of their entry. The others
-- have no result, and wait for nothing.
abbrev pub day : List Command
day =
    begun ++ did 1 (entered.Time 1000 0) ∷ did 2 (entered.Time 1100 0) ∷ did 3 (entered.Time 1200 0)
    ∷ did 4 (entered.Time 1200 0) ∷ did 5 entered.Dnf ∷ did 6 entered.Dns ∷ did 7 entered.Dnf
    ∷ did 8 entered.Dns ∷ Close (round_id Cube3 1) ∷ Open (round_id Cube3 2) (one_attempt Final)
    ∷ []

-- a competitor withdraws from the second round
abbrev pub leave : ℕ → Command
leave n = Withdraw (round_id Cube3 2) n

-- the numbers of those who are in a round, in order of entry
abbrev pub those_in : ℕ → List Command → List ℕ
those_in r cs =
    option_map_or (λ round. map number_of_entrant round.1.entrants) (round_of cs Cube3 r) []

pub record MendsWorkedDays : Type 0 where
  pub nobody_left_yet : those_in 2 day ≡ 1 ∷ 2 ∷ []
  pub one_leaves : those_in 2 (day ++ leave 1 ∷ []) ≡ 2 ∷ 4 ∷ []
  pub two_leave : those_in 2 (day ++ leave 1 ∷ leave 2 ∷ []) ≡ 4 ∷ 3 ∷ []
  -- who was taken in leaves too, and is not taken in again
  pub taken_in_leaves : those_in 2 (day ++ leave 1 ∷ leave 4 ∷ []) ≡ 2 ∷ 3 ∷ []
  -- nobody waits any more
  pub nobody_waits : those_in 2 (day ++ leave 1 ∷ leave 2 ∷ leave 4 ∷ []) ≡ 3 ∷ []
  -- one who withdraws from a first round leaves no place
  pub first_round : those_in 1 (begun ++ Withdraw (round_id Cube3 1) 2 ∷ [])
      ≡ 1 ∷ 4 ∷ 3 ∷ 5 ∷ 6 ∷ 7 ∷ 8 ∷ []
  pub left_once : refusal (day ++ leave 1 ∷ []) (leave 1) ≡ Some code.NotEntered
  -- who advanced stays, once the second round is open
  pub no_correction : refusal (day ++ leave 1 ∷ [])
      (Correct (attempt_entry (round_id Cube3 1) 1 3 (entered.Time 900 0))) ≡ Some code.Closed
  pub no_reopening : refusal (day ++ leave 1 ∷ []) (Reopen (round_id Cube3 1)) ≡ Some code.RoundOpen
