-- Worked sheets of editions 1, 2 and 4, from commands, by hand: what every later program prints of
-- these lists.
use Rattle.std.specs.Prelude.{◌≡◌, ℕ, List, [], ◌∷◌, ◌++◌, codes, Option, Some, None}
use Rattle.cube.specs.declared.moves.Side.TheVariants.{U, R}
use Rattle.cube.specs.declared.moves.{Kind.TheVariants.Face, Move.Move}
use Rattle.cube.specs.declared.moves.Quarter.TheVariants.{Clockwise, Anticlockwise}
use Rattle.formats.specs.declared.advance.Advance.{Advance, TheVariants.Final, TheVariants.Top}
use Rattle.formats.specs.declared.events.{Event.Event, Format.Format}
use Rattle.formats.specs.declared.events.Event.TheVariants.{Cube3, FewestMoves, MultiBlind}
use Rattle.formats.specs.declared.events.Format.TheVariants.{Ao5, Mo3, Bo1, Bo3}
use Rattle.texts.specs.Fields.{attempt_entry, card_entry, move_by, round_id}
use Rattle.texts.specs.declared.command.{Command.Command, Entered.Entered, Settings.Settings}
use Rattle.texts.specs.declared.command.Command.TheVariants.{Register, Open, Enter, Scramble}
use Rattle.texts.specs.declared.command.Command.TheVariants.{Attempt, Close, SetEdition, Fix}
use Rattle.sheets.specs.Sheet.{sheet}
use Rattle.edition_laws.specs.Answered.{lines}
use Rattle.attempts.specs.declared.Value.TheVariants as value
use Rattle.texts.specs.declared.command.Entered.TheVariants as entered
use Rattle.formats.specs.declared.styles.SheetStyle.TheVariants as style

abbrev pub settings_of : Format → Option (ℕ × ℕ) → Option ℕ → Advance → Settings
settings_of form cutoff limit advance =
    record { format = form; cutoff = cutoff; limit = limit; advance = advance }

-- attempt k of competitor n in the first round of an event
abbrev pub did : Event → ℕ → ℕ → Entered → Command
did e k n outcome = Attempt (attempt_entry (round_id e 1) k n outcome)

-- a time without penalties
abbrev pub time : ℕ → Entered
time hundredths = entered.Time hundredths 0

-- a round that is open, of an average
abbrev pub open_round : List Command
open_round =
    Register 1 (codes "Ann Li") ∷ Register 2 (codes "Bo Ek")
    ∷ Open (round_id Cube3 1) (settings_of Ao5 None (Some 60000) Final) ∷ Enter Cube3 1
    ∷ Enter Cube3 2 ∷ did Cube3 1 1 (time 1000) ∷ did Cube3 2 1 (time 1200)
    ∷ did Cube3 3 1 (time 1100) ∷ did Cube3 4 1 (time 1300) ∷ did Cube3 5 1 entered.Dnf
    ∷ did Cube3 1 2 (entered.Time 950 1) ∷ []

abbrev pub open_text : List ℕ
open_text =
    lines ("333 round 1 ao5 open position 11" ∷ "cutoff - limit 60000 advance final"
    ∷ "  1     12.00     10.00     10.00     12.00     11.00     13.00       DNF    1 - Ann Li"
    ∷ "  2         -     11.50     11.50         -         -         -         -    2 - Bo Ek" ∷ [])

abbrev pub open_table : List ℕ
open_table =
    lines ("place,number,name,average,best,1,2,3,4,5,advances"
    ∷ "1,1,Ann Li,12.00,10.00,10.00,12.00,11.00,13.00,DNF,no"
    ∷ "2,2,Bo Ek,-,11.50,11.50,-,-,-,-,no" ∷ [])

-- A round that is closed: 3 does not meet the cutoff, 1 and 4 are tied over the border of two
-- places, so that 2 alone advances. A meet lets a round of fewer than eight be closed only as a
-- final; what is printed does not ask for that.
abbrev pub closed_round : List Command
closed_round =
    Register 1 (codes "Ann Li") ∷ Register 2 (codes "Smith, John")
    ∷ Register 3 (codes "Pat \"Slow\" Roy") ∷ Register 4 (codes "Bo Ek")
    ∷ Open (round_id Cube3 1) (settings_of Bo3 (Some (1, 2000)) (Some 60000) (Top 2))
    ∷ Enter Cube3 1 ∷ Enter Cube3 2 ∷ Enter Cube3 3 ∷ Enter Cube3 4 ∷ did Cube3 1 1 (time 1000)
    ∷ did Cube3 2 1 (time 1100) ∷ did Cube3 3 1 (time 1200) ∷ did Cube3 1 2 (time 905)
    ∷ did Cube3 2 2 (time 6000) ∷ did Cube3 3 2 entered.Dnf ∷ did Cube3 1 3 (time 2000)
    ∷ did Cube3 1 4 (time 1200) ∷ did Cube3 2 4 (time 1000) ∷ did Cube3 3 4 (time 1500)
    ∷ Close (round_id Cube3 1) ∷ []

abbrev pub closed_text : List ℕ
closed_text =
    lines ("333 round 1 bo3 closed position 20" ∷ "cutoff 1:2000 limit 60000 advance top:2"
    ∷ "  1         -      9.05      9.05   1:00.00       DNF    2 Q Smith, John"
    ∷ "  2         -     10.00     10.00     11.00     12.00    1 - Ann Li"
    ∷ "  2         -     10.00     12.00     10.00     15.00    4 - Bo Ek"
    ∷ "  4         -     20.00     20.00         -         -    3 - Pat \"Slow\" Roy" ∷ [])

abbrev pub closed_table : List ℕ
closed_table =
    lines ("place,number,name,average,best,1,2,3,advances"
    ∷ "1,2,\"Smith, John\",-,9.05,9.05,1:00.00,DNF,yes" ∷ "2,1,Ann Li,-,10.00,10.00,11.00,12.00,no"
    ∷ "2,4,Bo Ek,-,10.00,12.00,10.00,15.00,no"
    ∷ "4,3,\"Pat \"\"Slow\"\" Roy\",-,20.00,20.00,-,-,no" ∷ [])

-- the first time of 2 was wrong
abbrev pub fix : Command
fix =
    Fix (card_entry (round_id Cube3 1) 2 (value.Number 905 ∷ value.Number 6000 ∷ value.Dnf ∷ [])
    (Some (time 1999) ∷ None ∷ None ∷ []))

-- who advances follows: 1 and 4, who were tied over the border
abbrev pub fixed_round : List Command
fixed_round = closed_round ++ fix ∷ []

abbrev pub fixed_text : List ℕ
fixed_text =
    lines ("333 round 1 bo3 closed position 21" ∷ "cutoff 1:2000 limit 60000 advance top:2"
    ∷ "  1         -     10.00     10.00     11.00     12.00    1 Q Ann Li"
    ∷ "  1         -     10.00     12.00     10.00     15.00    4 Q Bo Ek"
    ∷ "  3         -     19.99     19.99   1:00.00       DNF    2 - Smith, John"
    ∷ "  4         -     20.00     20.00         -         -    3 - Pat \"Slow\" Roy" ∷ [])

-- once the next round is opened, places follow and marks do not
abbrev pub fixed_late : List Command
fixed_late =
    closed_round ++ Open (round_id Cube3 2) (settings_of Bo3 None (Some 60000) Final) ∷ fix ∷ []

abbrev pub late_text : List ℕ
late_text =
    lines ("333 round 1 bo3 closed position 22" ∷ "cutoff 1:2000 limit 60000 advance top:2"
    ∷ "  1         -     10.00     10.00     11.00     12.00    1 - Ann Li"
    ∷ "  1         -     10.00     12.00     10.00     15.00    4 - Bo Ek"
    ∷ "  3         -     19.99     19.99   1:00.00       DNF    2 Q Smith, John"
    ∷ "  4         -     20.00     20.00         -         -    3 - Pat \"Slow\" Roy" ∷ [])

abbrev pub late_table : List ℕ
late_table =
    lines ("place,number,name,average,best,1,2,3,advances"
    ∷ "1,1,Ann Li,-,10.00,10.00,11.00,12.00,no" ∷ "1,4,Bo Ek,-,10.00,12.00,10.00,15.00,no"
    ∷ "3,2,\"Smith, John\",-,19.99,19.99,1:00.00,DNF,yes"
    ∷ "4,3,\"Pat \"\"Slow\"\" Roy\",-,20.00,20.00,-,-,no" ∷ [])

-- fewest moves: solutions of one, two and two moves
abbrev pub quarter_right : List Move
quarter_right = move_by (Face R) Clockwise ∷ []

abbrev pub right_and_up : List Move
right_and_up = move_by (Face R) Clockwise ∷ move_by (Face U) Clockwise ∷ []

abbrev pub back_again : List Move
back_again = move_by (Face U) Anticlockwise ∷ move_by (Face R) Anticlockwise ∷ []

abbrev pub moves_round : List Command
moves_round =
    Register 1 (codes "Ann Li") ∷ Open (round_id FewestMoves 1) (settings_of Mo3 None None Final)
    ∷ Enter FewestMoves 1 ∷ Scramble (round_id FewestMoves 1) 1 quarter_right
    ∷ Scramble (round_id FewestMoves 1) 2 right_and_up
    ∷ Scramble (round_id FewestMoves 1) 3 right_and_up
    ∷ did FewestMoves 1 1 (entered.Solution (move_by (Face R) Anticlockwise ∷ []))
    ∷ did FewestMoves 2 1 (entered.Solution back_again)
    ∷ did FewestMoves 3 1 (entered.Solution back_again) ∷ []

abbrev pub moves_sheet : List ℕ
moves_sheet =
    lines ("333fm round 1 mo3 open position 9" ∷ "cutoff - limit - advance final"
    ∷ "  1      1.67         1         1         2         2    1 - Ann Li" ∷ [])

-- multi-blind, of edition 2: nine of nine, and two of five, which is a DNF
abbrev pub multi_round : List Command
multi_round =
    SetEdition 2 ∷ Register 1 (codes "Ann Li") ∷ Register 2 (codes "Bo Ek")
    ∷ Open (round_id MultiBlind 1) (settings_of Bo1 None None Final) ∷ Enter MultiBlind 1
    ∷ Enter MultiBlind 2 ∷ did MultiBlind 1 1 (entered.Multi 9 9 3499)
    ∷ did MultiBlind 1 2 (entered.Multi 2 5 600) ∷ []

abbrev pub multi_text : List ℕ
multi_text =
    lines ("333mbf round 1 bo1 open position 8" ∷ "cutoff - limit - advance final"
    ∷ "  1           -   9/9 58:19   9/9 58:19    1 - Ann Li"
    ∷ "  2           -         DNF         DNF    2 - Bo Ek" ∷ [])

abbrev pub multi_table : List ℕ
multi_table =
    lines ("place,number,name,average,best,1,advances" ∷ "1,1,Ann Li,-,9/9 58:19,9/9 58:19,no"
    ∷ "2,2,Bo Ek,-,DNF,DNF,no" ∷ [])

abbrev pub moves_table : List ℕ
moves_table =
    lines ("place,number,name,average,best,1,2,3,advances" ∷ "1,1,Ann Li,1.67,1,1,2,2,no" ∷ [])

pub record PrintsWorkedSheets : Type 0 where
  pub open_as_text : sheet style.Text open_round Cube3 1 11 ≡ Some open_text
  pub open_as_table : sheet style.Table open_round Cube3 1 11 ≡ Some open_table
  pub closed_as_text : sheet style.Text closed_round Cube3 1 20 ≡ Some closed_text
  pub closed_as_table : sheet style.Table closed_round Cube3 1 20 ≡ Some closed_table
  pub fixed_as_text : sheet style.Text fixed_round Cube3 1 21 ≡ Some fixed_text
  pub late_as_text : sheet style.Text fixed_late Cube3 1 22 ≡ Some late_text
  pub late_as_table : sheet style.Table fixed_late Cube3 1 22 ≡ Some late_table
  pub moves_as_text : sheet style.Text moves_round FewestMoves 1 9 ≡ Some moves_sheet
  pub moves_as_table : sheet style.Table moves_round FewestMoves 1 9 ≡ Some moves_table
  pub multi_as_text : sheet style.Text multi_round MultiBlind 1 8 ≡ Some multi_text
  pub multi_as_table : sheet style.Table multi_round MultiBlind 1 8 ≡ Some multi_table
  -- a round that was not opened has no sheet
  pub no_round : sheet style.Text open_round Cube3 2 11 ≡ None
