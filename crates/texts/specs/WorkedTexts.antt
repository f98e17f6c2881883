-- Worked texts, by hand, with one of each kind of field at least: read and spelled, and some
-- faults.
use Rattle.std.specs.Prelude.{◌≡◌, ℕ, true, false, List, [], ◌∷◌, codes, Option, Some, None, Ok}
use Rattle.std.specs.Prelude.{Err}
use Rattle.cube.specs.declared.moves.Side.TheVariants.{U, R, F}
use Rattle.cube.specs.declared.moves.Axis.TheVariants.{X}
use Rattle.cube.specs.declared.moves.Kind.TheVariants.{Face, Block, Turn}
use Rattle.cube.specs.declared.moves.Quarter.TheVariants.{Clockwise, Half, Anticlockwise}
use Rattle.formats.specs.declared.{advance.Advance.Advance, events.Format.Format}
use Rattle.formats.specs.declared.advance.Advance.TheVariants.{Final, Top, Percent}
use Rattle.formats.specs.declared.events.Event.TheVariants.{Cube3, Cube7, FewestMoves, MultiBlind}
use Rattle.formats.specs.declared.events.Format.TheVariants.{Ao5, Mo3, Bo3}
use Rattle.texts.specs.declared.command.Command.{Command, TheVariants.Fix, TheVariants.Cancel}
use Rattle.texts.specs.declared.command.Command.TheVariants.{Register, Open, Enter, Scramble}
use Rattle.texts.specs.declared.command.Command.TheVariants.{Attempt, Correct, Strike, SetAdvance}
use Rattle.texts.specs.declared.command.Command.TheVariants.{Close, SetEdition, Rename, SetRound}
use Rattle.texts.specs.declared.command.Command.TheVariants.{Rescramble, Withdraw, Reopen, Card}
use Rattle.texts.specs.declared.{command.Settings.Settings, reading.CommandFault.CommandFault}
use Rattle.texts.specs.Editions.{edition_of, is_spelled_in}
use Rattle.texts.specs.Fields.{attempt_entry, card_entry, move_by, round_id}
use Rattle.texts.specs.{Reading.command_of, Reading.told, Spelling.spelling, Spelling.told_spelling}
use Rattle.attempts.specs.declared.Value.TheVariants as counted
use Rattle.texts.specs.declared.command.Entered.TheVariants as entered
use Rattle.texts.specs.declared.reading.CommandFault.TheVariants as fault

abbrev pub settings_of : Format → Option (ℕ × ℕ) → Option ℕ → Advance → Settings
settings_of form cutoff limit advance =
    record { format = form; cutoff = cutoff; limit = limit; advance = advance }

-- the text is read as the command, which is spelled so, since this edition
abbrev pub IsOne : ℕ → List ℕ → Command → Type 0
IsOne since text c =
    (command_of text ≡ Ok (told None c)) × (spelling c ≡ text) × (edition_of c ≡ since)

-- the same of a command with a name, but for reading it
abbrev pub IsSpelled : ℕ → List ℕ → Command → Type 0
IsSpelled since text c = (spelling c ≡ text) × (edition_of c ≡ since)

-- the text is the spelling of the command with this remark, which came with edition 4
abbrev pub IsTold : List ℕ → List ℕ → Command → Type 0
IsTold text remark c =
    (told_spelling (told (Some remark) c) ≡ text)
    × (is_spelled_in 3 (told (Some remark) c) ≡ false)
    × (is_spelled_in 4 (told (Some remark) c) ≡ true)

-- the text is no command, and this is the first fault
abbrev pub IsNone : List ℕ → CommandFault → Type 0
IsNone text e = command_of text ≡ Err e

pub record ReadsWorkedTexts : Type 0 where
  pub registering : IsSpelled 1 (codes "REG 9999 Ann Li") (Register 9999 (codes "Ann Li"))
  pub opening : IsOne 1 (codes "OPEN 333 2 ao5 2:1500 60000 pct:75")
      (Open (round_id Cube3 2) (settings_of Ao5 (Some (2, 1500)) (Some 60000) (Percent 75)))
  pub final_round : IsOne 1 (codes "OPEN 333fm 1 mo3 - - final")
      (Open (round_id FewestMoves 1) (settings_of Mo3 None None Final))
  pub entering : IsOne 1 (codes "ENT 777 17") (Enter Cube7 17)
  pub scramble : IsOne 1 (codes "SCR 333fm 1 3 R2 U")
      (Scramble (round_id FewestMoves 1) 3
      (move_by (Face R) Half ∷ move_by (Face U) Clockwise ∷ []))
  pub time : IsOne 1 (codes "ATT 333 1 5 9999 T:1626:2")
      (Attempt (attempt_entry (round_id Cube3 1) 5 9999 (entered.Time 1626 2)))
  pub solution : IsOne 1 (codes "ATT 333fm 1 1 17 S:R U' Fw2 x")
      (Attempt (attempt_entry (round_id FewestMoves 1) 1 17
      (entered.Solution
      (move_by (Face R) Clockwise ∷ move_by (Face U) Anticlockwise ∷ move_by (Block F) Half ∷
      move_by (Turn X) Clockwise ∷ []))))
  pub cubes : IsOne 2 (codes "COR 333mbf 1 1 7 M:11:13:3500")
      (Correct (attempt_entry (round_id MultiBlind 1) 1 7 (entered.Multi 11 13 3500)))
  pub striking : IsOne 1 (codes "STR 333 4 1") (Strike (round_id Cube3 4) 1)
  pub advance : IsOne 1 (codes "ADV 777 1 top:12") (SetAdvance (round_id Cube7 1) (Top 12))
  pub closing : IsOne 1 (codes "CLOSE 333 1") (Close (round_id Cube3 1))
  pub edition : IsOne 1 (codes "EDITION 3") (SetEdition 3)
  pub renaming : IsSpelled 3 (codes "REN 17 Ann Li") (Rename 17 (codes "Ann Li"))
  pub setting : IsOne 3 (codes "SET 333 1 bo3 - 60000")
      (SetRound (round_id Cube3 1) Bo3 None (Some 60000))
  pub rescramble : IsOne 3 (codes "RSC 333fm 1 1 R")
      (Rescramble (round_id FewestMoves 1) 1 (move_by (Face R) Clockwise ∷ []))
  pub withdrawing : IsOne 3 (codes "WDR 333 1 17") (Withdraw (round_id Cube3 1) 17)
  pub reopening : IsOne 3 (codes "REOPEN 333 1") (Reopen (round_id Cube3 1))
  pub card : IsOne 4 (codes "CARD 333 1 17 - T:1043:0/T:998:1/DNF/T:1200:0/DNS")
      (Card (card_entry (round_id Cube3 1) 17 []
      (Some (entered.Time 1043 0) ∷ Some (entered.Time 998 1) ∷ Some entered.Dnf ∷
      Some (entered.Time 1200 0) ∷ Some entered.Dns ∷ [])))
  pub card_again : IsOne 4 (codes "CARD 333 1 17 1043,DNF,1200,DNS =/T:998:0/=")
      (Card (card_entry (round_id Cube3 1) 17
      (counted.Number 1043 ∷ counted.Dnf ∷ counted.Number 1200 ∷ counted.Dns ∷ [])
      (None ∷ Some (entered.Time 998 0) ∷ None ∷ [])))
  pub card_of_moves : IsOne 4 (codes "CARD 333fm 1 4 27,28 =/=/S:R U'")
      (Card (card_entry (round_id FewestMoves 1) 4 (counted.Number 27 ∷ counted.Number 28 ∷ [])
      (None ∷ None ∷
      Some (entered.Solution (move_by (Face R) Clockwise ∷ move_by (Face U) Anticlockwise ∷ [])) ∷
      [])))
  pub card_of_nothing : IsOne 4 (codes "CARD 333 1 17 - -")
      (Card (card_entry (round_id Cube3 1) 17 [] []))
  pub fixing : IsOne 4 (codes "FIX 333mbf 4 9999 990599949,0 M:2:2:480/=")
      (Fix (card_entry (round_id MultiBlind 4) 9999
      (counted.Number 990599949 ∷ counted.Number 0 ∷ [])
      (Some (entered.Multi 2 2 480) ∷ None ∷ [])))
  pub cancelling : IsOne 4 (codes "CANCEL 333 1") (Cancel (round_id Cube3 1))
  pub edition_of_cards : IsOne 1 (codes "EDITION 4") (SetEdition 4)
  pub remark : IsTold (codes "STR 333 1 17 # a # b") (codes "a # b") (Strike (round_id Cube3 1) 17)
  pub remark_of_card : IsTold (codes "CARD 333 1 17 - DNF # A 14:02") (codes "A 14:02")
      (Card (card_entry (round_id Cube3 1) 17 [] (Some entered.Dnf ∷ [])))
  pub other_word : IsNone (codes "ent 333 1") fault.NotACommand
  pub missing : IsNone (codes "ENT 333") (fault.BadField 2)
  pub leading_zero : IsNone (codes "ENT 333 01") (fault.BadField 2)
  pub two_spaces : IsNone (codes "ENT  333 1") (fault.BadField 1)
  pub one_too_many : IsNone (codes "ENT 333 1 ") (fault.BadField 3)
  pub first_of_two : IsNone (codes "ATT 333 5 6 17 DNF") (fault.BadField 2)
  pub lower_case : IsNone (codes "card 333 1 17 - DNF") fault.NotACommand
  pub other_edition : IsNone (codes "EDITION 5") (fault.BadField 1)
  pub value_with_zero : IsNone (codes "CARD 333 1 17 01000 =") (fault.BadField 4)
  pub value_too_great : IsNone (codes "CARD 333 1 17 990599950 =") (fault.BadField 4)
  pub six_values : IsNone (codes "CARD 333 1 17 1,2,3,4,5,6 =") (fault.BadField 4)
  pub no_value : IsNone (codes "CARD 333 1 17 1000, =") (fault.BadField 4)
  pub one_more_stays : IsNone (codes "CARD 333 1 17 1000 =/=") (fault.BadField 5)
  pub none_stays : IsNone (codes "CARD 333 1 17 - =") (fault.BadField 5)
  pub six_attempts : IsNone (codes "CARD 333 1 17 - DNF/DNF/DNF/DNF/DNF/DNF") (fault.BadField 5)
  pub dash_among : IsNone (codes "CARD 333 1 17 1000 DNF/-") (fault.BadField 5)
  pub bad_fields : IsNone (codes "FIX 333 1 1 x x # ") (fault.BadField 4)
  pub bad_remark : IsNone (codes "FIX 333 1 1 - DNF # ") (fault.BadField 6)
  pub bad_remark_of_three : IsNone (codes "WDR 333 1 17 # ") (fault.BadField 4)
  pub remark_too_early : IsNone (codes "WDR 333 1 # x") (fault.BadField 3)
  pub remark_elsewhere : IsNone (codes "CANCEL 333 1 # x") (fault.BadField 3)
