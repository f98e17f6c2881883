-- What is written beside a command counts for nothing, and what counts is written in one way (the
-- project's own).
use Rattle.std.specs.Prelude.{◌≡◌, ◌≤◌, ◌⊎◌, ℕ, List, [], ◌∷◌, ◌++◌, Option, Some, Ok}
use Rattle.attempts.specs.declared.Value.{Value}
use Rattle.formats.specs.declared.{events.Event.Event, styles.SheetStyle.SheetStyle as Style}
use Rattle.texts.specs.declared.command.{Command.Command, RemarkedCommand.RemarkedCommand}
use Rattle.texts.specs.{Fields.was_of, Reading.command_of}
use Rattle.texts.specs.Spelling.{AreCounted, IsFitTold, told_spelling, was_text}
use Rattle.commands.specs.Accepted.{edition_in}
use Rattle.commands.specs.History.{History, after_in, answer_in, history_in}
use Rattle.sheets.specs.Sheet.{sheet}

-- up to five values that can count are read back from the field of a card that says that they do
abbrev pub ReadsBack : Type 0
ReadsBack = (vs : List Value) → AreCounted vs → was_of (was_text vs) ≡ Some vs

-- a command with a remark, or with none
abbrev pub with_told : Command → Option (List ℕ) → RemarkedCommand
with_told c remark = record { command = c; remark = remark }

-- two texts spell one command, with whatever remarks, or one without
abbrev pub IsOneCommand : List ℕ → List ℕ → Type 0
IsOneCommand one other =
    (c : Command) × (remark : Option (List ℕ)) × (instead : Option (List ℕ))
    × (command_of one ≡ Ok (with_told c remark)) × (command_of other ≡ Ok (with_told c instead))

-- Whatever is shown beside a command, if anything is, its text spells that command. And once
-- edition 4 holds, two texts that differ in their remarks alone are answered alike and come to the
-- same, for a program that knows any number of editions.
pub record RemarksAreTold : Type 0 where
  pub spelled : (c : Command) (remark instead : Option (List ℕ))
      → IsFitTold (with_told c remark) → IsFitTold (with_told c instead)
      → IsOneCommand (told_spelling (with_told c remark)) (told_spelling (with_told c instead))
  pub answer : (k : ℕ) (h : History) (id : ℕ) (one other : List ℕ) → IsOneCommand one other
      → 4 ≤ edition_in h.accepted → answer_in k h id one ≡ answer_in k h id other
  pub after : (k : ℕ) (h : History) (id : ℕ) (one other : List ℕ) → IsOneCommand one other
      → 4 ≤ edition_in h.accepted → after_in k h id one ≡ after_in k h id other

-- two entries have one id, and their texts differ in their remarks alone, if at all
abbrev pub IsToldAlike : ℕ × List ℕ → ℕ × List ℕ → Type 0
IsToldAlike one other =
    (one.0 ≡ other.0) × ((one.1 ≡ other.1) ⊎ IsOneCommand one.1 other.1)

-- two lists of entries are so, one entry after the other
abbrev pub AreToldAlike : List (ℕ × List ℕ) → List (ℕ × List ℕ) → Type 0
AreToldAlike [] [] = Unit {0}
AreToldAlike (x ∷ xs) (y ∷ ys) = IsToldAlike x y × AreToldAlike xs ys
AreToldAlike _ _ = ⊥

-- after entries under which edition 4 holds, entries that differ in their remarks alone come to the
-- same list of accepted commands and of ids; so every later entry is answered alike, and every
-- sheet is the same
pub record NothingStandsOnRemarks : Type 0 where
  pub history : (k : ℕ) (entries one other : List (ℕ × List ℕ))
      → 4 ≤ edition_in (history_in k entries).accepted → AreToldAlike one other
      → history_in k (entries ++ one) ≡ history_in k (entries ++ other)
  pub answers : (k : ℕ) (entries one other : List (ℕ × List ℕ)) (id : ℕ) (text : List ℕ)
      → 4 ≤ edition_in (history_in k entries).accepted → AreToldAlike one other
      → answer_in k (history_in k (entries ++ one)) id text
      ≡ answer_in k (history_in k (entries ++ other)) id text
  pub sheets : (k : ℕ) (entries one other : List (ℕ × List ℕ)) (style : Style) (event : Event)
      (round position : ℕ) → 4 ≤ edition_in (history_in k entries).accepted → AreToldAlike one other
      → sheet style (history_in k (entries ++ one)).accepted event round position
      ≡ sheet style (history_in k (entries ++ other)).accepted event round position
