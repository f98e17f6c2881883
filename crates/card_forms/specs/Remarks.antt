-- Remarks of the commands that forms ask for (the project's own).
use Rattle.std.specs.Prelude.{◌≡◌, ℕ, ◌+◌, ◌==◌, ◌&&◌, Bool, true, not, if◌then◌else◌, bytes_eq}
use Rattle.std.specs.Prelude.{codes, length, nat_le, List, ◌++◌, Ok}
use Rattle.std.specs.List.{list_all}
use Rattle.texts.specs.{declared.command.RemarkedCommand.RemarkedCommand, Names.is_remark}
use Rattle.texts.specs.Fields.{cut, cut_remark}
use Rattle.texts.specs.{Reading.command_of, Table.row_named, Table.takes_remark_in}

-- the command of a text may have a remark
abbrev pub takes_remark : List ℕ → Bool
takes_remark text = takes_remark_in (row_named (cut 32 text).0)

-- what is in a text before its remark
abbrev pub before_remark : List ℕ → List ℕ
before_remark text = if takes_remark text then (cut_remark text).0 else text

abbrev pub is_same_but_remark : List ℕ → List ℕ → Bool
is_same_but_remark one other = bytes_eq (before_remark one) (before_remark other)

-- a text has no number sign
abbrev pub has_no_mark : List ℕ → Bool
has_no_mark text = list_all (λ b. not (b == 35)) text

-- the command of a text may have a remark, and has none
abbrev pub is_plain : List ℕ → Bool
is_plain text = takes_remark text && has_no_mark text

-- a remark is added to a text that is plain and has at most 600 bytes with it
abbrev pub may_note : List ℕ → List ℕ → Bool
may_note remark text =
    is_remark remark && nat_le (length text + length remark) 597 && is_plain text

abbrev pub noted : List ℕ → List ℕ → List ℕ
noted remark text = if may_note remark text then text ++ codes " # " ++ remark else text

-- what a text says that was noted is what it said, but for the remark
pub record IsNoted (remark text : List ℕ) (told : RemarkedCommand) : Type 0 where
  pub now : RemarkedCommand
  pub reads : command_of (noted remark text) ≡ Ok now
  pub same : now.command ≡ told.command
  pub texts : is_same_but_remark (noted remark text) text ≡ true

abbrev pub NotesTheCommand : Type 0
NotesTheCommand =
    (remark text : List ℕ) (told : RemarkedCommand) → command_of text ≡ Ok told
    → IsNoted remark text told
