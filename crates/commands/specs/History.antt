-- What a list of entries, each an id and a text, comes to, for a program that knows the editions of
-- the commands up to one of them. That each id is done once, and what each is answered, are rules
-- of this project's own.
use Rattle.std.specs.Prelude.{◌≡◌, ℕ, ◌==◌, Bool, true, nat_le, if◌then◌else◌, List, [], ◌∷◌, ◌++◌}
use Rattle.std.specs.Prelude.{fold, Option, None, Some, Result, Ok, Err}
use Rattle.std.specs.List.{list_any}
use Rattle.texts.specs.declared.command.Command.{Command, TheVariants.SetEdition}
use Rattle.texts.specs.{declared.command.RemarkedCommand.RemarkedCommand, Editions.is_spelled_in}
use Rattle.texts.specs.declared.answer.Answer.{Answer, TheVariants.Done, TheVariants.Refused}
use Rattle.texts.specs.{declared.answer.Code.Code, Spelling.last_edition}
use Rattle.texts.specs.{declared.reading.CommandFault.CommandFault, Reading.command_of}
use Rattle.commands.specs.Accepted.{edition_in, refusal}
use Rattle.texts.specs.declared.answer.Code.TheVariants as code

-- the ids seen so far, and the accepted commands, each in order
pub record History : Type 0 where
  pub ids : List ℕ
  pub accepted : List Command

-- before any entry
abbrev pub nothing : History
nothing = record { ids = []; accepted = [] }

abbrev pub answer_of : Option Code → Answer
answer_of None = Done
answer_of (Some c) = Refused c

abbrev pub is_seen : History → ℕ → Bool
is_seen h id = list_any (λ other. id == other) h.ids

-- what a command that was refused, or not, adds to the accepted ones
abbrev pub added : Option Code → Command → List Command
added None c = c ∷ []
added (Some why) c = []

-- a program that knows the editions up to k knows a command: it sets no later one
abbrev pub knows : ℕ → Command → Bool
knows k (SetEdition edition) = nat_le edition k
knows k _ = true

-- the first check that fails for a command with its remark: that the edition that holds has its
-- spelling, then the command's own, which the remark is no part of
abbrev pub spelled_refusal : List Command → RemarkedCommand → Option Code
spelled_refusal cs told =
    if is_spelled_in (edition_in cs) told then refusal cs told.command else Some code.Unread

-- the first check that fails for what a text reads as: that it is a command, and one that is known,
-- then the checks of the command
abbrev pub read_refusal_in : ℕ → List Command → Result RemarkedCommand CommandFault → Option Code
read_refusal_in k cs (Ok told) =
    if knows k told.command then spelled_refusal cs told else Some code.Unread
read_refusal_in k cs (Err fault) = Some code.Unread

-- the remark is not kept
abbrev pub added_read : Option Code → Result RemarkedCommand CommandFault → List Command
added_read refused (Ok told) = added refused told.command
added_read refused (Err fault) = []

-- the first check that fails for an entry: that its id is new, then those of its text
unfoldable pub entry_refusal_in : ℕ → History → ℕ → List ℕ → Option Code
entry_refusal_in k h id text =
    if is_seen h id then Some code.Repeat else read_refusal_in k h.accepted (command_of text)

-- what an entry is answered by a program that knows the editions up to k
abbrev pub answer_in : ℕ → History → ℕ → List ℕ → Answer
answer_in k h id text = answer_of (entry_refusal_in k h id text)

-- the history after an entry: its id is seen, and its command is accepted where no check fails
unfoldable pub after_in : ℕ → History → ℕ → List ℕ → History
after_in k h id text =
    if is_seen h id then h
    else record {
      ids =
          h.ids ++ id ∷ [];
      accepted =
          h.accepted
          ++ added_read (read_refusal_in k h.accepted (command_of text)) (command_of text);
    }

-- the history of entries, each an id and a text, taken one after the other
abbrev pub history_in : ℕ → List (ℕ × List ℕ) → History
history_in k entries = fold (λ h entry. after_in k h entry.0 entry.1) nothing entries

-- This program knows each edition.

abbrev pub read_refusal : List Command → Result RemarkedCommand CommandFault → Option Code
read_refusal cs read = read_refusal_in last_edition cs read

abbrev pub answer_to : History → ℕ → List ℕ → Answer
answer_to h id text = answer_in last_edition h id text

abbrev pub after : History → ℕ → List ℕ → History
after h id text = after_in last_edition h id text

abbrev pub history : List (ℕ × List ℕ) → History
history entries = history_in last_edition entries

-- a history is that of this list of entries
abbrev pub StandsFor : History → List (ℕ × List ℕ) → Type 0
StandsFor h entries = h ≡ history entries

-- an id is seen in the history of entries where it is the id of one of them, whatever that one was
-- answered
abbrev pub SeesEachId : Type 0
SeesEachId =
    (entries : List (ℕ × List ℕ)) (id : ℕ)
    → is_seen (history entries) id ≡ list_any (λ entry. id == entry.0) entries
