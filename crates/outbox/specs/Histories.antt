-- An outbox and the file of its journal, after calls of any kind in any order, and after restarts
-- (the project's own).
use Rattle.std.specs.Prelude.{ℕ, ◌≡◌, List, [], ◌∷◌, ◌++◌, Bool, Ok}
use Rattle.acceptor.specs.declared.entry.Entry.{Entry}
use Rattle.learner.specs.Laws.{IsPrefix}
use Rattle.wire.specs.Entries.{IsEntry}
use Rattle.desk_talks.specs.Dialogues.{Call as DialogueCall}
use Rattle.outbox.specs.{declared.item.QueueOutcome.QueueOutcome, Journals.read_back}
use Rattle.outbox.specs.Items.{ItemsOf, Takes, all_kept, taken_back}
use Rattle.outbox.specs.{Lines.HallOf, Lines.cut_line, Lines.whole_lines, Outboxes.with_list}
use Rattle.outbox.specs.Outboxes.{Answers, DialogueLeads, OutboxOf, aimed, looked, new_outbox}
use Rattle.outbox.specs.declared.item.QueueOutcome.TheVariants as taken

-- an outbox, and the bytes that its journal is known to have: whole lines, which a crash leaves
pub record World : Type 0 where
  pub outbox : OutboxOf
  pub file : List ℕ

abbrev pub world : OutboxOf → List ℕ → World
world outbox file = record { outbox = outbox; file = file }

-- a call, with what it was given and what it answered; one that was refused memory is no call, but
-- for one that looked at a part of the log
pub data Call : Type 0 where
  Take : Entry → (now : ℕ) → QueueOutcome → Call
  -- the lines were put into the file; or they could not be
  Kept : Call
  NotKept : Call
  -- a scoretaker answers the item of an id, by what a mirror holds
  Answer : (log : List Entry) → (id : ℕ) → Bool → Call
  -- the log is looked through, as far as a mirror holds it
  Look : (log : List Entry) → Call
  Aim : (desk : ℕ) → Call
  -- a call of its dialogue
  InDialogue : DialogueCall → Call
  -- The program, or its machine, ends, and the program is started again, over this desk. These
  -- bytes follow the lines of the file: a part of the lines that were to be put there, or whatever
  -- a write that failed has left. What follows the last whole line is cut off.
  Restart : (more : List ℕ) → (desk now : ℕ) → Call

-- a file has the whole lines of these bytes, and nothing is after them
pub record IsCutFrom (bytes file : List ℕ) : Type 0 where
  pub lines : whole_lines file ≡ whole_lines bytes
  pub ends : cut_line file ≡ []

-- the outbox of these items, read from what a crash left of a file, whose last line is cut off
pub record IsStarted (hall : HallOf) (desk now : ℕ) (bytes : List ℕ) (w : World) : Type 0 where
  pub list : ItemsOf
  pub reads : read_back hall now bytes ≡ Ok list
  pub fresh : w.outbox ≡ new_outbox hall.number desk list
  pub whole : IsCutFrom bytes w.file

-- the outbox changes, and the file stays
abbrev pub Becomes : World → World → OutboxOf → Type 0
Becomes old new outbox = new ≡ world outbox old.file

-- what a call makes of an outbox, by its contract, and of the file
abbrev pub CallLeads : HallOf → Call → World → World → Type 0
CallLeads hall (Take entry now came) old new =
    IsEntry entry × (list : ItemsOf) × Takes old.outbox.list entry now came list
    × Becomes old new (with_list old.outbox list)
CallLeads hall Kept old new =
    new ≡ world (with_list old.outbox (all_kept old.outbox.list))
    (old.file ++ old.outbox.list.lines)
CallLeads hall NotKept old new =
    Becomes old new (with_list old.outbox (taken_back old.outbox.list))
CallLeads hall (Answer log id told) old new =
    (after : OutboxOf) × Answers log id told old.outbox after × Becomes old new after
CallLeads hall (Look log) old new = Becomes old new (looked old.outbox log)
CallLeads hall (Aim desk) old new = Becomes old new (aimed old.outbox desk)
CallLeads hall (InDialogue call) old new =
    (after : OutboxOf) × DialogueLeads call old.outbox after × Becomes old new after
CallLeads hall (Restart more desk now) old new = IsStarted hall desk now (old.file ++ more) new

-- all calls since a file was read first, the last one last
pub data History : Type 0 where
  Start : (desk now : ℕ) → (bytes : List ℕ) → History
  Then : History → Call → History

abbrev pub Leads : HallOf → History → World → Type 0
Leads hall (Start desk now bytes) w = IsStarted hall desk now bytes w
Leads hall (Then h call) w =
    (before : World) × Leads hall h before × CallLeads hall call before w

-- ---- what was looked at

-- a part of the log that is looked through is the beginning of this one
abbrev pub LooksBy : List Entry → Call → Type 0
LooksBy log (Look held) = IsPrefix held log
LooksBy log _ = Unit {0}

abbrev pub LooksAt : List Entry → History → Type 0
LooksAt log (Start desk now bytes) = Unit {0}
LooksAt log (Then h call) = LooksAt log h × LooksBy log call

-- ---- what was promised

-- entries that were taken: those of which it may be answered that they are, since their lines are
-- in the file; and those whose lines are on the way there
pub record PromisesOf : Type 0 where
  pub made : List Entry
  pub due : List Entry

abbrev pub promises_of : List Entry → List Entry → PromisesOf
promises_of made due = record { made = made; due = due }

abbrev pub after_call : Call → PromisesOf → PromisesOf
after_call (Take entry now taken.New) p = promises_of p.made (p.due ++ entry ∷ [])
after_call Kept p = promises_of (p.made ++ p.due) []
after_call NotKept p = promises_of p.made []
after_call (Restart more desk now) p = promises_of p.made []
after_call _ p = p

abbrev pub promises : History → PromisesOf
promises (Start desk now bytes) = promises_of [] []
promises (Then h call) = after_call call (promises h)

-- the desks that were aimed at, the first one first
abbrev pub aimed_by : Call → List ℕ → List ℕ
aimed_by (Aim desk) desks = desks ++ desk ∷ []
aimed_by (Restart more desk now) desks = desks ++ desk ∷ []
aimed_by _ desks = desks

abbrev pub targets : History → List ℕ
targets (Start desk now bytes) = desk ∷ []
targets (Then h call) = aimed_by call (targets h)
