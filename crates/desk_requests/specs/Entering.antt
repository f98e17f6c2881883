-- Commands entered at a desk: those of an input, or one (the project's own).
use Rattle.std.specs.Prelude.{◌≡◌, ◌⊎◌, ◌+◌, ◌-◌, ◌^◌, ◌≤◌, ◌<◌, ◌++◌, ◌∷◌, [], ℕ, Bool, true}
use Rattle.std.specs.Prelude.{false, List, length, take, codes, Option, Some, None}
use Rattle.std.specs.Io.KnownBytes.{Appends, Keeps}
use Rattle.batch.specs.{Asking.IsOfAsking, Logs.AddsSo, declared.lines_entered.Batch.Batch}
use Rattle.batch.specs.{Dialing.Adds, Dialing.Told, Entering.texts_of, Entering.told_answer}
use Rattle.batch.specs.Entering.{AsksAll, AsksSome, EnteredBy, Hinders, IsEntered, StopsAsking}
use Rattle.batch.specs.Watching.{Telling, unheard}
use Rattle.batch.specs.declared.{asking.Receiver.Receiver, fault.BatchFault.BatchFault}
use Rattle.client.specs.Printing.{reply_text}
use Rattle.texts.specs.meanings.Meanings.{meaning_of}
use Rattle.lines.specs.command_file.Commands.{Numbered, ReadsCommands, StopsReading, numbered}
use Rattle.lines.specs.{command_file.Faults.first_fault, declared.fault.RunFault.RunFault}
use Rattle.lines.specs.Bytes.{AppendsPart, Sides}
use Rattle.texts.specs.declared.answer.Answer.{Answer, TheVariants.Done, TheVariants.Refused}
use Rattle.wire.specs.{Ranges.IsDesk, declared.frame.FrameBody.FrameBody}
use Rattle.arguments.specs.declared.task.EnterOptions.{EnterOptions}
use Rattle.desk_requests.specs.{Statuses.fault_of_batch, declared.fault.DeskFault.DeskFault}
pub use Rattle.desk_requests.specs.Errands.{IsOfPrinting}
use Rattle.lines.specs.declared.fault.RunFault.TheVariants as run
use Rattle.desk_requests.specs.declared.fault.DeskFault.TheVariants as fault

-- this many ids in a row begin with this one
abbrev pub HasRoom : (count : ℕ) → ℕ → Type 0
HasRoom count id = (1 ≤ id) × (id + count ≤ 2 ^ 63)

-- the first id is the one that was given, or one with room for all
abbrev pub IsFirstId : Option ℕ → (count : ℕ) → ℕ → Type 0
IsFirstId (Some given) count id = id ≡ given
IsFirstId None count id = HasRoom count id

-- ---- those of an input

-- each is a command in some edition, or all are wanted to be sent
abbrev pub AreSendable : EnterOptions → List Numbered → Type 0
AreSendable l commands = (l.sends_all ≡ true) ⊎ (first_fault commands ≡ None)

-- how commands are entered, the first of which has this id
abbrev pub batch_of : Receiver → EnterOptions → ℕ → Batch
batch_of r l id = record {
  receiver = r;
  first_id = id;
  waits = l.waits;
  stops_at_refusal = l.stops_at_refusal;
}

-- these are the commands of the input, and they may be sent
pub record IsGood (l : EnterOptions) (commands : List Numbered)
    (had left : Option (List ℕ)) : Type 0
  where
    pub read : ReadsCommands commands had left
    pub good : AreSendable l commands

-- so it is, and the first one has this id
pub record IsReady (l : EnterOptions) (commands : List Numbered) (id : ℕ) (s : Sides) : Type 0 where
  pub good : IsGood l commands s.had s.left
  pub first_id : IsFirstId l.first_id (length commands) id

-- each command of the input was entered
pub record EntersInput (r : Receiver) (l : EnterOptions) (s : Sides) (t : Told) : Type 0 where
  pub commands : List Numbered
  pub id : ℕ
  pub ready : IsReady l commands id s
  pub asked : AsksAll (batch_of r l id) (texts_of commands) t unheard s.old s.new

-- one of the commands is no command in any edition, and not all are wanted to be sent
pub record FindsFault (l : EnterOptions) (commands : List Numbered) : Type 0 where
  pub said : List ℕ
  pub first : first_fault commands ≡ Some said
  pub strict : l.sends_all ≡ false

-- why commands are not to be entered: the input can't be read, or has one that is no command, or
-- there is no memory
abbrev pub IsUngood : DeskFault → EnterOptions → (had left : Option (List ℕ)) → Type 0
IsUngood f l had left =
    ((e : RunFault) × (f ≡ fault.Run e) × StopsReading e had left) ⊎ (((f ≡ fault.NoCommand)
    × (commands : List Numbered) × ReadsCommands commands had left × FindsFault l commands)
    ⊎ (f ≡ fault.Run run.NoMemory))

-- or there are no random bytes for an id
abbrev pub IsUnready : DeskFault → EnterOptions → (had left : Option (List ℕ)) → Type 0
IsUnready f l had left = IsUngood f l had left ⊎ ((f ≡ fault.Run run.Read) × (l.first_id ≡ None))

-- nothing was written or asked
pub record IsSilent (s : Sides) (t : Told) : Type 0 where
  pub written : Keeps s.old s.new
  pub asked : Adds t.place t.old t.new []

-- The desk's number is invalid, and nothing was read; or nothing was entered since the input is not
-- ready; or the commands of a front part were entered, and this fault stopped the next one.
abbrev pub FailsInput : DeskFault → Receiver → EnterOptions → Sides → Told → Type 0
FailsInput f r l s t =
    ((f ≡ fault.BadDesk) × (¬ IsDesk r.desk) × Keeps s.had s.left × IsSilent s t)
    ⊎ ((IsDesk r.desk × IsUnready f l s.had s.left × IsSilent s t)
    ⊎ ((commands : List Numbered) × (id : ℕ) × (e : BatchFault) × IsDesk r.desk
    × IsReady l commands id s × (f ≡ fault_of_batch e)
    × AsksSome e (batch_of r l id) (texts_of commands) t unheard s.old s.new))

-- ---- one

-- what is wrong with a text, as the only line of an input, where it is no command in any edition
abbrev pub fault_in : List ℕ → Option (List ℕ)
fault_in text = first_fault (numbered 1 text ∷ [])

-- it is a command in some edition, or too long for one
abbrev pub IsEnterable : List ℕ → Type 0
IsEnterable text = (fault_in text ≡ None) ⊎ (600 < length text)

-- it is no command, or there is no memory
abbrev pub IsUnenterable : DeskFault → List ℕ → Type 0
IsUnenterable f text =
    ((f ≡ fault.NoCommand) × (length text ≤ 600) × (said : List ℕ) × (fault_in text ≡ Some said))
    ⊎ (f ≡ fault.Run run.NoMemory)

-- the exit status after a command that was answered so: 1 where it was refused
abbrev pub answer_status : Option Answer → ℕ
answer_status (Some (Refused code)) = 1
answer_status (Some Done) = 0
answer_status None = 0

-- a line that is printed of an answer: after a refusal with what it means
abbrev pub meant : List ℕ → Option Answer → List ℕ
meant text (Some (Refused code)) =
    take (length text - 1) text ++ codes ": " ++ meaning_of code ++ codes "\n"
meant text (Some Done) = text
meant text None = text

-- what is printed of the last answer
abbrev pub one_text : FrameBody → List ℕ
one_text last = meant (reply_text last) (told_answer last)

-- the text was entered, with the id that was given or one that was drawn, and this was answered at
-- last
pub record Enters (r : Receiver) (given : Option ℕ) (waits : Bool) (text : List ℕ)
    (last : FrameBody) (t : Told) : Type 0 where
  pub id : ℕ
  pub first_id : IsFirstId given 1 id
  pub entered : IsEntered waits r id text last
  pub asked : AddsSo t (Telling unheard (EnteredBy waits r id text last))

-- so it was, and that is printed and is said by the exit status
abbrev pub EntersOne : ℕ → Receiver → Option ℕ → Bool → List ℕ → Told
    → (old new : Option (List ℕ)) → Type 0
EntersOne status r given waits text t old new =
    IsDesk r.desk × (last : FrameBody) × Enters r given waits text last t
    × (status ≡ answer_status (told_answer last)) × Appends old new (one_text last)

-- the text was not entered with an id that was given or drawn, by this fault
pub record IsStopped (f : DeskFault) (r : Receiver) (given : Option ℕ) (waits : Bool)
    (text : List ℕ) (t : Told) : Type 0 where
  pub id : ℕ
  pub why : BatchFault
  pub first_id : IsFirstId given 1 id
  pub is : f ≡ fault_of_batch why
  pub cause : IsOfAsking why ⊎ Hinders why waits r id text
  pub asked : AddsSo t (Telling unheard (StopsAsking why r id text))

-- it was entered, and this is printed as far as could be
abbrev pub IsUnprinted : DeskFault → Receiver → Option ℕ → Bool → List ℕ → Told
    → (old new : Option (List ℕ)) → Type 0
IsUnprinted f r given waits text t old new =
    IsOfPrinting f × (last : FrameBody) × Enters r given waits text last t
    × AppendsPart old new (one_text last)

-- nothing was written or asked: the desk's number is invalid, or there are no random bytes for an
-- id
abbrev pub IsUnbegun : DeskFault → Receiver → Option ℕ → Type 0
IsUnbegun f r given =
    ((f ≡ fault.BadDesk) × (¬ IsDesk r.desk)) ⊎ ((f ≡ fault.Run run.Read) × (given ≡ None))

-- nothing was begun; or the text was not entered, and nothing is printed; or it was, and printing
-- failed
abbrev pub FailsOne : DeskFault → Receiver → Option ℕ → Bool → List ℕ → Told
    → (old new : Option (List ℕ)) → Type 0
FailsOne f r given waits text t old new =
    (IsUnbegun f r given × Keeps old new × Adds t.place t.old t.new [])
    ⊎ ((IsDesk r.desk × IsStopped f r given waits text t × Keeps old new)
    ⊎ (IsDesk r.desk × IsUnprinted f r given waits text t old new))
