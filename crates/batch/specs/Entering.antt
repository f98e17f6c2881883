-- What entering lines sends and prints (the project's own).
use Rattle.std.specs.Prelude.{◌≡◌, ◌⊎◌, ◌+◌, ◌^◌, ◌≤◌, ◌++◌, ◌∷◌, [], ℕ, Bool, true, false, ◌&&◌}
use Rattle.std.specs.Prelude.{List, length, map, Option, Some, None, Result, Ok, Err}
use Rattle.std.specs.Io.KnownBytes.{Appends}
use Rattle.acceptor.specs.Entries.{IsId, IsText}
use Rattle.client.specs.Printing.{reply_text}
use Rattle.lines.specs.{command_file.Commands.Numbered, Bytes.AppendsPart}
use Rattle.texts.specs.declared.answer.Answer.{Answer}
use Rattle.wire.specs.declared.{frame.FrameBody.FrameBody, values.CommandState.TheVariants.Done}
use Rattle.batch.specs.Asking.{Adds, Asked, EndsWaiting, IsAnswer, IsAwaited, IsDecided, IsOfAsking}
use Rattle.batch.specs.Asking.{IsPending, IsTaken, IsTurnedOff, IsUnknown, Told, ask_of, submit_of}
use Rattle.batch.specs.Confirming.{IsAnother, IsConfirmed, IsDecidedAt, IsEntryAt, IsUnconfirmed}
use Rattle.batch.specs.{Confirming.entry_of, declared.lines_entered.Batch.Batch}
use Rattle.batch.specs.Dialing.{AsksBy, GoesBy, Way}
use Rattle.batch.specs.Watching.{Begins, Notice, Telling, Tells, Watched, line_notices}
use Rattle.batch.specs.declared.{asking.Receiver.Receiver, fault.BatchFault.BatchFault}
use Rattle.texts.specs.declared.answer.Answer.TheVariants as said
use Rattle.wire.specs.declared.frame.FrameBody.TheVariants as what
use Rattle.batch.specs.declared.fault.BatchFault.TheVariants as fault

-- the texts of commands
abbrev pub texts_of : List Numbered → List (List ℕ)
texts_of commands = map (λ c. c.text) commands

-- the desk has reported the command to be in its log, and the entry there to be this id and this
-- text
abbrev pub IsOwn : Receiver → ℕ → List ℕ → FrameBody → Type 0
IsOwn r id text last =
    (pos : ℕ) × IsDecidedAt pos last × (answer : FrameBody)
    × IsEntryAt r pos (entry_of id text) answer

-- what is answered at last, where a command is waited for, and where it is not
abbrev pub IsLast : Bool → Receiver → ℕ → List ℕ → FrameBody → FrameBody → Type 0
IsLast true r id text taken last =
    IsAnswer (ask_of r id) last × IsDecided last × IsOwn r id text last
IsLast false r id text taken last = last ≡ taken

-- the text was entered with the id, and this was answered at last
abbrev pub IsEntered : Bool → Receiver → ℕ → List ℕ → FrameBody → Type 0
IsEntered waits r id text last =
    (taken : FrameBody) × IsAnswer (submit_of r id text) taken × IsLast waits r id text taken last

-- ---- refusals

-- how a command was answered, where that is known
abbrev pub told_answer : FrameBody → Option Answer
told_answer (what.Told id (Done pos answer)) = Some answer
told_answer _ = None

abbrev pub is_refused : Option Answer → Bool
is_refused (Some (said.Refused code)) = true
is_refused _ = false

-- after this answer to a command the run ends, since it was refused
abbrev pub ends_after : Batch → Option Answer → Bool
ends_after b answer = b.stops_at_refusal && is_refused answer

abbrev pub ends_run : Batch → FrameBody → Bool
ends_run b last = ends_after b (told_answer last)

-- ---- why entering ended

-- why the command with this id and text was not entered, where no request failed: its text is too
-- long, or its id is none; or the desk took it, and then knew nothing of it, or did not decide it,
-- or has decided another one under its id
abbrev pub Hinders : BatchFault → Bool → Receiver → ℕ → List ℕ → Type 0
Hinders fault.TextTooLong waits r id text = ¬ IsText text
Hinders fault.NoMoreIds waits r id text = ¬ IsId id
Hinders fault.Lost waits r id text =
    (waits ≡ true) × (taken : FrameBody) × IsAnswer (submit_of r id text) taken
    × (told : FrameBody) × IsAnswer (ask_of r id) told × IsUnknown told
Hinders fault.StillPending waits r id text =
    (waits ≡ true) × (taken : FrameBody) × IsAnswer (submit_of r id text) taken
    × (told : FrameBody) × IsAnswer (ask_of r id) told × IsPending told
Hinders fault.AnotherCommand waits r id text =
    (waits ≡ true) × (taken : FrameBody) × IsAnswer (submit_of r id text) taken
    × (told : FrameBody) × IsAnswer (ask_of r id) told
    × IsAnother fault.AnotherCommand r id text told
Hinders fault.NoMemory waits r id text = Unit {0}
Hinders _ waits r id text = ⊥

-- those of what is printed
abbrev pub IsOfPrinting : BatchFault → Type 0
IsOfPrinting f = (f ≡ fault.Write) ⊎ (f ≡ fault.NoMemory)

-- this was written whole, where the run ended at a refusal
abbrev pub IsWhole : BatchFault → (old new : Option (List ℕ)) → List ℕ → Type 0
IsWhole fault.AtRefusal old new said = Appends old new said
IsWhole _ old new said = Unit {0}

-- ---- what was asked

-- These requests entered the text with the id, and where it is waited for, they waited until it was
-- decided, and the last one told that the entry at its position is this id and this text. This is
-- what the observer hears of them.
abbrev pub EnteredBy : Bool → Receiver → ℕ → List ℕ → FrameBody → List Asked → List Notice → Type 0
EnteredBy true r id text last asked told =
    (taken : FrameBody) × (first rest log : List Asked) × (early late : List Notice)
    × IsTaken r id text taken first early × IsAwaited r id last rest late
    × IsConfirmed r id text last log × (asked ≡ (first ++ rest) ++ log) × (told ≡ early ++ late)
EnteredBy false r id text last asked told = IsTaken r id text last asked told

-- These requests entered the lines, one line after the other, of which the first has this id, and
-- each further one the next; this is what is printed of the last answers, and what the observer
-- hears; and none of them ends the run.
abbrev pub SaidBy : Batch → ℕ → List (List ℕ) → List ℕ → List Asked → List Notice → Type 0
SaidBy b id [] said asked told = (said ≡ []) × (asked ≡ []) × (told ≡ [])
SaidBy b id (line ∷ lines) said asked told =
    (last : FrameBody) × (more : List ℕ) × (first rest : List Asked) × (heard later : List Notice)
    × IsEntered b.waits b.receiver id line last
    × EnteredBy b.waits b.receiver id line last first heard × (ends_run b last ≡ false)
    × SaidBy b (id + 1) lines more rest later
    × (said ≡ reply_text last ++ more) × (asked ≡ first ++ rest)
    × (told ≡ line_notices id line heard (told_answer last) ++ later)

-- the faults by which nothing is asked for a text
abbrev pub IsUnasked : BatchFault → Type 0
IsUnasked fault.TextTooLong = Unit {0}
IsUnasked fault.NoMoreIds = Unit {0}
IsUnasked fault.NoMemory = Unit {0}
IsUnasked _ = ⊥

-- the text was entered, and after that it was not seen that it was decided
abbrev pub IsGivenUp : BatchFault → Receiver → ℕ → List ℕ → List Asked → List Notice → Type 0
IsGivenUp f r id text asked told =
    (taken : FrameBody) × (first rest : List Asked) × (early late : List Notice)
    × IsTaken r id text taken first early × EndsWaiting f r id rest late
    × (asked ≡ first ++ rest) × (told ≡ early ++ late)

-- the text was entered and awaited, and after that its entry was not seen in the log
abbrev pub IsNotSeen : BatchFault → Receiver → ℕ → List ℕ → List Asked → List Notice → Type 0
IsNotSeen f r id text asked told =
    (taken last : FrameBody) × (first rest log : List Asked) × (early late found : List Notice)
    × IsTaken r id text taken first early × IsAwaited r id last rest late
    × IsUnconfirmed f r id text last log found
    × (asked ≡ (first ++ rest) ++ log) × (told ≡ (early ++ late) ++ found)

-- the text was not taken: nothing was asked, or the request that enters it was turned off
abbrev pub StopsTaking : BatchFault → Receiver → ℕ → List ℕ → List Asked → List Notice → Type 0
StopsTaking f r id text asked told =
    (IsUnasked f × (asked ≡ []) × (told ≡ [])) ⊎ IsTurnedOff f r (submit_of r id text) asked told

-- So the text was not entered with the id, by these requests, and so the observer hears: it was not
-- taken, or given up, or not seen in the log.
abbrev pub StopsAsking : BatchFault → Receiver → ℕ → List ℕ → List Asked → List Notice → Type 0
StopsAsking f r id text asked told =
    StopsTaking f r id text asked told
    ⊎ (IsGivenUp f r id text asked told ⊎ IsNotSeen f r id text asked told)

-- The line at which entering ends, which has this id: what is printed of it, what was asked for it,
-- and what the observer hears. That is nothing, where there is no such number of 64 bits; else that
-- it begins, and what is told of its requests, which did not enter it, since a request failed or it
-- could not be; or they did, and it was not printed, or was refused, where the run ends at that, of
-- which the observer hears, too.
abbrev pub StopsBehind : BatchFault → Batch → ℕ → List ℕ → List ℕ → List Asked → List Notice
    → Type 0
StopsBehind f b id line said asked told =
    ((2 ^ 64 ≤ id) × (f ≡ fault.NoMoreIds) × (said ≡ []) × (asked ≡ []) × (told ≡ []))
    ⊎ (((heard : List Notice) × (IsOfAsking f ⊎ Hinders f b.waits b.receiver id line)
    × StopsAsking f b.receiver id line asked heard × (said ≡ []) × (told ≡ Begins id line ∷ heard))
    ⊎ ((last : FrameBody) × (heard : List Notice) × IsEntered b.waits b.receiver id line last
    × EnteredBy b.waits b.receiver id line last asked heard × (said ≡ reply_text last)
    × ((IsOfPrinting f × (told ≡ Begins id line ∷ heard))
    ⊎ ((f ≡ fault.AtRefusal) × (ends_run b last ≡ true)
    × (told ≡ line_notices id line heard (told_answer last))))))

-- of a line that was entered the observer hears this
abbrev pub TellsLine : Batch → ℕ → List ℕ → FrameBody → List Asked → List Notice → Type 0
TellsLine b id line last asked told =
    (heard : List Notice) × EnteredBy b.waits b.receiver id line last asked heard
    × (told ≡ line_notices id line heard (told_answer last))

-- line n, counted from 0, was entered by the requests that were made, its last answer is printed,
-- the observer heard of it, and it does not end the run
pub record EntersLine (b : Batch) (n : ℕ) (line : List ℕ) (w : Way) (v : Watched)
    (old new : Option (List ℕ)) : Type 0 where
  pub last : FrameBody
  pub entered : IsEntered b.waits b.receiver (b.first_id + n) line last
  pub asked : AsksBy w (Telling v (TellsLine b (b.first_id + n) line last))
  pub goes_on : ends_run b last ≡ false
  pub written : Appends old new (reply_text last)

-- so it was of a command, by what is told of a writer
abbrev pub EntersOne : {A : Type 0} → Batch → ℕ → Numbered → (A → Option (List ℕ))
    → (writer writer_after : A) → Way → Watched → Type 0
EntersOne b n command contents writer writer_after w v =
    EntersLine b n command.text w v (contents writer) (contents writer_after)

-- it was not entered, or not printed, and of what is printed of it a front part may be written; or
-- it was refused, where the run ends at that
pub record FailsLine (f : BatchFault) (b : Batch) (n : ℕ) (line : List ℕ) (w : Way) (v : Watched)
    (old new : Option (List ℕ)) : Type 0 where
  pub said : List ℕ
  pub written : AppendsPart old new said
  pub whole : IsWhole f old new said
  pub asked : AsksBy w (Telling v (StopsBehind f b (b.first_id + n) line said))

-- so it was of a command
abbrev pub FailsOne : {A : Type 0} → BatchFault → Batch → ℕ → Numbered → (A → Option (List ℕ))
    → (writer writer_after : A) → Way → Watched → Type 0
FailsOne f b n command contents writer writer_after w v =
    FailsLine f b n command.text w v (contents writer) (contents writer_after)

-- each line was entered by the requests that were made, of all of which this is said, what is
-- printed of them was written, and so the observer hears
pub record AsksLines (Are : List Asked → Type 0) (v : Watched) (b : Batch) (lines : List (List ℕ))
    (old new : Option (List ℕ)) : Type 0 where
  pub said : List ℕ
  pub written : Appends old new said
  pub asked : List Asked
  pub told : Are asked
  pub notices : List Notice
  pub heard : Tells v notices
  pub each : SaidBy b b.first_id lines said asked notices

-- So were the lines of a front part. What was asked after them was for the next line, with the next
-- id, at which entering ended, and so was what the observer heard after them; of what is printed of
-- it a front part may be written, or all, where it was refused.
pub record AsksFront (Are : List Asked → Type 0) (v : Watched) (f : BatchFault) (b : Batch)
    (lines : List (List ℕ)) (old new : Option (List ℕ)) : Type 0 where
  pub front : List (List ℕ)
  pub line : List ℕ
  pub others : List (List ℕ)
  pub parts : lines ≡ front ++ line ∷ others
  pub said : List ℕ
  pub next : List ℕ
  pub written : AppendsPart old new (said ++ next)
  pub whole : IsWhole f old new (said ++ next)
  pub asked : List Asked
  pub behind : List Asked
  pub told : Are (asked ++ behind)
  pub notices : List Notice
  pub last : List Notice
  pub heard : Tells v (notices ++ last)
  pub each : SaidBy b b.first_id front said asked notices
  pub ends : StopsBehind f b (b.first_id + length front) line next behind last

-- so it was, of requests that were made in this way
abbrev pub AsksTo : Result (Unit {0}) BatchFault → Batch → List (List ℕ) → Way → Watched
    → (old new : Option (List ℕ)) → Type 0
AsksTo (Ok _) b lines w v old new = AsksLines (GoesBy w) v b lines old new
AsksTo (Err f) b lines w v old new = AsksFront (GoesBy w) v f b lines old new

-- so it was, and nothing else was done with connections
abbrev pub AsksAll : Batch → List (List ℕ) → Told → Watched → (old new : Option (List ℕ)) → Type 0
AsksAll b lines t v old new = AsksLines (Adds t.place t.old t.new) v b lines old new

abbrev pub AsksSome : BatchFault → Batch → List (List ℕ) → Told → Watched
    → (old new : Option (List ℕ)) → Type 0
AsksSome f b lines t v old new = AsksFront (Adds t.place t.old t.new) v f b lines old new

-- so it was of commands, by what is told of a writer
abbrev pub EntersBy : {A : Type 0} → Result (Unit {0}) BatchFault → Batch → List Numbered
    → (A → Option (List ℕ)) → (writer writer_after : A) → Way → Watched → Type 0
EntersBy result b commands contents writer writer_after w v =
    AsksTo result b (texts_of commands) w v (contents writer) (contents writer_after)
