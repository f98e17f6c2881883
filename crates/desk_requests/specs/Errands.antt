-- The frame of an errand, and how an errand ends (the project's own).
use Rattle.std.specs.Prelude.{◌≡◌, ◌⊎◌, ◌∷◌, ◌++◌, [], ℕ, Bool, true, false, List, Option, Result}
use Rattle.std.specs.Prelude.{Ok, Err, codes, decimal}
use Rattle.std.specs.Io.KnownBytes.{Keeps, Appends}
use Rattle.batch.specs.{Asking.IsAnswer, Asking.IsOfAsking, declared.fault.BatchFault.BatchFault}
use Rattle.batch.specs.Dialing.{Adds, Told, asked_so}
use Rattle.client.specs.{Printing.reply_text, Versions.sheet_version}
use Rattle.lines.specs.Bytes.{AppendsPart}
use Rattle.wire.specs.Ranges.{IsDesk}
use Rattle.wire.specs.declared.values.Version.{Version, TheVariants.One, TheVariants.Four}
use Rattle.wire.specs.declared.frame.{Frame.Frame, FrameBody.FrameBody}
use Rattle.desk_requests.specs.Statuses.{fault_of_batch}
use Rattle.desk_requests.specs.declared.{fault.DeskFault.DeskFault, requests.Errand.Errand}
use Rattle.arguments.specs.declared.task.ClientRequest.{ClientRequest}
use Rattle.lines.specs.declared.fault.RunFault.TheVariants as run
use Rattle.wire.specs.declared.frame.FrameBody.TheVariants as what
use Rattle.desk_requests.specs.declared.fault.DeskFault.TheVariants as fault
use Rattle.arguments.specs.declared.task.ClientRequest.TheVariants as request

abbrev pub what_of : ClientRequest → FrameBody
what_of (request.Ask id) = what.Ask id
what_of (request.Sheet event round position style) = what.Sheet event round position style
what_of request.Tick = what.Tick
what_of request.Stop = what.Stop

-- the first version of the wire that has a frame for the request and all that it may be answered:
-- a sheet can need the second, and the fourth alone has each code
abbrev pub version_of : ClientRequest → Version
version_of (request.Ask id) = Four
version_of (request.Sheet event round position style) = sheet_version event
version_of request.Tick = One
version_of request.Stop = One

-- the frame goes from a client, which is 0, to the desk
abbrev pub frame_of : Errand → Frame
frame_of e =
    record {
      version = version_of e.request;
      hall = e.hall;
      from = 0;
      to = e.desk;
      what = what_of e.request;
    }

-- what is printed of a desk that did what was asked, where it is named
abbrev pub did_text : ℕ → List ℕ → List ℕ
did_text desk address = codes "ok: desk " ++ decimal desk ++ codes " at " ++ address

abbrev pub fine_text : Bool → Errand → List ℕ
fine_text true e = did_text e.desk e.contact.address.now ++ codes "\n"
fine_text false e = reply_text what.Fine

-- what is printed of an answer: of a desk that did what was asked also which one, where it is to be
-- named
abbrev pub answer_text : Errand → FrameBody → List ℕ
answer_text e what.Fine = fine_text e.names e
answer_text e answer = reply_text answer

-- the desk was asked the errand's frame once, over a connection to the errand's address, or none
-- could be opened to it, and this came of it; nothing else was asked
abbrev pub IsAsked : Errand → Result FrameBody BatchFault → Told → Type 0
IsAsked e answer t = Adds t.place t.old t.new (asked_so (frame_of e) answer ∷ [])

-- this is what the desk answered
abbrev pub GetsAnswer : Errand → FrameBody → Told → Type 0
GetsAnswer e answer t = IsAnswer (frame_of e) answer × IsAsked e (Ok answer) t

-- there is no answer: the desk's number is invalid and nothing was asked, or the request failed
abbrev pub GetsNone : DeskFault → Errand → Told → Type 0
GetsNone f e t =
    ((f ≡ fault.BadDesk) × (¬ IsDesk e.desk) × Adds t.place t.old t.new [])
    ⊎ (IsDesk e.desk × (b : BatchFault) × (f ≡ fault_of_batch b) × IsOfAsking b
    × IsAsked e (Err b) t)

abbrev pub IsOfPrinting : DeskFault → Type 0
IsOfPrinting f = (f ≡ fault.Run run.Write) ⊎ (f ≡ fault.Run run.NoMemory)

-- the desk answered, and this is printed of its answer
abbrev pub DoesErrand : Errand → Told → Option (List ℕ) → Option (List ℕ) → Type 0
DoesErrand e t old new =
    IsDesk e.desk × (answer : FrameBody) × GetsAnswer e answer t
    × Appends old new (answer_text e answer)

-- there is no answer, and nothing was printed; or there is one, and printing it failed
abbrev pub FailsErrand : DeskFault → Errand → Told → Option (List ℕ) → Option (List ℕ) → Type 0
FailsErrand f e t old new =
    (GetsNone f e t × Keeps old new)
    ⊎ (IsOfPrinting f × IsDesk e.desk × (answer : FrameBody) × GetsAnswer e answer t
    × AppendsPart old new (answer_text e answer))
