-- Asking the desks of a hall how they are, one after the other (the project's own).
use Rattle.std.specs.Prelude.{◌≡◌, ◌≢◌, ◌⊎◌, ◌+◌, ◌++◌, ◌∷◌, [], ℕ, List, map, Option, None, Some}
use Rattle.std.specs.Prelude.{Result, Ok, Err, not, ◌==◌}
use Rattle.std.specs.{Borrow.Bor, List.filter, Io.KnownBytes.Keeps, Io.KnownBytes.Appends}
use Rattle.batch.specs.Dialing.{Adds, Dialed, Place, asked_so}
use Rattle.batch.specs.declared.fault.BatchFault.{BatchFault}
use Rattle.client.specs.Standings.{status_request, status_request_in_five}
use Rattle.lines.specs.Bytes.{AppendsPart}
use Rattle.standings.specs.{Reports.report, declared.forms.Form.Form}
use Rattle.standings.specs.Standings.{every_desk, status_of}
use Rattle.standings.specs.declared.polled.{PolledDesk.PolledDesk, StatusReply.StatusReply}
use Rattle.wire.specs.declared.frame.{Frame.Frame, FrameBody.FrameBody}
use Rattle.wire.specs.declared.values.{ClientRefusal.TheVariants.Foreign, Version.TheVariants.One}
use Rattle.desk_requests.specs.{Comparing.ComparesAll, declared.fault.DeskFault.DeskFault}
use Rattle.desk_requests.specs.declared.polling.{Inquiry.Inquiry, Question.Question}
use Rattle.batch.specs.declared.fault.BatchFault.TheVariants as batch
use Rattle.client.specs.declared.fault.ClientFault.TheVariants as client
use Rattle.standings.specs.declared.polled.StatusReply.TheVariants as reply
use Rattle.wire.specs.declared.frame.FrameBody.TheVariants as what
use Rattle.lines.specs.declared.fault.RunFault.TheVariants as run
pub use Rattle.desk_requests.specs.Comparing.{place_at}
use Rattle.desk_requests.specs.declared.fault.DeskFault.TheVariants as fault
use Rattle.desk_requests.specs.declared.polling.Question.TheVariants as asking

-- the request that asks what became of id 1, in version 1 of the wire
abbrev pub id_asked : (hall desk : ℕ) → Frame
id_asked hall desk = record { version = One; hall = hall; from = 0; to = desk; what = what.Ask 1 }

-- the request that asks a desk
abbrev pub request_of : Question → (hall desk : ℕ) → Frame
request_of asking.Fully hall desk = status_request_in_five hall desk
request_of asking.Standing hall desk = status_request hall desk
request_of asking.Id hall desk = id_asked hall desk

-- the desk of this number answered, and did not say how it is: it is of an earlier program where it
-- was not asked that
abbrev pub other_reply : Question → ℕ → StatusReply
other_reply asking.Fully desk = reply.NoAnswer
other_reply asking.Standing desk = reply.NoAnswer
other_reply asking.Id desk = reply.Earlier desk

-- what came of asking the desk of this number; nothing is said where memory ran out
abbrev pub reply_to : Question → ℕ → Result FrameBody BatchFault → Option StatusReply
reply_to question desk (Ok (what.Standing standing)) = Some (reply.Stands desk standing)
reply_to question desk (Ok _) = Some (other_reply question desk)
reply_to question desk (Err batch.CannotConnect) = Some reply.CannotConnect
reply_to question desk (Err batch.Late) = Some reply.Late
reply_to question desk (Err batch.NoKey) = Some reply.NoKey
reply_to question desk (Err batch.OtherKey) = Some reply.OtherKey
reply_to question desk (Err batch.HasKey) = Some reply.HasKey
reply_to question desk (Err (batch.Asking (client.Refused refusal))) = Some (reply.Refused refusal)
reply_to question desk (Err batch.NoMemory) = None
reply_to question desk (Err _) = Some reply.NoAnswer

-- the desk says that it is another one, or of another hall
abbrev pub foreign : Result FrameBody BatchFault
foreign = Err (batch.Asking (client.Refused Foreign))

-- the numbers of the other desks
abbrev pub others : ℕ → List ℕ
others asked = filter (λ desk. not (desk == asked)) every_desk

-- The desks of these numbers are asked at a place, each over a connection of its own, until one
-- isn't refused as foreign. That one is the reply; where all are refused so, they are refused.
abbrev pub Tries : Place → Question → (hall : ℕ) → List ℕ → (old new : Option (List Dialed))
    → Option StatusReply → Type 0
Tries p question hall [] old new said = (old ≡ new) × (said ≡ Some (reply.Refused Foreign))
Tries p question hall (desk ∷ desks) old new said =
    (answer : Result FrameBody BatchFault) × (mid : Option (List Dialed))
    × Adds p old mid (asked_so (request_of question hall desk) answer ∷ [])
    × (((answer ≡ foreign) × Tries p question hall desks mid new said)
    ⊎ ((answer ≢ foreign) × (mid ≡ new) × (said ≡ reply_to question desk answer)))

-- The desk of this number was asked in this way, and then the others. Where there was no answer,
-- they were asked once more, in the next way.
abbrev pub IsPolledBy : Place → Question → List Question → (hall desk : ℕ)
    → (old new : Option (List Dialed)) → Option StatusReply → Type 0
IsPolledBy p question [] hall desk old new said =
    Tries p question hall (desk ∷ others desk) old new said
IsPolledBy p question (next ∷ later) hall desk old new said =
    (first : Option StatusReply) × (mid : Option (List Dialed))
    × Tries p question hall (desk ∷ others desk) old mid first
    × (((first ≡ Some reply.NoAnswer) × IsPolledBy p next later hall desk mid new said)
    ⊎ ((first ≢ Some reply.NoAnswer) × (mid ≡ new) × (said ≡ first)))

-- how the desk is, and how another one differs; then what desks of earlier programs are asked: how
-- the desk is, and what became of an id
abbrev pub IsPolled : Place → (hall desk : ℕ) → (old new : Option (List Dialed))
    → Option StatusReply → Type 0
IsPolled p hall desk old new said =
    IsPolledBy p asking.Fully (asking.Standing ∷ asking.Id ∷ []) hall desk old new said

-- the desks were asked, one after the other: the first as the desk of this number, and each further
-- one as the next
abbrev pub Polls : Inquiry → (desk : ℕ) → List PolledDesk → (old new : Option (List Dialed))
    → Type 0
Polls q desk [] old new = old ≡ new
Polls q desk (p ∷ polled) old new =
    (mid : Option (List Dialed)) × (p.asked ≡ desk)
    × IsPolled (place_at q p.address.now) q.hall desk old mid (Some p.reply)
    × Polls q (desk + 1) polled mid new

-- a desk was asked for at this address
abbrev pub AsksFor : Inquiry → (desk : ℕ) → PolledDesk → List ℕ → (old new : Option (List Dialed))
    → Type 0
AsksFor q desk p address old new =
    (p.address.now ≡ address) × (p.asked ≡ desk)
    × IsPolled (place_at q address) q.hall desk old new (Some p.reply)

-- those at these addresses were asked, and what they answered comes after the others
abbrev pub PollsMore : Inquiry → (desk : ℕ) → List (Bor (List ℕ)) → (before after : List PolledDesk)
    → (old new : Option (List Dialed)) → Type 0
PollsMore q desk addresses before after old new =
    (more : List PolledDesk) × (after ≡ before ++ more)
    × (map (λ p. p.address.now) more ≡ map (λ a. a.now) addresses) × Polls q desk more old new

-- those of an inquiry were asked, the first as desk 1, and then their logs were compared
pub record PollsAll (q : Inquiry) (polled : List PolledDesk)
    (old new : Option (List Dialed)) : Type 0
  where
    pub told : List PolledDesk
    pub mid : Option (List Dialed)
    pub at : map (λ p. p.address.now) told ≡ map (λ a. a.now) q.addresses.now
    pub asked : Polls q 1 told old mid
    pub compared : ComparesAll q told polled mid new

-- what became of connections, and what was written, before a call and afterwards
pub record Outside : Type 0 where
  pub dialed : Option (List Dialed)
  pub dialed_then : Option (List Dialed)
  pub old : Option (List ℕ)
  pub new : Option (List ℕ)

abbrev pub outside : {D W : Type 0} → (D → Option (List Dialed)) → (W → Option (List ℕ))
    → (dial dial_then : D) → (writer writer_then : W) → Outside
outside dialed contents dial dial_then writer writer_then =
    record {
      dialed = dialed dial;
      dialed_then = dialed dial_then;
      old = contents writer;
      new = contents writer_then;
    }

-- the desks at these addresses were asked, and the report on them was written in this form; the
-- status is theirs
pub record Reports (form : Form) (q : Inquiry) (status : ℕ) (o : Outside) : Type 0 where
  pub polled : List PolledDesk
  pub asked : PollsAll q polled o.dialed o.dialed_then
  pub written : Appends o.old o.new (report form q.hall polled)
  pub status_is : status ≡ status_of polled

-- memory ran out, and nothing was written; or all were asked, and writing the report failed
abbrev pub FailsReport : DeskFault → Form → Inquiry → Outside → Type 0
FailsReport f form q o =
    ((f ≡ fault.Run run.NoMemory) × Keeps o.old o.new)
    ⊎ ((f ≡ fault.Run run.Write) × (polled : List PolledDesk)
    × PollsAll q polled o.dialed o.dialed_then
    × AppendsPart o.old o.new (report form q.hall polled))
