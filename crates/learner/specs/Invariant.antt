-- What holds of the desks and of all that they sent, after every list of events (the project's
-- own).
use Rattle.std.specs.Prelude.{◌≡◌, ℕ, ◌<◌, ◌≤◌, List, [], ◌∷◌, ◌⊎◌, Option, Some, None, slice_get}
use Rattle.std.specs.Prelude.{length}
use Rattle.learner.specs.{Order.IsAtMost, Order.IsBelow, Desks.Desk, Steps.IsDesk, Worlds.World}
use Rattle.acceptor.specs.declared.{ballot.Ballot.Ballot, entry.Entry.Entry, stored.Vote.Vote}
use Rattle.acceptor.specs.declared.message.{Report.Report, Body.Body, Message.Message}
use Rattle.acceptor.specs.Messages.{Sent}
use Rattle.acceptor.specs.declared.message.Body.TheVariants.{Promise, Accept, Accepted, Decided}
use Rattle.proposer.specs.declared.role.{PromisingDesk.PromisingDesk, Role.Role}
use Rattle.proposer.specs.declared.role.Role.TheVariants.{Idle, Gathering, Proposing, Leading}
use Rattle.proposer.specs.Proposing.{highest}
use Rattle.learner.specs.Chosen.{Has, IsDistinct, IsMajority, IsChosen}

-- somebody asked for votes for this entry
abbrev pub Asked : List Message → Ballot → ℕ → Entry → Type 0
Asked sent b pos e = (s : ℕ) × Sent sent s (Accept b pos e)

-- the desk is among those heard, with this vote
abbrev pub HeardFrom : List PromisingDesk → ℕ → Option Report → Type 0
HeardFrom [] d v = ⊥
HeardFrom (h ∷ hs) d v = ((h.desk ≡ d) × (h.vote ≡ v)) ⊎ HeardFrom hs d v

abbrev pub desks_of : List PromisingDesk → List ℕ
desks_of [] = []
desks_of (h ∷ hs) = h.desk ∷ desks_of hs

-- the entry of the report, where there is one
abbrev pub IsEntryOf : Option Report → Entry → Type 0
IsEntryOf None e = Unit {0}
IsEntryOf (Some r) e = r.entry ≡ e

-- a majority promised the ballot at one position, no later than this one; where it is this one, the
-- entry is that of their highest vote, where there is one (condition P2c of 'Paxos Made Simple',
-- section 2.2)
pub record IsBacked (n : ℕ) (sent : List Message) (b : Ballot) (pos : ℕ) (e : Entry) : Type 0 where
  pub at : ℕ
  pub heard : List PromisingDesk
  pub majority : IsMajority n (desks_of heard)
  pub promised : (d : ℕ) (v : Option Report) → HeardFrom heard d v → Sent sent d (Promise b at v)
  pub no_later : at ≤ pos
  pub entry : at ≡ pos → IsEntryOf (highest heard) e

-- the vote is at this position, and of this ballot or a higher one
abbrev pub Covers : Option Vote → ℕ → Ballot → Type 0
Covers None pos b = ⊥
Covers (Some v) pos b = (v.pos ≡ pos) × IsAtMost b v.ballot

abbrev pub CoversReport : Option Report → Ballot → Type 0
CoversReport None b = ⊥
CoversReport (Some r) b = IsAtMost b r.ballot

-- with this role and a log of this length, the desk may have asked for votes for this ballot at
-- this position
abbrev pub RoleAllows : Role → ℕ → Ballot → ℕ → Type 0
RoleAllows Idle len b pos = Unit {0}
RoleAllows (Gathering own at heard) len b pos = ¬ (own ≡ b)
RoleAllows (Proposing own at e heard) len b pos = own ≡ b → pos ≤ len
RoleAllows (Leading own) len b pos = own ≡ b → pos < len

-- an Accept names its sender, whose `tried` is no lower, whose role allows it, and a majority backs
-- it
pub record AcceptStands (n : ℕ) (sent : List Message) (d : ℕ) (x : Desk) (b : Ballot) (pos : ℕ)
    (e : Entry) : Type 0 where
  pub own : b.desk ≡ d
  pub tried : b.number ≤ x.stored.tried
  pub role : RoleAllows x.role (length x.log) b pos
  pub backed : IsBacked n sent b pos e

abbrev pub ReportStands : List Message → Ballot → ℕ → Option Report → Type 0
ReportStands sent b pos None = Unit {0}
ReportStands sent b pos (Some r) = IsBelow r.ballot b × Asked sent r.ballot pos r.entry

-- who promised a ballot has it or a higher one stored; what it reported was asked for, under a
-- lower ballot
pub record PromiseStands (sent : List Message) (x : Desk) (b : Ballot) (pos : ℕ)
    (v : Option Report) : Type 0 where
  pub promised : IsAtMost b x.stored.promised
  pub vote : ReportStands sent b pos v

-- who voted has that ballot or a higher one stored, at no position past its log; at its log's
-- length the stored vote is of that ballot or a higher one
pub record AcceptedStands (sent : List Message) (x : Desk) (b : Ballot) (pos : ℕ) : Type 0 where
  pub entry : Entry
  pub asked : Asked sent b pos entry
  pub promised : IsAtMost b x.stored.promised
  pub place : pos ≤ length x.log
  pub vote : pos ≡ length x.log → Covers x.stored.vote pos b

-- what holds of a message that desk d has sent, while it is as x
abbrev pub Stands : ℕ → List Message → ℕ → Desk → Body → Type 0
Stands n sent d x (Promise b pos v) = PromiseStands sent x b pos v
Stands n sent d x (Accept b pos e) = AcceptStands n sent d x b pos e
Stands n sent d x (Accepted b pos) = AcceptedStands sent x b pos
Stands n sent d x (Decided pos e) = IsChosen n sent pos e
Stands n sent d x _ = Unit {0}

-- the promises that were heard were sent, each by another desk
pub record GatheringStands (n : ℕ) (sent : List Message) (d top len : ℕ) (b : Ballot) (pos : ℕ)
    (heard : List PromisingDesk) : Type 0 where
  pub own : b.desk ≡ d
  pub tried : b.number ≤ top
  pub place : pos ≡ len
  pub distinct : IsDistinct (desks_of heard)
  pub ours : (k : ℕ) → Has (desks_of heard) k → IsDesk n k
  pub promised : (k : ℕ) (v : Option Report) → HeardFrom heard k v → Sent sent k (Promise b pos v)

-- its Accept was sent, and so were the votes that were heard, each by another desk
pub record ProposingStands (n : ℕ) (sent : List Message) (d top len : ℕ) (b : Ballot) (pos : ℕ)
    (e : Entry) (heard : List ℕ) : Type 0 where
  pub own : b.desk ≡ d
  pub tried : b.number ≤ top
  pub place : pos ≡ len
  pub asked : Sent sent d (Accept b pos e)
  pub distinct : IsDistinct heard
  pub ours : (k : ℕ) → Has heard k → IsDesk n k
  pub accepted : (k : ℕ) → Has heard k → Sent sent k (Accepted b pos)

-- a majority promised the ballot, at one position, which is decided by now
pub record LeadingStands (n : ℕ) (sent : List Message) (d top len : ℕ) (b : Ballot) : Type 0 where
  pub own : b.desk ≡ d
  pub tried : b.number ≤ top
  pub at : ℕ
  pub before : at < len
  pub heard : List PromisingDesk
  pub majority : IsMajority n (desks_of heard)
  pub promised : (k : ℕ) (v : Option Report) → HeardFrom heard k v → Sent sent k (Promise b at v)

abbrev pub RoleStands : ℕ → List Message → ℕ → ℕ → ℕ → Role → Type 0
RoleStands n sent d top len Idle = Unit {0}
RoleStands n sent d top len (Gathering b pos heard) =
    GatheringStands n sent d top len b pos heard
RoleStands n sent d top len (Proposing b pos e heard) =
    ProposingStands n sent d top len b pos e heard
RoleStands n sent d top len (Leading b) = LeadingStands n sent d top len b

abbrev pub VoteStands : List Message → Ballot → Option Vote → Type 0
VoteStands sent promised None = Unit {0}
VoteStands sent promised (Some v) = IsAtMost v.ballot promised × Asked sent v.ballot v.pos v.entry

abbrev pub LogStands : ℕ → List Message → List Entry → Type 0
LogStands n sent log = (pos : ℕ) (e : Entry) → slice_get log pos ≡ Some e → IsChosen n sent pos e

-- what holds of desk d, which is as x
pub record DeskStands (n : ℕ) (sent : List Message) (d : ℕ) (x : Desk) : Type 0 where
  pub vote : VoteStands sent x.stored.promised x.stored.vote
  pub log : LogStands n sent x.log
  pub role : RoleStands n sent d x.stored.tried (length x.log) x.role

-- one entry per ballot and position
abbrev pub OneEntry : List Message → Type 0
OneEntry sent =
    (s t : ℕ) (b : Ballot) (pos : ℕ) (e f : Entry)
    → Sent sent s (Accept b pos e) → Sent sent t (Accept b pos f) → e ≡ f

-- a vote below a promise of the same desk was reported, or surpassed, where both are at one
-- position; and none is at a later position (condition P1a of 'Paxos Made Simple', section 2.2, and
-- what a promise reports)
pub record IsKept (b : Ballot) (at : ℕ) (v : Option Report) (c : Ballot) (pos : ℕ) : Type 0 where
  pub same : pos ≡ at → IsBelow c b → CoversReport v c
  pub later : at < pos → IsAtMost b c

abbrev pub KeepsPromises : List Message → Type 0
KeepsPromises sent =
    (d : ℕ) (b : Ballot) (at : ℕ) (v : Option Report) (c : Ballot) (pos : ℕ)
    → Sent sent d (Promise b at v) → Sent sent d (Accepted c pos) → IsKept b at v c pos

pub record IsSound (n : ℕ) (w : World) : Type 0 where
  pub desks : (d : ℕ) → DeskStands n w.sent d (w.desks d)
  pub messages : (d : ℕ) (body : Body) → Sent w.sent d body → Stands n w.sent d (w.desks d) body
  pub one : OneEntry w.sent
  pub kept : KeepsPromises w.sent
