-- Where entries and ballots are in desks and messages: P is a property of entries, Q one of ballots
-- (the project's own).
use Rattle.std.specs.Prelude.{ℕ, ◌≡◌, ◌≤◌, ◌⊎◌, List, [], ◌∷◌, Option, Some, None}
use Rattle.acceptor.specs.declared.{ballot.Ballot.Ballot, entry.Entry.Entry, stored.Vote.Vote}
use Rattle.acceptor.specs.declared.message.{Report.Report, Body.Body, Message.Message}
use Rattle.acceptor.specs.declared.message.Body.TheVariants.{Prepare, Promise, Accept, Accepted}
use Rattle.acceptor.specs.declared.message.Body.TheVariants.{Nack, Behind, Decided}
use Rattle.acceptor.specs.Ballots.{no_ballot}
use Rattle.proposer.specs.declared.role.{PromisingDesk.PromisingDesk, Role.Role}
use Rattle.proposer.specs.declared.role.Role.TheVariants.{Idle, Gathering, Proposing, Leading}
use Rattle.learner.specs.{Desks.Desk, Steps.IsDesk, Worlds.World}

abbrev pub ListHolds : (Entry → Type 0) → List Entry → Type 0
ListHolds P [] = Unit {0}
ListHolds P (e ∷ es) = P e × ListHolds P es

abbrev pub ReportHolds : (Entry → Type 0) → (Ballot → Type 0) → Option Report → Type 0
ReportHolds P Q None = Unit {0}
ReportHolds P Q (Some r) = Q r.ballot × P r.entry

abbrev pub BodyHolds : (Entry → Type 0) → (Ballot → Type 0) → Body → Type 0
BodyHolds P Q (Prepare b pos) = Q b
BodyHolds P Q (Promise b pos v) = Q b × ReportHolds P Q v
BodyHolds P Q (Accept b pos e) = Q b × P e
BodyHolds P Q (Accepted b pos) = Q b
BodyHolds P Q (Nack b pos promised) = Q b × Q promised
BodyHolds P Q (Behind len) = Unit {0}
BodyHolds P Q (Decided pos e) = P e

abbrev pub MessagesHold : (Entry → Type 0) → (Ballot → Type 0) → List Message → Type 0
MessagesHold P Q [] = Unit {0}
MessagesHold P Q (m ∷ ms) = BodyHolds P Q m.body × MessagesHold P Q ms

abbrev pub VoteHolds : (Entry → Type 0) → (Ballot → Type 0) → Option Vote → Type 0
VoteHolds P Q None = Unit {0}
VoteHolds P Q (Some v) = Q v.ballot × P v.entry

abbrev pub HeardHolds : (Entry → Type 0) → (Ballot → Type 0) → List PromisingDesk → Type 0
HeardHolds P Q [] = Unit {0}
HeardHolds P Q (h ∷ hs) = ReportHolds P Q h.vote × HeardHolds P Q hs

abbrev pub RoleHolds : (Entry → Type 0) → (Ballot → Type 0) → Role → Type 0
RoleHolds P Q Idle = Unit {0}
RoleHolds P Q (Gathering b pos heard) = Q b × HeardHolds P Q heard
RoleHolds P Q (Proposing b pos e heard) = Q b × P e
RoleHolds P Q (Leading b) = Q b

pub record DeskHolds (P : Entry → Type 0) (Q : Ballot → Type 0) (x : Desk) : Type 0 where
  pub promised : (x.stored.promised ≡ no_ballot) ⊎ Q x.stored.promised
  pub vote : VoteHolds P Q x.stored.vote
  pub log : ListHolds P x.log
  pub role : RoleHolds P Q x.role
  pub queue : ListHolds P x.queue

pub record WorldHolds (P : Entry → Type 0) (Q : Ballot → Type 0) (w : World) : Type 0 where
  pub desks : (d : ℕ) → DeskHolds P Q (w.desks d)
  pub sent : MessagesHold P Q w.sent

-- the ballot is of a number from 1 on, and the desk that it names is one of n and has tried that
-- number
pub record IsTried (n : ℕ) (w : World) (b : Ballot) : Type 0 where
  pub number : 1 ≤ b.number
  pub desk : IsDesk n b.desk
  pub tried : b.number ≤ (w.desks b.desk).stored.tried
