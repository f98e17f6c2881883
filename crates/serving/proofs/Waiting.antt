-- The frames that wait in a connection, served one after the other.
use Rattle.std.proofs.Common.{◌≡◌, ◌≢◌, inl, inr, refl, sym, ap, subst, ◌∙◌, ℕ, ◌+◌, ◌<◌, ◌≤◌, List}
use Rattle.std.proofs.Common.{[], ◌∷◌, ◌++◌, length, Option, None, Some, arith}
use Rattle.std.{proofs.lemmas.List.drop_all, specs.declared.io.Write.Ghosts as WriteOf}
use Rattle.std.specs.Io.KnownBytes.{Appends, Consumes}
use Rattle.lines.specs.Bytes.{AppendsPart}
use Rattle.answers.specs.declared.desk.Desk.{Ghosts as DeskOf}
use Rattle.store.specs.declared.home.Home.{Home}
use Rattle.wire.specs.declared.{fault.WireFault.WireFault, frame.Frame.Frame}
use Rattle.wire.specs.declared.values.Version.{Version}
use Rattle.wire.specs.Stream.{Feeds, IsKept, Reader, holding}
use Rattle.serving.specs.declared.ends.{ConnectionEnd.ConnectionEnd, ServingOutcome.ServingOutcome}
use Rattle.serving.specs.declared.{permission.Permission.Permission, peers.Peers.Ghosts as PeersOf}
use Rattle.serving.specs.{declared.source.Source.Ghosts as SourceOf, Making.Way}
use Rattle.serving.specs.Connection.{Begun, frames_of, AreUnder, IsConnection, Sides}
use Rattle.serving.specs.Sessions.{Line, line, outside, reads_of, sides_of}
use Rattle.serving.specs.Turns.{Talk, BeginsNext, IsFree, LeavesAt, OnlyReads, ReadsTo, Rests}
use Rattle.serving.specs.Turns.{WantsRead, after_sent, broken_by, ended, moment, new_talk, sides_at}
use Rattle.serving.specs.model.{Pieces.IsBatch, Pieces.IsPiece, Turning.Leaves}
use Rattle.serving.specs.model.Sessions.{ServesPiece, ServesWaiting}
use Rattle.serving.proofs.Connecting.{begun_more, counts_more, serves_none, under_both}
use Rattle.serving.proofs.Pieces.{SoFar, nothing_yet, so_far_more, stops_at_piece}
use Rattle.serving.proofs.Turning.{leaves_cut, leaves_more, open_serves, piece_of, piece_stops}
use Rattle.serving.specs.declared.ends.ConnectionEnd.TheVariants as end

-- the frames that waited first are served up to here, and their answers are written
pub record HasServed {V : Type 0} {way : Way V} (may : Permission) (place : Home) (a b : Sides way)
    (first c : Talk) (begun : List Begun) : Type 0 where
  pub home : c.home ≡ first.home
  pub wire : c.wire ≡ first.wire
  pub stream : c.stream ≡ first.stream
  pub taken : c.pending ≡ []
  pub parts : first.waiting ≡ frames_of begun ++ c.waiting
  pub allowed : AreUnder may begun
  pub counted : c.frames ≡ first.frames + length begun
  pub few : c.frames ≤ 64
  pub leaves : Leaves c.end place a b begun c.frames

pub served_none : {V : Type 0} {way : Way V} {may : Permission} (home : Home) (a : Sides way)
    (first : Talk) → IsFree first → first.frames < 64 → HasServed may home a a first first []
served_none home a first free few = record {
  home = refl;
  wire = refl;
  stream = refl;
  taken = free.taken;
  parts = refl;
  allowed = tt;
  counted = omega arith;
  few = omega (arith, few);
  leaves =
      subst (λ z. Leaves z home a a [] first.frames) (sym free.unended) (serves_none home a, few);
}

-- a turn, seen as one of the connection that it was first
turn_as : {V U : Type 0} (d : DeskOf V) (p : PeersOf U) (first c later : Talk)
    (x y : V) (o n : U) (one : Begun) (e : Option ConnectionEnd) (count : ℕ)
    → c.home ≡ first.home → c.wire ≡ first.wire
    → LeavesAt e c.home (sides_at d p c.wire (moment x o c))
    (sides_at d p c.wire (moment y n later)) one count
    → LeavesAt e first.home (sides_at d p first.wire (moment x o c))
    (sides_at d p first.wire (moment y n later)) one count
turn_as d p first c later x y o n one e count home wire h =
    subst (λ z. LeavesAt e first.home (sides_at d p z (moment x o c))
    (sides_at d p z (moment y n later)) one count) wire
    (subst (λ z. LeavesAt e z (sides_at d p c.wire (moment x o c))
    (sides_at d p c.wire (moment y n later)) one count) home h)

-- a frame more is served, and its answer is written
pub waiting_more : {V U X : Type 0} {may : Permission} (d : DeskOf V) (p : PeersOf U)
    (w : WriteOf X)
    (first c later written : Talk) (start m b : Line V U X) (begun : List Begun) (one : Begun)
    → HasServed may first.home (sides_of d p w first.wire start) (sides_of d p w first.wire m) first
    c begun → BeginsNext c later one.frame → one.may ≡ may
    → LeavesAt later.end c.home (sides_at d p c.wire (moment m.node m.peers c))
    (sides_at d p c.wire (moment b.node b.peers later)) one later.frames
    → Appends (w.contents m.writer) (w.contents b.writer) later.pending
    → written ≡ after_sent later (length later.pending)
    → HasServed may first.home (sides_of d p w first.wire start) (sides_of d p w first.wire b) first
    written (begun ++ one ∷ [])
waiting_more {V} {U} {X} {may} d p w first c later written start m b begun one h next under turn
    more is =
    let serves = open_serves c.end first.home _ _ begun c.frames next.free.unended h.leaves in
    subst (λ z. HasServed may first.home (sides_of d p w first.wire start)
    (sides_of d p w first.wire b) first z (begun ++ one ∷ [])) (sym is)
    (record {
      home = next.home ∙ h.home;
      wire = next.wire ∙ h.wire;
      stream = next.stream ∙ h.stream;
      taken = drop_all (length later.pending) later.pending (omega arith);
      allowed = under_both may begun (one ∷ []) h.allowed (under, tt);
      parts =
          begun_more first.waiting c.waiting later.waiting one.frame one.may one.differs
          one.fates begun h.parts next.next;
      counted = next.counted ∙ counts_more first.frames c.frames begun one h.counted;
      few = next.few;
      leaves =
          leaves_more later.end first.home (sides_of d p w first.wire start) (d.seen m.node)
          (d.seen b.node) c.pending later.pending (w.contents m.writer) (w.contents b.writer)
          (outside d p first.wire m.node m.peers) (outside d p first.wire b.node b.peers) begun one
          later.frames next.free.taken serves.0
          (turn_as d p first c later m.node b.node m.peers b.peers one later.end later.frames h.home
          h.wire turn) more;
    })

some_end : {e : ConnectionEnd} → Some e ≡ None → ⊥
some_end h = cc

-- an answer was not written whole
pub waiting_cut : {V U X : Type 0} {may : Permission} (d : DeskOf V) (p : PeersOf U) (w : WriteOf X)
    (first c later kept : Talk) (start m b : Line V U X) (begun : List Begun) (one : Begun)
    → HasServed may first.home (sides_of d p w first.wire start) (sides_of d p w first.wire m) first
    c begun → BeginsNext c later one.frame → one.may ≡ may
    → LeavesAt later.end c.home (sides_at d p c.wire (moment m.node m.peers c))
    (sides_at d p c.wire (moment b.node b.peers later)) one later.frames
    → later.pending ≢ [] → AppendsPart (w.contents m.writer) (w.contents b.writer) later.pending
    → kept ≡ later → ServesWaiting d p w may (Some end.Write) first kept start b
waiting_cut {V} {U} {X} {may} d p w first c later kept start m b begun one h next under turn due
    part is =
    let serves = open_serves c.end first.home _ _ begun c.frames next.free.unended h.leaves in
    subst (λ z. ServesWaiting d p w may (Some end.Write) first z start b) (sym is) (
      Some end.Write,
      begun ++ one ∷ [],
      later.waiting,
      record {
        allowed = under_both may begun (one ∷ []) h.allowed (under, tt);
        parts =
            begun_more first.waiting c.waiting later.waiting one.frame one.may one.differs
            one.fates begun h.parts next.next;
        counted = next.counted ∙ counts_more first.frames c.frames begun one h.counted;
        few = next.few;
        ends =
            leaves_cut later.end first.home (sides_of d p w first.wire start) (d.seen m.node)
            (d.seen b.node) c.pending later.pending (w.contents m.writer) (w.contents b.writer)
            (outside d p first.wire m.node m.peers) (outside d p first.wire b.node b.peers) begun
            one later.frames next.free.taken serves.0
            (turn_as d p first c later m.node b.node m.peers b.peers one later.end later.frames
            h.home h.wire turn) due part;
      },
      record {
        is = refl;
        kept = λ no. absurd (some_end no);
        stream = next.stream ∙ h.stream;
        goes_on = record {
          home = next.home ∙ h.home;
          wire = next.wire ∙ h.wire;
          wants = λ no. absurd (some_end no);
        };
      },
    )

no_fault : (fault : Option WireFault) → broken_by fault ≡ None → fault ≡ None
no_fault None h = refl
no_fault (Some e) h = absurd (some_end h)

-- the connection ended before
rests_ended : {V U X : Type 0} {may : Permission} (d : DeskOf V) (p : PeersOf U) (w : WriteOf X)
    (first c : Talk) (start m : Line V U X) (begun : List Begun) (e : Option ConnectionEnd)
    → HasServed may first.home (sides_of d p w first.wire start) (sides_of d p w first.wire m) first
    c begun → c.end ≡ e → (IsFree c → ⊥) → ServesWaiting d p w may c.end first c start m
rests_ended d p w first c start m begun None h is not =
    absurd (not (record { unended = is; taken = h.taken }))
rests_ended d p w first c start m begun (Some e) h is not = (
  Some e,
  begun,
  c.waiting,
  record {
    parts = h.parts;
    allowed = h.allowed;
    counted = h.counted;
    few = h.few;
    ends =
        subst (λ z. Leaves z first.home (sides_of d p w first.wire start)
        (sides_of d p w first.wire m) begun c.frames) is h.leaves;
  },
  record {
    is = is;
    kept = λ no. absurd (some_end no);
    stream = h.stream;
    goes_on = record {
      home = h.home;
      wire = h.wire;
      wants = λ no. absurd (some_end (sym is ∙ no));
    };
  },
)

-- all that came is served
rests_served : {V U X : Type 0} {may : Permission} (d : DeskOf V) (p : PeersOf U) (w : WriteOf X)
    (first c : Talk) (start m : Line V U X) (begun : List Begun)
    → HasServed may first.home (sides_of d p w first.wire start) (sides_of d p w first.wire m) first
    c begun → IsFree c → c.waiting ≡ [] → IsKept c.stream.fault
    → ServesWaiting d p w may (broken_by c.stream.fault) first (ended c (broken_by c.stream.fault))
    start m
rests_served d p w first c start m begun h free served kept =
    let serves = open_serves c.end first.home _ _ begun c.frames free.unended h.leaves in (
      None,
      begun,
      [],
      record {
        parts = h.parts ∙ ap (λ z. frames_of begun ++ z) served;
        allowed = h.allowed;
        counted = h.counted;
        few = h.few;
        ends = (serves.0, refl, serves.1);
      },
      record {
        is = ap (λ (z : Reader). broken_by z.fault) h.stream;
        kept = λ _. subst (λ (z : Reader). IsKept z.fault) h.stream kept;
        stream = h.stream;
        goes_on = record {
          home = h.home;
          wire = h.wire;
          wants = λ none. record {
            free = record { unended = none; taken = h.taken };
            served = served;
            unbroken = no_fault c.stream.fault none;
          };
        };
      },
    )

-- no frame was begun any more
pub waiting_done : {V U X : Type 0} {may : Permission} (d : DeskOf V) (p : PeersOf U)
    (w : WriteOf X)
    (first c later : Talk) (start m : Line V U X) (node : V) (peers : U) (begun : List Begun)
    → HasServed may first.home (sides_of d p w first.wire start) (sides_of d p w first.wire m) first
    c begun → node ≡ m.node → peers ≡ m.peers → Rests c later
    → ServesWaiting d p w may later.end first later start (line node peers m.writer)
waiting_done {V} {U} {X} {may} d p w first c later start m node peers begun h same others rests =
    rw (same, others) (go rests)
  where
    go : Rests c later → ServesWaiting d p w may later.end first later start m
    go (inl r) =
        subst (λ (z : Talk). ServesWaiting d p w may z.end first z start m) (sym r.1)
        (rests_ended d p w first c start m begun c.end h refl r.0)
    go (inr r) =
        subst (λ (z : Talk). ServesWaiting d p w may z.end first z start m) (sym r.ends)
        (rests_served d p w first c start m begun h r.free r.served r.kept)

read_on : (e : Option ConnectionEnd) (piece : List ℕ) (old new : Talk) → e ≡ None
    → ReadsTo e piece old new → Feeds (old.stream.held ++ piece) new.waiting new.stream
read_on None piece old new none h = h
read_on (Some e) piece old new none h = absurd (some_end none)

-- the frames that a piece made whole were served
pub piece_waited : {V U X : Type 0} {may : Permission} (d : DeskOf V) (p : PeersOf U)
    (w : WriteOf X)
    (result : Option ConnectionEnd) (piece : List ℕ) (old mid new : Talk) (a b : Line V U X)
    → OnlyReads old mid → mid.end ≡ None → ReadsTo mid.end piece old mid
    → ServesWaiting d p w may result mid new a b → ServesPiece d p w may result piece old new a b
piece_waited {V} {U} {X} {may} d p w result piece old mid new a b only none reads h =
    let batch =
    subst (λ z. IsBatch may h.0 old.home (sides_of d p w z a) (sides_of d p w z b) mid.waiting h.1
    h.2 old.frames new.frames) only.wire
    (subst (λ z. IsBatch may h.0 z (sides_of d p w mid.wire a) (sides_of d p w mid.wire b)
    mid.waiting h.1 h.2 old.frames new.frames) only.home
    (subst (λ z. IsBatch may h.0 mid.home (sides_of d p w mid.wire a) (sides_of d p w mid.wire b)
    mid.waiting h.1 h.2 z new.frames) only.frames h.3)) in
    let ends = h.4 in
    piece_of h.0 result mid.stream.fault old.home (sides_of d p w old.wire a)
    (sides_of d p w old.wire b) (old.stream.held ++ piece) mid.waiting h.2 h.1 old.frames new.frames
    new.stream ends.is ends.kept (ap (λ (z : Reader). z.fault) (sym ends.stream))
    (subst (λ z. Feeds (old.stream.held ++ piece) mid.waiting z) (sym ends.stream)
    (read_on mid.end piece old mid none reads)) batch

-- the piece itself ended the connection
pub piece_stopped : {V U X : Type 0} {may : Permission} (d : DeskOf V) (p : PeersOf U)
    (w : WriteOf X) (e : ConnectionEnd) (piece : List ℕ) (old new : Talk) (a : Line V U X)
    → OnlyReads old new → new.end ≡ Some e → ReadsTo new.end piece old new → old.frames < 64
    → ServesPiece d p w may (Some e) piece old new a a
piece_stopped {V} {U} {X} {may} d p w e piece old new a only is reads few =
    let here = sides_of d p w old.wire a in
    subst (λ z. (begun : List Begun) × (rest : List ℕ)
    × IsPiece may (Some e) old.home here here (old.stream.held ++ piece) begun rest old.frames z
    new.stream) (sym only.frames) (piece_stops e old.home here piece old new old.frames
    (subst (λ z. ReadsTo z piece old new) is reads) few)

-- a frame fewer waits
pub fewer_wait : (c later written : Talk) (frame : Frame) (n : ℕ) → BeginsNext c later frame
    → written ≡ after_sent later n → length written.waiting < length c.waiting
fewer_wait c later written frame n next is =
    let same = ap (λ (z : Talk). length z.waiting) is in
    let less = ap length next.next in omega (arith, same, less)

-- ---- a source

pub new_wants : (home : Home) (wire : Version) (c : Talk) → c ≡ new_talk home wire → WantsRead c
new_wants home wire c is =
    subst (λ z. WantsRead z) (sym is) (record {
      free = record { unended = refl; taken = refl };
      served = refl;
      unbroken = refl;
    })

-- nothing was read yet
pub new_so_far : {V : Type 0} {way : Way V} {may : Permission} (home : Home) (wire : Version)
    (a : Sides way) (read : Option (List ℕ)) (c : Talk) → c ≡ new_talk home wire
    → SoFar may home a a [] [] [] read read c.frames c.stream
new_so_far {V} {way} {may} home wire a read c is =
    subst (λ (z : Talk). SoFar may home a a [] [] [] read read z.frames z.stream) (sym is)
    (nothing_yet home a read (holding []) refl)

-- a piece was served, seen from the beginning of the connection
from_first : {V U X : Type 0} {may : Permission} (d : DeskOf V) (p : PeersOf U) (w : WriteOf X)
    (result : Option ConnectionEnd) (piece : List ℕ) (old new : Talk) (a b : Line V U X)
    (home : Home) (wire : Version)
    → old.home ≡ home → old.wire ≡ wire → ServesPiece d p w may result piece old new a b
    → (begun : List Begun) × (rest : List ℕ)
    × IsPiece may result home (sides_of d p w wire a) (sides_of d p w wire b)
    (old.stream.held ++ piece) begun rest old.frames new.frames new.stream
from_first {V} {U} {X} {may} d p w result piece old new a b home wire is spoken h =
    subst (λ z. (begun : List Begun) × (rest : List ℕ)
    × IsPiece may result home (sides_of d p w z a) (sides_of d p w z b) (old.stream.held ++ piece)
    begun rest old.frames new.frames new.stream) spoken
    (subst (λ z. (begun : List Begun) × (rest : List ℕ)
    × IsPiece may result z (sides_of d p w old.wire a) (sides_of d p w old.wire b)
    (old.stream.held ++ piece) begun rest old.frames new.frames new.stream) is h)

-- one piece more is served
pub source_more : {V U X : Type 0} {may : Permission} (d : DeskOf V) (p : PeersOf U) (w : WriteOf X)
    (home : Home)
    (wire : Version) (start a b : Line V U X) (old new : Talk) (bytes rest piece : List ℕ)
    (begun : List Begun) (read left later : Option (List ℕ)) (result : Option ConnectionEnd)
    → SoFar may home (sides_of d p w wire start) (sides_of d p w wire a) bytes begun rest read left
    old.frames old.stream → Consumes left later piece → old.home ≡ home → old.wire ≡ wire
    → ServesPiece d p w may result piece old new a b → result ≡ None
    → (bytes : List ℕ) × (begun : List Begun) × (rest : List ℕ)
    × SoFar may home (sides_of d p w wire start) (sides_of d p w wire b) bytes begun rest read later
    new.frames new.stream
source_more {V} {U} {X} {may} d p w home wire start a b old new bytes rest piece begun read left
    later result h more
    is spoken k none =
    let one = from_first d p w result piece old new a b home wire is spoken k in (
      bytes ++ piece,
      begun ++ one.0,
      one.1,
      so_far_more home (sides_of d p w wire start) (sides_of d p w wire a) (sides_of d p w wire b)
          bytes piece rest one.1 begun one.0 read left later old.frames new.frames old.stream
          new.stream h more
          (subst (λ z. IsPiece may z home (sides_of d p w wire a) (sides_of d p w wire b)
          (old.stream.held ++ piece) one.0 one.1 old.frames new.frames new.stream) none one.2),
    )

-- a piece ends the connection
pub source_stops : {V U X S : Type 0} {may : Permission} (d : DeskOf V) (p : PeersOf U)
    (w : WriteOf X)
    (s : SourceOf S) (e : ConnectionEnd) (home : Home) (wire : Version) (start a b : Line V U X)
    (old new : Talk) (bytes rest piece : List ℕ) (begun : List Begun)
    (read left : Option (List ℕ)) (source : S) (result : Option ConnectionEnd)
    (served : ServingOutcome)
    → SoFar may home (sides_of d p w wire start) (sides_of d p w wire a) bytes begun rest read left
    old.frames old.stream
    → Consumes left (s.remaining source) piece → old.home ≡ home → old.wire ≡ wire
    → ServesPiece d p w may result piece old new a b → result ≡ Some e
    → s.reads source ≤ 19200256 → s.failed source ≡ 0
    → served ≡ record { frames = new.frames; end = e }
    → (bytes : List ℕ) × (begun : List Begun) × (rest : List ℕ)
    × IsConnection may served home (sides_of d p w wire start) (sides_of d p w wire b) bytes begun
    rest read (s.remaining source) (reads_of s source)
source_stops {V} {U} {X} {S} {may} d p w s e home wire start a b old new bytes rest piece begun read
    left source result
    served h more is spoken k some bounded whole told =
    let one = from_first d p w result piece old new a b home wire is spoken k in
    subst (λ z. (bytes : List ℕ) × (begun : List Begun) × (rest : List ℕ)
    × IsConnection may z home (sides_of d p w wire start) (sides_of d p w wire b) bytes begun rest
    read
    (s.remaining source) (reads_of s source)) (sym told)
    (stops_at_piece e result home (sides_of d p w wire start) (sides_of d p w wire a)
    (sides_of d p w wire b) bytes piece rest one.1 begun one.0 read left (s.remaining source)
    old.frames new.frames (reads_of s source) old.stream new.stream some h more one.2 bounded
    whole)
