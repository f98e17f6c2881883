-- Turns of a connection, and frames whose answers are written at once.
use Rattle.std.proofs.Common.{◌≡◌, ◌≢◌, inl, refl, sym, ap, subst, ◌∙◌, ℕ, ◌<◌, ◌≤◌, List, [], ◌∷◌}
use Rattle.std.proofs.Common.{◌++◌, Option, None, Some, Bool, true, false, cond, eqb, arith}
use Rattle.std.proofs.lemmas.Bool.{eqb-true, eqb-false}
use Rattle.std.specs.Io.KnownBytes.{Appends}
use Rattle.lines.specs.Bytes.{AppendsPart}
use Rattle.answers.specs.{Seen.Seen, declared.desk.Desk.Ghosts as DeskOf}
use Rattle.store.specs.declared.home.Home.{Home}
use Rattle.wire.specs.declared.{fault.WireFault.WireFault, standing.Difference.Difference}
use Rattle.wire.specs.{declared.frame.Frame.Frame, Stream.Feeds, Stream.IsKept, Stream.Reader}
use Rattle.serving.specs.declared.ends.{FrameEnd.FrameEnd, ConnectionEnd.ConnectionEnd}
use Rattle.serving.specs.Connection.{Begun, Sides, sides, ServesOne, Serves, BreaksOff, FailsIn}
use Rattle.serving.specs.Connection.{Fails, serve_frame, answer_bytes}
use Rattle.serving.specs.{Making.Way, Making.Outside, model.Pieces.IsBatch, model.Pieces.IsPiece}
use Rattle.serving.specs.declared.{permission.Permission.Permission, peers.Peers.Ghosts as PeersOf}
use Rattle.serving.specs.Turns.{Talk, Advances, LeavesAt, ReadsTo, moment}
use Rattle.serving.specs.model.Turning.{end_after, Leaves, or_broken}
use Rattle.serving.proofs.Connecting.{serves_none, serves_more, serves_last, fails_last}
use Rattle.serving.proofs.Pieces.{piece_ends, piece_breaks, piece_waits, nothing_begun}
use Rattle.serving.specs.declared.ends.FrameEnd.TheVariants as close
use Rattle.serving.specs.declared.ends.ConnectionEnd.TheVariants as end
use Rattle.serving.specs.declared.ends.FrameFault.TheVariants as fault

-- ---- one frame

-- the 64th frame ends the connection, unless it does so of itself
pub leaves_at : {V : Type 0} {way : Way V} (c : Option FrameEnd) (home : Home) (a b : Sides way)
    (one : Begun) (count : ℕ)
    → count ≤ 64 → ServesOne home a b one c → LeavesAt (end_after c count) home a b one count
leaves_at (Some close.Stopped) home a b one count few h = h
leaves_at (Some close.Down) home a b one count few h = h
leaves_at {V} {way} None home a b one count few h = go (eqb count 64) refl
  where
    go : (t : Bool) → eqb count 64 ≡ t → LeavesAt (cond t (Some end.Frames) None) home a b one count
    go true is = (h, eqb-true _ _ is)
    go false is = (h, let no = eqb-false _ _ is in omega (arith, few, no))

-- the frame was begun with nothing pending, so what is pending after it is its answer
pub left_at : {V : Type 0} {way : Way V} (home : Home) (x y : Seen) (p q : List ℕ)
    (o n : Outside way) (one : Begun) (c : Option FrameEnd) (e : Option ConnectionEnd) (count : ℕ)
    → p ≡ [] → e ≡ end_after c count → count ≤ 64
    → ServesOne home (sides x (Some []) o) (sides y (Some q) n) one c
    → LeavesAt e home (sides x (Some p) o) (sides y (Some q) n) one count
left_at {V} {way} home x y p q o n one c e count none is few h =
    let b : Sides way = sides y (Some q) n in
    subst (λ z. LeavesAt z home (sides x (Some p) o) b one count) (sym is)
    (leaves_at c home (sides x (Some p) o) b one count few
    (subst (λ (z : List ℕ). ServesOne home (sides x (Some z) o) b one c) (sym none) h))

-- the same turn, of the connection that is seen so
pub advances_as : {V U : Type 0} (d : DeskOf V) (p : PeersOf U) (node next : V) (peers later : U)
    (may : Permission) (differs : Option Difference) (view old new : Talk)
    → view ≡ old → Advances d p may differs true (moment node peers view) (moment next later new)
    → Advances d p may differs true (moment node peers old) (moment next later new)
advances_as d p node next peers later may differs view old new is h =
    subst (λ z. Advances d p may differs true (moment node peers z) (moment next later new)) is h

-- ---- an answer is written at once

-- what a connection has of an answer is what the writer is given
handed_on : {V : Type 0} {way : Way V} (home : Home) (x y : Seen) (p q : List ℕ)
    (w v : Option (List ℕ)) (o n : Outside way) (one : Begun) (c : Option FrameEnd)
    → p ≡ [] → ServesOne home (sides x (Some p) o) (sides y (Some q) n) one c → Appends w v q
    → ServesOne home (sides x w o) (sides y v n) one c
handed_on home x y p q w v o n one c none h k = record {
  close = h.close;
  answered =
      subst (λ z. Appends w v z)
      (h.answered ∙ ap (λ z. z ++ answer_bytes (serve_frame home x one).answers) none) k;
  made = h.made;
  node = h.node;
}

failed_on : {V : Type 0} {way : Way V} (home : Home) (x y : Seen) (p q : List ℕ)
    (w v : Option (List ℕ)) (o n : Outside way) (one : Begun)
    → p ≡ [] → FailsIn fault.NoMemory home (sides x (Some p) o) (sides y (Some q) n) one
    → Appends w v q → FailsIn fault.NoMemory home (sides x w o) (sides y v n) one
failed_on home x y p q w v o n one none h k = (
  h.0,
  h.1,
  record {
    parts = h.2.parts;
    silent = subst (λ z. Appends w v z) (h.2.silent ∙ ap (λ z. z ++ []) none) k;
    made = h.2.made;
    node = h.2.node;
  },
)

broken_off : {V : Type 0} {way : Way V} (home : Home) (x y : Seen) (p q : List ℕ)
    (w v : Option (List ℕ)) (o n : Outside way) (one : Begun) (c : Option FrameEnd)
    → p ≡ [] → ServesOne home (sides x (Some p) o) (sides y (Some q) n) one c → q ≢ []
    → AppendsPart w v q → BreaksOff home (sides x w o) (sides y v n) one
broken_off home x y p q w v o n one c none h due k =
    let is : q ≡ answer_bytes (serve_frame home x one).answers
    = h.answered ∙ ap (λ z. z ++ answer_bytes (serve_frame home x one).answers) none in
    record {
      due = λ no. due (is ∙ ap answer_bytes no);
      answered = subst (λ z. AppendsPart w v z) is k;
      made = h.made;
      node = h.node;
    }

-- ---- one frame after those before it

pub leaves_more : {V : Type 0} {way : Way V} (e : Option ConnectionEnd) (home : Home)
    (a : Sides way)
    (x y : Seen) (p q : List ℕ) (w v : Option (List ℕ)) (o n : Outside way) (begun : List Begun)
    (one : Begun) (count : ℕ) → p ≡ [] → Serves home a (sides x w o) begun
    → LeavesAt e home (sides x (Some p) o) (sides y (Some q) n) one count → Appends w v q
    → Leaves e home a (sides y v n) (begun ++ one ∷ []) count
leaves_more None home a x y p q w v o n begun one count none h k more = (
  serves_more home a (sides x w o) (sides y v n) begun one None h
      (handed_on home x y p q w v o n one None none k.0 more) refl,
  k.1,
)
leaves_more (Some end.Stopped) home a x y p q w v o n begun one count none h k more =
    serves_last home a (sides x w o) (sides y v n) begun one (Some close.Stopped) close.Stopped h
    (handed_on home x y p q w v o n one (Some close.Stopped) none k more) refl
leaves_more (Some end.Down) home a x y p q w v o n begun one count none h k more =
    serves_last home a (sides x w o) (sides y v n) begun one (Some close.Down) close.Down h
    (handed_on home x y p q w v o n one (Some close.Down) none k more) refl
leaves_more (Some end.Frames) home a x y p q w v o n begun one count none h k more = (
  serves_more home a (sides x w o) (sides y v n) begun one None h
      (handed_on home x y p q w v o n one None none k.0 more) refl,
  k.1,
)
leaves_more (Some end.NoMemory) home a x y p q w v o n begun one count none h k more =
    fails_last fault.NoMemory fault.NoMemory home a (sides x w o) (sides y v n) begun one refl h
    (failed_on home x y p q w v o n one none k more)
leaves_more _ home a x y p q w v o n begun one count none h k more = absurd k

-- an answer that was not written whole is one of a frame that was served
breaks_at : {V : Type 0} {way : Way V} (e : Option ConnectionEnd) (home : Home) (x y : Seen)
    (p q : List ℕ) (w v : Option (List ℕ)) (o n : Outside way) (one : Begun) (count : ℕ)
    → p ≡ [] → LeavesAt e home (sides x (Some p) o) (sides y (Some q) n) one count → q ≢ []
    → AppendsPart w v q → BreaksOff home (sides x w o) (sides y v n) one
breaks_at None home x y p q w v o n one count none k due part =
    broken_off home x y p q w v o n one None none k.0 due part
breaks_at (Some end.Stopped) home x y p q w v o n one count none k due part =
    broken_off home x y p q w v o n one (Some close.Stopped) none k due part
breaks_at (Some end.Down) home x y p q w v o n one count none k due part =
    broken_off home x y p q w v o n one (Some close.Down) none k due part
breaks_at (Some end.Frames) home x y p q w v o n one count none k due part =
    broken_off home x y p q w v o n one None none k.0 due part
breaks_at (Some end.NoMemory) home x y p q w v o n one count none k due part =
    absurd (due (k.2.silent ∙ ap (λ z. z ++ []) none))
breaks_at _ home x y p q w v o n one count none k due part = absurd k

pub leaves_cut : {V : Type 0} {way : Way V} (e : Option ConnectionEnd) (home : Home) (a : Sides way)
    (x y : Seen) (p q : List ℕ) (w v : Option (List ℕ)) (o n : Outside way) (begun : List Begun)
    (one : Begun) (count : ℕ) → p ≡ [] → Serves home a (sides x w o) begun
    → LeavesAt e home (sides x (Some p) o) (sides y (Some q) n) one count → q ≢ []
    → AppendsPart w v q → Fails fault.Write home a (sides y v n) (begun ++ one ∷ [])
leaves_cut e home a x y p q w v o n begun one count none h k due part =
    fails_last fault.Write fault.Write home a (sides x w o) (sides y v n) begun one refl h
    (breaks_at e home x y p q w v o n one count none k due part)

-- with the connection open, all frames so far are served
pub open_serves : {V : Type 0} {way : Way V} (e : Option ConnectionEnd) (home : Home)
    (a b : Sides way) (begun : List Begun) (count : ℕ) → e ≡ None → Leaves e home a b begun count
    → Serves home a b begun × (count < 64)
open_serves None home a b begun count none h = h
open_serves (Some e) home a b begun count none h = absurd cc

-- ---- a piece

-- the frames of the piece came to an end, or a fault is after them, or more is waited for
pub piece_of : {V : Type 0} {way : Way V} {may : Permission} (how result : Option ConnectionEnd)
    (fault : Option WireFault)
    (home : Home) (a b : Sides way) (stream : List ℕ) (given left : List Frame)
    (begun : List Begun) (before count : ℕ) (reader : Reader)
    → result ≡ or_broken how fault → (how ≡ None → IsKept fault) → fault ≡ reader.fault
    → Feeds stream given reader → IsBatch may how home a b given begun left before count
    → (begun : List Begun) × (rest : List ℕ)
    × IsPiece may result home a b stream begun rest before count reader
piece_of {V} {way} {may} (Some e) result fault home a b stream given left begun before count reader
    is
    kept found r h =
    subst (λ z. (begun : List Begun) × (rest : List ℕ)
    × IsPiece may z home a b stream begun rest before count reader) (sym is)
    (piece_ends (Some e) e home a b stream given left begun before count reader refl r h)
piece_of {V} {way} {may} None result (Some f) home a b stream given left begun before count reader
    is
    kept found r h =
    subst (λ z. (begun : List Begun) × (rest : List ℕ)
    × IsPiece may z home a b stream begun rest before count reader) (sym is)
    (piece_breaks None f (Some f) home a b stream given left begun before count reader refl refl
    found (kept refl) r h)
piece_of {V} {way} {may} None result None home a b stream given left begun before count reader is
    kept found r h =
    subst (λ z. (begun : List Begun) × (rest : List ℕ)
    × IsPiece may z home a b stream begun rest before count reader) (sym is)
    (piece_waits None None home a b stream given left begun before count reader refl refl found r h)

-- the piece itself ended the connection
pub piece_stops : {V : Type 0} {way : Way V} {may : Permission} (e : ConnectionEnd) (home : Home)
    (a : Sides way) (piece : List ℕ) (old new : Talk) (before : ℕ)
    → ReadsTo (Some e) piece old new → before < 64 → (begun : List Begun) × (rest : List ℕ)
    × IsPiece may (Some e) home a a (old.stream.held ++ piece) begun rest before before new.stream
piece_stops (end.Fault e) home a piece old new before h few = (
  [],
  old.stream.held ++ piece,
  record {
    begins = nothing_begun (old.stream.held ++ piece);
    allowed = tt;
    counted = omega arith;
    few = omega (arith, few);
    ends = (serves_none home a, few, h.0, h.1);
  },
)
piece_stops end.NoMemory home a piece old new before h few = (
  [],
  old.stream.held ++ piece,
  record {
    begins = nothing_begun (old.stream.held ++ piece);
    allowed = tt;
    counted = omega arith;
    few = omega (arith, few);
    ends = inl (serves_none home a, few);
  },
)
piece_stops _ home a piece old new before h few = absurd h
