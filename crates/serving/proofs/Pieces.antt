-- Pieces of the stream, one after the other.
use Rattle.std.proofs.Common.{◌≡◌, inl, inr, refl, sym, ap, subst, ◌∙◌, ℕ, ◌+◌, ◌<◌, ◌≤◌, List, []}
use Rattle.std.proofs.Common.{◌∷◌, ◌++◌, length, length-append, Option, None, Some, arith}
use Rattle.std.proofs.{lemmas.List.append_assoc, KnownBytes.Consumes-nil, KnownBytes.Consumes-trans}
use Rattle.std.specs.{Io.KnownBytes.Consumes, List.flat_map, List.AllByRecursion}
use Rattle.wire.specs.declared.{fault.WireFault.WireFault, frame.Frame.Frame}
use Rattle.wire.specs.{Ranges.IsFrame, Spelling.spelling, Stream.Feeds, Stream.IsKept}
use Rattle.wire.specs.Stream.{Front, Waits, Begins, Breaks, front, keeps, IsBegun, Reader, holding}
use Rattle.store.specs.declared.home.Home.{Home}
use Rattle.serving.specs.{Making.Way, declared.permission.Permission.Permission}
use Rattle.serving.specs.declared.ends.ConnectionEnd.{ConnectionEnd}
use Rattle.serving.specs.Connection.{Begun, frames_of, AreBegun, AreUnder, Sides, Serves, IsOpen}
use Rattle.serving.specs.Connection.{EndsAt, IsConnection, Reads, failed_at}
use Rattle.serving.specs.model.Pieces.{EndsInFrames, EndsBatch, IsBatch, EndsPiece, IsPiece}
use Rattle.serving.proofs.Connecting.{bytes_then, serves_none, serves_then, ends_then}
use Rattle.serving.proofs.Connecting.{frames_of_both, under_both}
use Rattle.serving.specs.declared.ends.ConnectionEnd.TheVariants as end

-- what a reader that gave frames keeps
pub keeps_fault : (at : Front) (rest : List ℕ) (reader : Reader) (e : WireFault) → (IsBegun at → ⊥)
    → reader ≡ keeps at rest → reader.fault ≡ Some e → at ≡ Breaks e
keeps_fault Waits rest reader e other is h =
    let k : Some e ≡ None = sym h ∙ ap (λ (z : Reader). z.fault) is in absurd cc
keeps_fault (Begins f more) rest reader e other is h = absurd (other tt)
keeps_fault (Breaks d) rest reader e other is h =
    ap Breaks (some_of (sym (ap (λ (z : Reader). z.fault) is) ∙ h))
  where
    some_of : {d e : WireFault} → Some d ≡ Some e → d ≡ e
    some_of h = cc

pub keeps_none : (at : Front) (rest : List ℕ) (reader : Reader) → (IsBegun at → ⊥)
    → reader ≡ keeps at rest → reader.fault ≡ None → (reader ≡ holding rest) × (at ≡ Waits)
keeps_none Waits rest reader other is h = (is, refl)
keeps_none (Begins f more) rest reader other is h = absurd (other tt)
keeps_none (Breaks d) rest reader other is h =
    let k : None ≡ Some d = sym h ∙ ap (λ (z : Reader). z.fault) is in absurd cc

all_front : (xs ys : List Frame) → AllByRecursion IsFrame (xs ++ ys) → AllByRecursion IsFrame xs
all_front [] ys h = tt
all_front (x ∷ xs) ys h = (h.0, all_front xs ys h.1)

-- the frames begun, and then the others with what is behind them
begins_batch : (stream : List ℕ) (given left : List Frame) (begun : List Begun) (reader : Reader)
    (r : Feeds stream given reader) → given ≡ frames_of begun ++ left
    → AreBegun stream begun (flat_map spelling left ++ r.rest)
begins_batch stream given left begun reader r parts = record {
  whole =
      r.whole ∙ ap (λ z. flat_map spelling z ++ r.rest) parts
      ∙ ap (λ z. z ++ r.rest) (bytes_then (frames_of begun) left)
      ∙ append_assoc (flat_map spelling (frames_of begun)) (flat_map spelling left) r.rest;
  each = all_front (frames_of begun) left (subst (λ z. AllByRecursion IsFrame z) parts r.each);
}

ends_piece : {V : Type 0} {way : Way V} (e : ConnectionEnd) (home : Home) (a b : Sides way)
    (begun : List Begun) (rest : List ℕ) (count : ℕ) (new : Reader)
    → EndsInFrames e home a b begun count → EndsPiece (Some e) home a b begun rest count new
ends_piece end.NoMemory home a b begun rest count new h = inr h
ends_piece end.End home a b begun rest count new h = absurd h
ends_piece end.Reads home a b begun rest count new h = absurd h
ends_piece (end.Fault e) home a b begun rest count new h = absurd h
ends_piece end.Read home a b begun rest count new h = absurd h
ends_piece _ home a b begun rest count new h = h

-- a frame of the piece ended the connection
pub piece_ends : {V : Type 0} {way : Way V} {may : Permission} (how : Option ConnectionEnd)
    (e : ConnectionEnd) (home : Home) (a b : Sides way) (stream : List ℕ)
    (given left : List Frame) (begun : List Begun) (before count : ℕ) (reader : Reader)
    → how ≡ Some e → Feeds stream given reader → IsBatch may how home a b given begun left before
    count → (begun : List Begun) × (rest : List ℕ)
    × IsPiece may (Some e) home a b stream begun rest before count reader
piece_ends how e home a b stream given left begun before count reader is r h = (
  begun,
  flat_map spelling left ++ r.rest,
  record {
    allowed = h.allowed;
    begins = begins_batch stream given left begun reader r h.parts;
    counted = h.counted;
    few = h.few;
    ends =
        ends_piece e home a b begun _ count reader
        (subst (λ z. EndsBatch z home a b begun left count) is h.ends);
  },
)

-- all frames of the piece were served, and a fault is behind them
pub piece_breaks : {V : Type 0} {way : Way V} {may : Permission} (how : Option ConnectionEnd)
    (e : WireFault) (fault : Option WireFault) (home : Home)
    (a b : Sides way) (stream : List ℕ) (given left : List Frame) (begun : List Begun)
    (before count : ℕ) (reader : Reader)
    → how ≡ None → fault ≡ Some e → fault ≡ reader.fault → IsKept fault → Feeds stream given reader
    → IsBatch may how home a b given begun left before count
    → (begun : List Begun) × (rest : List ℕ)
    × IsPiece may (Some (end.Fault e)) home a b stream begun rest before count reader
piece_breaks how e fault home a b stream given left begun before count reader is some found kept r
    h =
    let ends : EndsBatch None home a b begun left count =
    subst (λ z. EndsBatch z home a b begun left count) is h.ends in (
      begun,
      r.rest,
      record {
        allowed = h.allowed;
        begins =
            subst (λ z. AreBegun stream begun (flat_map spelling z ++ r.rest)) ends.1
            (begins_batch stream given left begun reader r h.parts);
        counted = h.counted;
        few = h.few;
        ends = (
          ends.0,
          ends.2,
          keeps_fault (front r.rest) r.rest reader e r.ends r.keeps (sym found ∙ some),
          subst IsKept some kept,
        );
      },
    )

-- all frames of the piece were served, and what is left waits for more
pub piece_waits : {V : Type 0} {way : Way V} {may : Permission} (how : Option ConnectionEnd)
    (fault : Option WireFault) (home : Home) (a b : Sides way)
    (stream : List ℕ) (given left : List Frame) (begun : List Begun) (before count : ℕ)
    (reader : Reader) → how ≡ None → fault ≡ None → fault ≡ reader.fault → Feeds stream given reader
    → IsBatch may how home a b given begun left before count
    → (begun : List Begun) × (rest : List ℕ)
    × IsPiece may None home a b stream begun rest before count reader
piece_waits how fault home a b stream given left begun before count reader is none found r h =
    let ends : EndsBatch None home a b begun left count =
    subst (λ z. EndsBatch z home a b begun left count) is h.ends in
    let kept = keeps_none (front r.rest) r.rest reader r.ends r.keeps (sym found ∙ none) in (
      begun,
      r.rest,
      record {
        allowed = h.allowed;
        begins =
            subst (λ z. AreBegun stream begun (flat_map spelling z ++ r.rest)) ends.1
            (begins_batch stream given left begun reader r h.parts);
        counted = h.counted;
        few = h.few;
        ends = (ends.0, ends.2, kept.0, kept.1);
      },
    )

pub nothing_begun : (stream : List ℕ) → AreBegun stream [] stream
nothing_begun stream = record { whole = refl; each = tt }

-- ---- the connection

-- all frames of the bytes read so far are served, and the reader holds the rest
pub record SoFar {V : Type 0} {way : Way V} (may : Permission) (home : Home) (a b : Sides way)
    (bytes : List ℕ) (begun : List Begun) (rest : List ℕ)
    (read left : Option (List ℕ)) (count : ℕ) (reader : Reader) : Type 0 where
  pub consumed : Consumes read left bytes
  pub begins : AreBegun bytes begun rest
  pub allowed : AreUnder may begun
  pub counted : count ≡ length begun
  pub serves : Serves home a b begun
  pub few : count < 64
  pub holds : reader ≡ holding rest
  pub waits : front rest ≡ Waits

pub front_none : front [] ≡ Waits
unfolding front
front_none = refl

pub nothing_yet : {V : Type 0} {way : Way V} {may : Permission} (home : Home) (a : Sides way)
    (read : Option (List ℕ)) (reader : Reader)
    → reader ≡ holding [] → SoFar may home a a [] [] [] read read 0 reader
nothing_yet home a read reader h = record {
  consumed = Consumes-nil read;
  begins = nothing_begun [];
  allowed = tt;
  counted = refl;
  serves = serves_none home a;
  few = omega arith;
  holds = h;
  waits = front_none;
}

pub all_both : (xs ys : List Frame) → AllByRecursion IsFrame xs → AllByRecursion IsFrame ys
    → AllByRecursion IsFrame (xs ++ ys)
all_both [] ys h k = k
all_both (x ∷ xs) ys h k = (h.0, all_both xs ys h.1 k)

begins_then : (bytes piece rest last : List ℕ) (bs cs : List Begun) → AreBegun bytes bs rest
    → AreBegun (rest ++ piece) cs last → AreBegun (bytes ++ piece) (bs ++ cs) last
begins_then bytes piece rest last bs cs h k = record {
  whole =
      ap (λ z. z ++ piece) h.whole
      ∙ append_assoc (flat_map spelling (frames_of bs)) rest piece
      ∙ ap (λ z. flat_map spelling (frames_of bs) ++ z) k.whole
      ∙ sym
      (append_assoc (flat_map spelling (frames_of bs)) (flat_map spelling (frames_of cs)) last)
      ∙ ap (λ z. z ++ last) (sym (bytes_then (frames_of bs) (frames_of cs))
      ∙ ap (λ z. flat_map spelling z) (sym (frames_of_both bs cs)));
  each =
      subst (λ z. AllByRecursion IsFrame z) (sym (frames_of_both bs cs))
      (all_both (frames_of bs) (frames_of cs) h.each k.each);
}

counted_then : (bs cs : List Begun) (before count : ℕ) → before ≡ length bs
    → count ≡ before + length cs → count ≡ length (bs ++ cs)
counted_then bs cs before count h k = omega (arith, h, k, length-append bs cs)

-- the reader held the rest when it was fed
fed_rest : (reader : Reader) (rest piece stream : List ℕ) → reader ≡ holding rest
    → stream ≡ reader.held ++ piece → stream ≡ rest ++ piece
fed_rest reader rest piece stream h is = is ∙ ap (λ (z : Reader). z.held ++ piece) h

-- a piece more is served
pub so_far_more : {V : Type 0} {way : Way V} {may : Permission} (home : Home) (a m b : Sides way)
    (bytes piece rest last : List ℕ)
    (bs cs : List Begun) (read left later : Option (List ℕ)) (before count : ℕ) (old new : Reader)
    → SoFar may home a m bytes bs rest read left before old → Consumes left later piece
    → IsPiece may None home m b (old.held ++ piece) cs last before count new
    → SoFar may home a b (bytes ++ piece) (bs ++ cs) last read later count new
so_far_more home a m b bytes piece rest last bs cs read left later before count old new h more k =
    let begins =
    subst (λ z. AreBegun z cs last) (fed_rest old rest piece _ h.holds refl) k.begins in
    record {
      consumed = Consumes-trans read left later bytes piece h.consumed more;
      begins = begins_then bytes piece rest last bs cs h.begins begins;
      allowed = under_both _ bs cs h.allowed k.allowed;
      counted = counted_then bs cs before count h.counted k.counted;
      serves = serves_then home a m b bs cs h.serves k.ends.0;
      few = k.ends.1;
      holds = k.ends.2;
      waits = k.ends.3;
    }

few_of : (begun : List Begun) (count : ℕ) → count ≡ length begun → count < 64 → length begun < 64
few_of begun count h few = omega (arith, h, few)

-- with all frames served the connection is open
pub is_open : {V : Type 0} {way : Way V} {may : Permission} (home : Home) (a b : Sides way)
    (bytes rest : List ℕ) (bs : List Begun)
    (read left : Option (List ℕ)) (count : ℕ) (reader : Reader)
    → SoFar may home a b bytes bs rest read left count reader → IsOpen home a b bs
is_open home a b bytes rest bs read left count reader h =
    record { serves = h.serves; few = few_of bs count h.counted h.few }

-- a connection that ends where all frames read are served
pub stops_so_far : {V : Type 0} {way : Way V} {may : Permission} (e : ConnectionEnd) (home : Home)
    (a b : Sides way) (bytes rest : List ℕ) (bs : List Begun)
    (read left : Option (List ℕ)) (count : ℕ) (reads : Reads) (reader : Reader)
    → SoFar may home a b bytes bs rest read left count reader → reads.count ≤ 19200256
    → reads.failed ≡ failed_at e → EndsAt e home a b bs rest left reads.count
    → (bytes : List ℕ) × (begun : List Begun) × (rest : List ℕ)
    × IsConnection may (record { frames = count; end = e }) home a b bytes begun rest read left
    reads
stops_so_far e home a b bytes rest bs read left count reads reader h bounded failed ends = (
  bytes,
  bs,
  rest,
  record {
    consumed = h.consumed;
    begins = h.begins;
    allowed = h.allowed;
    counted = h.counted;
    few = omega (arith, h.counted, h.few);
    bounded = bounded;
    failed = failed;
    ends = ends;
  },
)

-- the end of a piece is one of the connection
ends_at : {V : Type 0} {way : Way V} (e : ConnectionEnd) (home : Home) (a m b : Sides way)
    (bs cs : List Begun) (rest : List ℕ) (left : Option (List ℕ)) (count reads : ℕ) (new : Reader)
    → Serves home a m bs → count ≡ length (bs ++ cs) → EndsPiece (Some e) home m b cs rest count new
    → EndsAt e home a b (bs ++ cs) rest left reads
ends_at end.Frames home a m b bs cs rest left count reads new h counted k =
    let t = ends_then end.Frames home a m b bs cs count h k in (t.0, sym counted ∙ t.1)
ends_at end.NoMemory home a m b bs cs rest left count reads new h counted (inl k) =
    inl (record {
      serves = serves_then home a m b bs cs h k.0;
      few = few_of (bs ++ cs) count counted k.1;
    })
ends_at end.NoMemory home a m b bs cs rest left count reads new h counted (inr k) =
    inr (ends_then end.NoMemory home a m b bs cs count h k)
ends_at (end.Fault e) home a m b bs cs rest left count reads new h counted k = (
  record {
    serves = serves_then home a m b bs cs h k.0;
    few = few_of (bs ++ cs) count counted k.1;
  },
  k.2,
  k.3,
)
ends_at end.End home a m b bs cs rest left count reads new h counted k = absurd k
ends_at end.Reads home a m b bs cs rest left count reads new h counted k = absurd k
ends_at end.Read home a m b bs cs rest left count reads new h counted k = absurd k
ends_at r home a m b bs cs rest left count reads new h counted k =
    ends_then r home a m b bs cs count h k

-- no piece ends in a failed read
none_failed : {V : Type 0} {way : Way V} (e : ConnectionEnd) (home : Home) (m b : Sides way)
    (cs : List Begun) (rest : List ℕ) (count : ℕ) (new : Reader)
    → EndsPiece (Some e) home m b cs rest count new → failed_at e ≡ 0
none_failed end.Read home m b cs rest count new k = absurd k
none_failed _ home m b cs rest count new k = refl

few_then : (bs cs : List Begun) (before count : ℕ) → before ≡ length bs → count ≡ before + length cs
    → count ≤ 64 → length (bs ++ cs) ≤ 64
few_then bs cs before count h k few = omega (arith, h, k, few, length-append bs cs)

-- a connection that a piece ends
pub stops_at_piece : {V : Type 0} {way : Way V} {may : Permission} (e : ConnectionEnd)
    (how : Option ConnectionEnd) (home : Home) (a m b : Sides way)
    (bytes piece rest last : List ℕ) (bs cs : List Begun) (read left later : Option (List ℕ))
    (before count : ℕ) (reads : Reads) (old new : Reader)
    → how ≡ Some e → SoFar may home a m bytes bs rest read left before old → Consumes left later
    piece → IsPiece may how home m b (old.held ++ piece) cs last before count new
    → reads.count ≤ 19200256 → reads.failed ≡ 0
    → (bytes : List ℕ) × (begun : List Begun) × (rest : List ℕ)
    × IsConnection may (record { frames = count; end = e }) home a b bytes begun rest read later
    reads
stops_at_piece e how home a m b bytes piece rest last bs cs read left later before count reads old
    new is h more k bounded whole =
    let begins =
    subst (λ z. AreBegun z cs last) (fed_rest old rest piece _ h.holds refl) k.begins in
    let here = subst (λ z. EndsPiece z home m b cs last count new) is k.ends in
    let counted = counted_then bs cs before count h.counted k.counted in (
      bytes ++ piece,
      bs ++ cs,
      last,
      record {
        consumed = Consumes-trans read left later bytes piece h.consumed more;
        begins = begins_then bytes piece rest last bs cs h.begins begins;
        allowed = under_both _ bs cs h.allowed k.allowed;
        counted = counted;
        few = few_then bs cs before count h.counted k.counted k.few;
        bounded = bounded;
        failed = whole ∙ sym (none_failed e home m b cs last count new here);
        ends = ends_at e home a m b bs cs last later count reads.count new h.serves counted here;
      },
    )
