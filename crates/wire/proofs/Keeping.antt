-- What a reader keeps of a stream.
use Rattle.std.proofs.Common.{◌≡◌, ℕ, zero, suc, get_or, ◌<◌, ◌≤◌, List, [], ◌∷◌, ◌++◌, length, inr}
use Rattle.std.proofs.Common.{drop, Option, Some, None, Result, Ok, Err, refl, sym, ap, subst, ◌∙◌}
use Rattle.std.{proofs.Common.append_assoc, specs.Prelude.IsSome, specs.Prelude.OnErr}
use Rattle.std.{proofs.Common.arith, specs.List.flat_map, proofs.lemmas.List.Concat.flat_map-cons}
use Rattle.wire.specs.declared.fault.WireFault.{WireFault, TheVariants.NoMemory}
use Rattle.wire.{specs.declared.frame.Frame.Frame, specs.Spelling.spelling, proofs.Faults.tells}
use Rattle.wire.specs.Stream.{Front, Waits, Begins, Breaks, front, IsBegun, Ends, IsOfStream}
use Rattle.wire.specs.Stream.{IsKept, Reader, broken, keeps, Feeds, RefusesFault, Refuses}
use Rattle.wire.specs.model.Steps.{IsTaken, ReadsOn}
use Rattle.wire.proofs.{Taking.IsBytes, Streams.front_takes, Faults.Tells, Finishing.waits_short}

-- a fault at the front is one of the stream
told_of_stream : (e : WireFault) (bytes : List ℕ) → Tells (Breaks e) bytes → IsOfStream e
told_of_stream NoMemory bytes t = absurd t
told_of_stream _ bytes t = tt

pub breaks_of_stream : (bytes : List ℕ) (e : WireFault) → front bytes ≡ Breaks e → IsOfStream e
breaks_of_stream bytes e at = told_of_stream e bytes
    (subst (λ (x : Front). Tells x bytes) at (tells bytes))

-- ---- what a reader is after a stream

pub nothing_waits : front [] ≡ Waits
unfolding front
nothing_waits = refl

held_waits : (at : Front) (rest : List ℕ) (reader : Reader) → front rest ≡ at → (IsBegun at → ⊥)
    → reader ≡ keeps at rest → front reader.held ≡ Waits
held_waits Waits rest reader is not k = ap (λ (r : Reader). front r.held) k ∙ is
held_waits (Begins f more) rest reader is not k = absurd (not tt)
held_waits (Breaks e) rest reader is not k = ap (λ (r : Reader). front r.held) k ∙ nothing_waits

pub waits_after : (stream : List ℕ) (frames : List Frame) (reader : Reader)
    → Feeds stream frames reader → front reader.held ≡ Waits
waits_after stream frames reader fed = held_waits (front fed.rest) fed.rest reader refl fed.ends
    fed.keeps

kept_of : (at : Front) (rest : List ℕ) → front rest ≡ at → IsKept (keeps at rest).fault
kept_of Waits rest is = tt
kept_of (Begins f more) rest is = tt
kept_of (Breaks e) rest is = breaks_of_stream rest e is

pub kept_after : (stream : List ℕ) (frames : List Frame) (reader : Reader)
    → Feeds stream frames reader → IsKept reader.fault
kept_after stream frames reader fed =
    subst (λ (r : Reader). IsKept r.fault) (sym fed.keeps) (kept_of (front fed.rest) fed.rest refl)

broken_of : (at : Front) (rest : List ℕ) → IsSome (keeps at rest).fault → (keeps at rest).held ≡ []
broken_of Waits rest some = absurd cc
broken_of (Begins f more) rest some = absurd cc
broken_of (Breaks e) rest some = refl

pub broken_after : (stream : List ℕ) (frames : List Frame) (reader : Reader)
    → Feeds stream frames reader → IsSome reader.fault → reader.held ≡ []
broken_after stream frames reader fed some =
    let is = fed.keeps in
    ap (λ (r : Reader). r.held) is ∙ broken_of (front fed.rest) fed.rest
    (subst (λ (r : Reader). IsSome r.fault) is some)

-- ---- one frame in front, and then the rest

pub read_from_one : (stream rest : List ℕ) (f : Frame) (after : List Frame) (reader : Reader)
    → IsBytes stream
    → front stream ≡ Begins f rest → ReadsOn rest (f ∷ []) after reader → Feeds stream after reader
read_from_one stream rest f after reader fits begins on =
    let s = front_takes stream f rest fits begins in
    let all : flat_map spelling (f ∷ on.frames) ≡ spelling f ++ flat_map spelling on.frames =
    flat_map-cons spelling f on.frames in
    let fed : Feeds stream (f ∷ on.frames) reader = record {
      rest = on.feeds.rest;
      whole = s.spelled ∙ ap (λ (x : List ℕ). spelling f ++ x) on.feeds.whole
          ∙ sym (append_assoc (spelling f) (flat_map spelling on.frames) on.feeds.rest)
          ∙ ap (λ (x : List ℕ). x ++ on.feeds.rest) (sym all);
      each = (s.fits, on.feeds.each);
      ends = on.feeds.ends;
      keeps = on.feeds.keeps;
    } in
    subst (λ (fs : List Frame). Feeds stream fs reader) (sym on.added) fed

-- ---- no frame at all

-- a call that answers a fault at once
broken_at : (at : Front) (rest : List ℕ) (reader : Reader) (e : WireFault) → reader ≡ keeps at rest
    → reader.fault ≡ Some e → (at ≡ Breaks e) × (reader ≡ broken e)
broken_at Waits rest reader e k some =
    let bad : None ≡ Some e = sym (ap (λ (r : Reader). r.fault) k) ∙ some in absurd cc
broken_at (Begins f more) rest reader e k some =
    let bad : None ≡ Some e = sym (ap (λ (r : Reader). r.fault) k) ∙ some in absurd cc
broken_at (Breaks x) rest reader e k some =
    let both : Some x ≡ Some e = sym (ap (λ (r : Reader). r.fault) k) ∙ some in
    let same : x ≡ e = cc in
    (ap (λ (y : WireFault). Breaks y) same, k ∙ ap (λ (y : WireFault). broken y) same)

of_stream : (e : WireFault) (piece : List ℕ) (old new : Reader) → IsOfStream e
    → RefusesFault e piece old new → Refuses e piece old new
of_stream NoMemory piece old new h r = absurd h
of_stream _ piece old new h r = r

pub refused_at_once : (piece : List ℕ) (old new : Reader) (frames : List Frame) (e : WireFault)
    → old.fault ≡ None → Feeds (old.held ++ piece) frames new → frames ≡ [] → new.fault ≡ Some e
    → Refuses e piece old new
refused_at_once piece old new frames e none fed empty some =
    let stream : old.held ++ piece ≡ fed.rest =
    fed.whole ∙ ap (λ (fs : List Frame). flat_map spelling fs ++ fed.rest) empty in
    let b = broken_at (front fed.rest) fed.rest new e fed.keeps some in
    let at : front (old.held ++ piece) ≡ Breaks e = ap front stream ∙ b.0 in
    of_stream e piece old new (breaks_of_stream (old.held ++ piece) e at) (inr (none, at, b.1))

-- the rest after the last whole frame fits the room
pub short_rest : (bytes : List ℕ) (before after : List Frame) (size : ℕ) (fault : Option WireFault)
    → IsTaken bytes before after size fault → fault ≡ None → length (drop size bytes) ≤ 300003
short_rest bytes before after size fault taken none =
    waits_short (drop size bytes) (subst
    (λ (x : Option WireFault). Ends x (front (drop size bytes))) none taken.ends)

pub on_err : {T E P : Type 0} (r : Result T E) → P → OnErr r P
on_err (Ok x) p = tt
on_err (Err e) p = p

-- bytes, and bytes after them
cons_bytes : (x : ℕ) (xs : List ℕ) → x < 256 → IsBytes xs → IsBytes (x ∷ xs)
cons_bytes x xs h k zero = h
cons_bytes x xs h k (suc i) = k i

pub bytes_append : (xs ys : List ℕ) → ((i : ℕ) → i < length xs → get_or xs i 0 < 256) → IsBytes ys
    → IsBytes (xs ++ ys)
bytes_append [] ys h k = k
bytes_append (x ∷ xs) ys h k =
    cons_bytes x (xs ++ ys) (h 0 (omega arith))
    (bytes_append xs ys (λ j lt. h (suc j) (omega (arith, lt))) k)
