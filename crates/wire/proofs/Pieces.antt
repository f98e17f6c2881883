-- A stream in pieces: what was read so far, one more piece, and the one way to read a stream.
use Rattle.std.proofs.Common.{◌≡◌, ℕ, suc, ◌<◌, ◌≤◌, ltb, not, ◌∷◌, Ok, Err, sym, ap, ◌∙◌, inl, inr}
use Rattle.std.proofs.Common.{Bool, true, cond, List, [], ◌++◌, take, drop, Some, None, refl, arith}
use Rattle.std.proofs.Common.{false, length, Option, Result, subst, append_assoc, get_or, drop-cons}
use Rattle.std.specs.{List.flat_map, List.AllByRecursion, Int.w32, Int.from_be_bytes}
use Rattle.std.proofs.lemmas.{Bool.ltb-false, Bool.le-ltb, Grind.flat_map-append}
use Rattle.std.proofs.lemmas.List.{length-append, take-append-le, drop-append-le, take-append-drop}
use Rattle.std.proofs.lemmas.List.{take_all, Concat.flat_map-cons}
use Rattle.wire.specs.declared.{fault.WireFault.WireFault, frame.Frame.Frame}
use Rattle.wire.specs.declared.fault.WireFault.TheVariants.{BadLength, NoMemory}
use Rattle.wire.specs.{Ranges.IsFrame, Spelling.spelling, Stream.Refuses, Stream.Splits}
use Rattle.wire.specs.Reading.{between, frame_of}
use Rattle.wire.specs.Stream.{Front, Waits, Begins, Breaks, by_frame, by_length, front, IsBegun}
use Rattle.wire.specs.Stream.{Ends, IsOfStream, IsKept, Reader, holding, keeps, Feeds, RefusesFault}
use Rattle.wire.proofs.Streams.{prefix_free, front_again}

-- ---- a fault at the front stays there when bytes come

fails_more : (r : Result Frame WireFault) (x y : List ℕ) (e : WireFault) → by_frame r x ≡ Breaks e
    → by_frame r y ≡ Breaks e
fails_more (Ok f) x y e h = absurd cc
fails_more (Err g) x y e h = h

-- a test that let a fault through, or made it
waited : (b : Bool) (x : Front) (e : WireFault) → cond b Waits x ≡ Breaks e → (b ≡ false)
    × (x ≡ Breaks e)
waited true x e h = absurd cc
waited false x e h = (refl, h)

length_more : (b : Bool) (x y : Front) (e : WireFault) → (x ≡ Breaks e → y ≡ Breaks e)
    → cond b (Breaks BadLength) x ≡ Breaks e → cond b (Breaks BadLength) y ≡ Breaks e
length_more true x y e go h = h
length_more false x y e go h = go h

by_length_more : (n : ℕ) (x y : List ℕ) (e : WireFault) → by_length n x ≡ Breaks e
    → by_length n (x ++ y) ≡ Breaks e
by_length_more n x y e h =
    length_more (not (between 8 300000 n))
    (cond (ltb (length x) n) Waits (by_frame (frame_of (take n x)) (drop n x)))
    (cond (ltb (length (x ++ y)) n) Waits
    (by_frame (frame_of (take n (x ++ y))) (drop n (x ++ y)))) e (λ k.
    let w = waited (ltb (length x) n) (by_frame (frame_of (take n x)) (drop n x)) e k in
    let there : n ≤ length x = ltb-false _ _ w.0 in
    let long : ltb (length (x ++ y)) n ≡ false =
    le-ltb _ _ (omega (arith, there, length-append x y)) in
    let same : take n (x ++ y) ≡ take n x = take-append-le n x y there in
    let more : by_frame (frame_of (take n x)) (drop n (x ++ y)) ≡ Breaks e =
    fails_more (frame_of (take n x)) (drop n x) (drop n (x ++ y)) e w.1 in
    rw (long, same) more) h

pub breaks_more : (x y : List ℕ) (e : WireFault) → front x ≡ Breaks e → front (x ++ y) ≡ Breaks e
unfolding front
breaks_more x y e h =
    let w = waited (ltb (length x) 4) (by_length (from_be_bytes w32 (take 4 x)) (drop 4 x)) e h in
    let there : 4 ≤ length x = ltb-false _ _ w.0 in
    let long : ltb (length (x ++ y)) 4 ≡ false =
    le-ltb _ _ (omega (arith, there, length-append x y)) in
    let number : take 4 (x ++ y) ≡ take 4 x = take-append-le 4 x y there in
    let behind : drop 4 (x ++ y) ≡ drop 4 x ++ y = drop-append-le 4 x y there in
    let more : by_length (from_be_bytes w32 (take 4 x)) (drop 4 x ++ y) ≡ Breaks e =
    by_length_more (from_be_bytes w32 (take 4 x)) (drop 4 x) y e w.1 in
    rw (long, number, behind) more

-- ---- what was read so far

none_read : Feeds [] [] (holding [])
unfolding front
none_read = record { rest = []; whole = refl; each = tt; ends = λ h. h; keeps = refl }

pub nothing_read : (frames : List Frame) (reader : Reader) → frames ≡ [] → reader ≡ holding []
    → Feeds [] frames reader
nothing_read frames reader a b = subst (λ (r : Reader). Feeds [] frames r) (sym b)
    (subst (λ (fs : List Frame). Feeds [] fs (holding [])) (sym a) none_read)

-- a reader that keeps no fault holds what is left
held_at : (at : Front) (rest : List ℕ) (old : Reader) → old ≡ keeps at rest → old.fault ≡ None
    → old.held ≡ rest
held_at Waits rest old e none = ap (λ (r : Reader). r.held) e
held_at (Begins f more) rest old e none = ap (λ (r : Reader). r.held) e
held_at (Breaks x) rest old e none = let bad : Some x ≡ None = sym (ap (λ (r : Reader). r.fault) e)
    ∙ none in absurd cc

held_is : (s : List ℕ) (frames : List Frame) (old : Reader) → Feeds s frames old → old.fault ≡ None
    → s ≡ flat_map spelling frames ++ old.held
held_is s frames old fed none = fed.whole ∙ ap (λ (x : List ℕ). flat_map spelling frames ++ x)
    (sym (held_at (front fed.rest) fed.rest old fed.keeps none))

-- a kept fault is after the frames
fault_at : (at : Front) (rest : List ℕ) (old : Reader) (e : WireFault) → old ≡ keeps at rest
    → old.fault ≡ Some e → at ≡ Breaks e
fault_at Waits rest old e k some = let bad : None ≡ Some e = sym (ap (λ (r : Reader). r.fault) k)
    ∙ some in absurd cc
fault_at (Begins f more) rest old e k some = let bad : None ≡ Some e =
    sym (ap (λ (r : Reader). r.fault) k) ∙ some in absurd cc
fault_at (Breaks x) rest old e k some = let same : Some x ≡ Some e =
    sym (ap (λ (r : Reader). r.fault) k) ∙ some in let is : x ≡ e = cc in
    ap (λ (y : WireFault). Breaks y) is

none_at : (at : Front) (rest : List ℕ) (old : Reader) → (IsBegun at → ⊥) → old ≡ keeps at rest
    → old.fault ≡ None → at ≡ Waits
none_at Waits rest old not k none = refl
none_at (Begins f more) rest old not k none = absurd (not tt)
none_at (Breaks x) rest old not k none = let bad : Some x ≡ None =
    sym (ap (λ (r : Reader). r.fault) k) ∙ none in absurd cc

-- all pieces were fed
ends_at : (fault : Option WireFault) (at : Front) (rest : List ℕ) (old : Reader) → (IsBegun at → ⊥)
    → old ≡ keeps at rest → old.fault ≡ fault → IsKept fault → Ends fault at
ends_at None at rest old not k is kept = none_at at rest old not k is
ends_at (Some e) at rest old not k is kept = (fault_at at rest old e k is, kept)

pub all_read : (s : List ℕ) (frames : List Frame) (old : Reader) (fault : Option WireFault)
    → Feeds s frames old → fault ≡ old.fault → IsKept fault → Splits s frames fault
all_read s frames old fault fed is kept =
    record {
      rest = fed.rest;
      whole = fed.whole;
      each = fed.each;
      ends =
          ends_at fault (front fed.rest) fed.rest old fed.ends fed.keeps (sym is) kept;
    }

-- a piece was refused: the fault is after the frames, whatever comes
pub fault_found : (s piece later : List ℕ) (frames : List Frame) (old new : Reader) (e : WireFault)
    → Feeds s frames old → IsOfStream e → RefusesFault e piece old new
    → Splits (s ++ (piece ++ later)) frames (Some e)
fault_found s piece later frames old new e fed known (inl kept) =
    record {
      rest = fed.rest ++ (piece ++ later);
      whole = ap (λ (x : List ℕ). x ++ (piece ++ later)) fed.whole
          ∙ append_assoc (flat_map spelling frames) fed.rest (piece ++ later);
      each = fed.each;
      ends = (
        breaks_more fed.rest (piece ++ later) e
            (fault_at (front fed.rest) fed.rest old e fed.keeps kept.0),
        known,
      );
    }
fault_found s piece later frames old new e fed known (inr met) =
    record {
      rest = (old.held ++ piece) ++ later;
      whole = ap (λ (x : List ℕ). x ++ (piece ++ later)) (held_is s frames old fed met.0)
          ∙ append_assoc (flat_map spelling frames) old.held (piece ++ later)
          ∙ ap (λ (x : List ℕ). flat_map spelling frames ++ x)
          (sym (append_assoc old.held piece later));
      each = fed.each;
      ends = (breaks_more (old.held ++ piece) later e met.1, known);
    }

-- ---- a stream is read in one way

no_frame_ends : (fault : Option WireFault) (f : Frame) (more : List ℕ) (at : Front) → Ends fault at
    → at ≡ Begins f more → ⊥
no_frame_ends None f more at h e = let bad : Waits ≡ Begins f more = sym h ∙ e in absurd cc
no_frame_ends (Some x) f more at h e = let bad : Breaks x ≡ Begins f more = sym h.0 ∙ e in absurd cc

one_end : (a b : Option WireFault) (at : Front) → Ends a at → Ends b at → a ≡ b
one_end None None at h k = refl
one_end None (Some y) at h k = let bad : Waits ≡ Breaks y = sym h ∙ k.0 in absurd cc
one_end (Some x) None at h k = let bad : Breaks x ≡ Waits = sym h.0 ∙ k in absurd cc
one_end (Some x) (Some y) at h k = let same : Breaks x ≡ Breaks y = sym h.0 ∙ k.0 in
    let is : x ≡ y = cc in ap (λ (z : WireFault). Some z) is

one_way : (fs gs : List Frame) (x y : List ℕ) (a b : Option WireFault) → AllByRecursion IsFrame fs
    → AllByRecursion IsFrame gs → flat_map spelling fs ++ x ≡ flat_map spelling gs ++ y
    → Ends a (front x) → Ends b (front y) → (fs ≡ gs) × (a ≡ b)
one_way [] [] x y a b h k e p q =
    (refl, one_end a b (front x) p (subst (λ (z : List ℕ). Ends b (front z)) (sym e) q))
one_way [] (g ∷ gs) x y a b h k e p q =
    let first : x ≡ spelling g ++ (flat_map spelling gs ++ y) = e
    ∙ append_assoc (spelling g) (flat_map spelling gs) y in
    absurd (no_frame_ends a g (flat_map spelling gs ++ y) (front x) p
    (ap front first ∙ front_again g (flat_map spelling gs ++ y) k.0))
one_way (f ∷ fs) [] x y a b h k e p q =
    let first : y ≡ spelling f ++ (flat_map spelling fs ++ x) = sym e
    ∙ append_assoc (spelling f) (flat_map spelling fs) x in
    absurd (no_frame_ends b f (flat_map spelling fs ++ x) (front y) q
    (ap front first ∙ front_again f (flat_map spelling fs ++ x) h.0))
one_way (f ∷ fs) (g ∷ gs) x y a b h k e p q =
    let lined : spelling f ++ (flat_map spelling fs ++ x) ≡ spelling
    g ++ (flat_map spelling gs ++ y) = sym (append_assoc (spelling f) (flat_map spelling fs) x)
    ∙ e ∙ append_assoc (spelling g) (flat_map spelling gs) y in
    let first = prefix_free f g (flat_map spelling fs ++ x) (flat_map spelling gs ++ y) h.0 k.0
    lined in
    let rest = one_way fs gs x y a b h.1 k.1 first.1 p q in
    (ap (λ (z : Frame). z ∷ fs) first.0 ∙ ap (λ (z : List Frame). g ∷ z) rest.0, rest.1)

pub read_alike : (stream : List ℕ) (fs gs : List Frame) (a b : Option WireFault)
    → Splits stream fs a → Splits stream gs b → (fs ≡ gs) × (a ≡ b)
read_alike stream fs gs a b p q = one_way fs gs p.rest q.rest a b p.each q.each
    (sym p.whole ∙ q.whole) p.ends q.ends

-- ---- pieces of a list

-- the pieces in front of one, that one, and those after it
cut_at : {X : Type 0} (f : X → List ℕ) (ps : List X) (i : ℕ) (p : X) → i < length ps
    → p ≡ get_or ps i p → flat_map f ps ≡ flat_map f
    (take i ps) ++ (f p ++ flat_map f (drop (suc i) ps))
cut_at f ps i p lt is =
    let front : flat_map f (drop i ps) ≡ f (get_or ps i p) ++ flat_map f (drop (suc i) ps) =
    ap (flat_map f) (drop-cons ps i p lt) ∙ flat_map-cons f (get_or ps i p) (drop (suc i) ps) in
    let named : flat_map f (drop i ps) ≡ f p ++ flat_map f (drop (suc i) ps) = front
    ∙ ap (λ x. f x ++ flat_map f (drop (suc i) ps)) (sym is) in
    ap (flat_map f) (sym (take-append-drop i ps)) ∙ flat_map-append f (take i ps) (drop i ps)
    ∙ ap (λ (t : List ℕ). flat_map f (take i ps) ++ t) named

pub fault_in : {X : Type 0} (f : X → List ℕ) (ps : List X) (i : ℕ) (p : X) (piece : List ℕ)
    (frames : List Frame) (old new : Reader) (e : WireFault) → i < length ps → p ≡ get_or ps i p
    → piece ≡ f p
    → Feeds (flat_map f (take i ps)) frames old → (RefusesFault e piece old new × IsOfStream e)
    → Splits (flat_map f ps) frames (Some e)
fault_in f ps i p piece frames old new e lt is given fed refused =
    let found : Splits (flat_map f (take i ps) ++ (piece ++ flat_map f (drop (suc i) ps))) frames
    (Some e) = fault_found (flat_map f (take i ps)) piece (flat_map f (drop (suc i) ps)) frames
    old new e fed refused.1 refused.0 in
    let whole : flat_map f (take i ps) ++ (piece ++ flat_map f (drop (suc i) ps)) ≡ flat_map f ps =
    ap (λ (x : List ℕ). flat_map f (take i ps) ++ (x ++ flat_map f (drop (suc i) ps))) given
    ∙ sym (cut_at f ps i p lt is) in
    subst (λ (s : List ℕ). Splits s frames (Some e)) whole found

pub all_in : {X : Type 0} (f : X → List ℕ) (ps : List X) (i : ℕ) (frames : List Frame)
    (reader : Reader) (fault : Option WireFault) → length ps ≤ i
    → Feeds (flat_map f (take i ps)) frames reader → fault ≡ reader.fault → IsKept fault
    → Splits (flat_map f ps) frames fault
all_in f ps i frames reader fault le fed is kept =
    subst (λ (s : List ℕ). Splits s frames fault) (ap (flat_map f) (take_all i ps le))
    (all_read (flat_map f (take i ps)) frames reader fault fed is kept)

-- a refusal that is not want of memory
pub fault_known : (e : WireFault) (piece : List ℕ) (old new : Reader) → Refuses e piece old new
    → (e ≡ NoMemory → ⊥) → RefusesFault e piece old new × IsOfStream e
fault_known NoMemory piece old new r not = absurd (not refl)
fault_known _ piece old new r not = (r, tt)
