-- A stream from the front: one more frame, and what is left.
use Rattle.std.proofs.Common.{◌≡◌, ℕ, ◌+◌, ◌≤◌, List, [], ◌∷◌, ◌++◌, length, drop, Option, Some}
use Rattle.std.proofs.Common.{None, refl, sym, ap, subst, ◌∙◌, append_assoc, arith, inl}
use Rattle.std.{specs.List.flat_map, specs.List.AllByRecursion, proofs.lemmas.Grind.flat_map-append}
use Rattle.std.proofs.lemmas.List.{drop-drop, append-nil, length-drop, Concat.flat_map-cons}
use Rattle.wire.specs.declared.fault.WireFault.{WireFault, TheVariants.NoMemory}
use Rattle.wire.specs.{declared.frame.Frame.Frame, Ranges.IsFrame, Spelling.spelling}
use Rattle.wire.specs.Stream.{Front, Begins, front, IsBegun, Ends, IsOfStream, IsKept, Reader}
use Rattle.wire.specs.Stream.{holding, broken, keeps, RefusesFault, Refuses}
use Rattle.wire.specs.model.Steps.{AreFirst, IsTaken, ReadsOn}
use Rattle.wire.proofs.Taking.{IsBytes, IsBytes-drop}
use Rattle.wire.proofs.Streams.{front_takes, front_again}

all_more : (fs : List Frame) (f : Frame) → AllByRecursion IsFrame fs → IsFrame f
    → AllByRecursion IsFrame (fs ++ f ∷ [])
all_more [] f h k = (k, tt)
all_more (g ∷ fs) f h k = (h.0, all_more fs f h.1 k)

pub first_more : (bytes : List ℕ) (frames : List Frame) (size : ℕ) (f : Frame) (more : ℕ)
    → IsBytes bytes → AreFirst bytes frames size
    → front (drop size bytes) ≡ Begins f (drop more (drop size bytes))
    → more ≤ length (drop size bytes) → AreFirst bytes (frames ++ f ∷ []) (size + more)
first_more bytes frames size f more fits first begun long =
    let s = front_takes (drop size bytes) f (drop more (drop size bytes))
    (IsBytes-drop size bytes fits) begun in
    let last : flat_map spelling (f ∷ []) ≡ spelling f = flat_map-cons spelling f []
    ∙ append-nil (spelling f) in
    let all : flat_map spelling (frames ++ f ∷ []) ≡ flat_map spelling frames ++ spelling f =
    flat_map-append spelling frames (f ∷ [])
    ∙ ap (λ (x : List ℕ). flat_map spelling frames ++ x) last in
    let rest : drop size bytes ≡ spelling f ++ drop (size + more) bytes = s.spelled
    ∙ ap (λ (x : List ℕ). spelling f ++ x) (drop-drop more size bytes) in
    record {
      within = omega (arith, first.within, long, length-drop size bytes);
      whole = first.whole ∙ ap (λ (x : List ℕ). flat_map spelling frames ++ x) rest
          ∙ sym (append_assoc (flat_map spelling frames) (spelling f) (drop (size + more) bytes))
          ∙ ap (λ (x : List ℕ). x ++ drop (size + more) bytes) (sym all);
      each = all_more frames f first.each s.fits;
    }

-- ---- what a call of a reader does

ends_is : (fault : Option WireFault) (at : Front) → Ends fault at → IsBegun at → ⊥
ends_is None at e h = subst (λ (x : Front). IsBegun x) e h
ends_is (Some x) at e h = subst (λ (y : Front). IsBegun y) e.0 h

abbrev pub kept : Option WireFault → List ℕ → Reader
kept None rest = holding rest
kept (Some e) rest = broken e

keeps_is : (fault : Option WireFault) (at : Front) (rest : List ℕ) → Ends fault at
    → kept fault rest ≡ keeps at rest
keeps_is None at rest e = ap (λ (x : Front). keeps x rest) (sym e)
keeps_is (Some x) at rest e = ap (λ (y : Front). keeps y rest) (sym e.0)

pub reads_on : (stream : List ℕ) (before after : List Frame) (size : ℕ) (fault : Option WireFault)
    → IsTaken stream before after size fault
    → ReadsOn stream before after (kept fault (drop size stream))
reads_on stream before after size fault taken = record {
  frames = taken.frames;
  added = taken.added;
  feeds = record {
    rest = drop size stream;
    whole = taken.first.whole;
    each = taken.first.each;
    ends = ends_is fault (front (drop size stream)) taken.ends;
    keeps = keeps_is fault (front (drop size stream)) (drop size stream) taken.ends;
  };
}

-- where a whole frame is after the first ones, one is at the front
pub first_begun : (bytes : List ℕ) (frames : List Frame) (size : ℕ) → AreFirst bytes frames size
    → IsBegun (front (drop size bytes)) → IsBegun (front bytes)
first_begun bytes [] size first begun =
    let same : bytes ≡ drop size bytes = first.whole in
    subst (λ (x : List ℕ). IsBegun (front x)) (sym same) begun
first_begun bytes (f ∷ fs) size first begun =
    let all : flat_map spelling (f ∷ fs) ≡ spelling f ++ flat_map spelling fs =
    flat_map-cons spelling f fs in
    let stream : bytes ≡ spelling f ++ (flat_map spelling fs ++ drop size bytes) =
    first.whole ∙ ap (λ (x : List ℕ). x ++ drop size bytes) all
    ∙ append_assoc (spelling f) (flat_map spelling fs) (drop size bytes) in
    let at : front bytes ≡ Begins f (flat_map spelling fs ++ drop size bytes) =
    ap front stream ∙ front_again f (flat_map spelling fs ++ drop size bytes) first.each.0 in
    subst (λ (x : Front). IsBegun x) (sym at) tt

refuses : (e : WireFault) (piece : List ℕ) (old new : Reader) → IsOfStream e
    → RefusesFault e piece old new → Refuses e piece old new
refuses NoMemory piece old new h r = absurd h
refuses _ piece old new h r = r

kept_is : (e : WireFault) (fault : Option WireFault) → IsKept fault → fault ≡ Some e → IsOfStream e
kept_is e None h k = absurd cc
kept_is e (Some x) h k = let same : x ≡ e = cc in subst (λ (y : WireFault). IsOfStream y) same h

-- the fault that is kept is answered again
pub answers_again : (e : WireFault) (piece : List ℕ) (old : Reader) → IsKept old.fault
    → old.fault ≡ Some e → Refuses e piece old old
answers_again e piece old h k = refuses e piece old old (kept_is e old.fault h k) (inl (k, refl))
