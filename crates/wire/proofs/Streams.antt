-- The front of a stream: a frame begins it exactly where its spelling does.
use Rattle.std.proofs.Common.{◌≡◌, ℕ, ◌≤◌, Bool, true, false, cond, ltb, not, List, ◌++◌, length}
use Rattle.std.proofs.Common.{take, drop, Option, Some, None, Result, Ok, Err, refl, sym, ap, subst}
use Rattle.std.proofs.Common.{◌∙◌, append_assoc, arith}
use Rattle.std.specs.Int.{w32, to_be_bytes, from_be_bytes}
use Rattle.std.proofs.lemmas.Bool.{ltb-false, le-ltb}
use Rattle.std.proofs.lemmas.List.{take_at, drop_at, take-append-drop, length-append, length-take}
use Rattle.acceptor.specs.declared.message.Report.{Report}
use Rattle.wire.specs.declared.fault.WireFault.{WireFault, TheVariants.BadLength}
use Rattle.wire.specs.{declared.frame.Frame.Frame, Ranges.IsBody, Reading.between, Reading.frame_of}
use Rattle.wire.specs.declared.values.{CommandState.CommandState, Version.Version}
use Rattle.wire.specs.declared.frame.FrameBody.{FrameBody, TheVariants.SheetText}
use Rattle.wire.specs.declared.frame.FrameBody.TheVariants.{Promise, Accept, Decided, Submit, Told}
use Rattle.wire.{specs.Ranges.IsReport, proofs.Whole.frame_takes, proofs.Whole.frame_again}
use Rattle.wire.{specs.Ranges.IsFrame, proofs.FieldLaws.between_is, proofs.FieldLaws.between_holds}
use Rattle.wire.specs.Spelling.{report_bytes, state_bytes, body, inside, spelling}
use Rattle.wire.specs.Stream.{Front, Waits, Begins, Breaks, by_frame, by_length, front}
use Rattle.wire.proofs.Taking.{IsBytes, IsBytes-take, IsBytes-drop, wide32}
use Rattle.wire.proofs.{Runs.run_short, LogRuns.log_short, Standings.standing_short}
use Rattle.wire.specs.declared.values.CommandState.TheVariants as states
use Rattle.wire.specs.declared.frame.FrameBody.TheVariants as variant

-- ---- lengths

report_short : (vote : Option Report) → IsReport vote → length (report_bytes vote) ≤ 616
report_short None h = omega arith
report_short (Some r) h = omega (arith, h.1.1)

state_short : (s : CommandState) → length (state_bytes s) ≤ 6
state_short states.Unknown = omega arith
state_short _ = omega arith

body_short : (v : Version) (w : FrameBody) → IsBody v w → length (body v w) ≤ 299992
body_short v (Promise b pos vote) h = omega (arith, report_short vote h.2)
body_short v (Accept b pos e) h = omega (arith, h.2.1)
body_short v (Decided pos entries) h = run_short v pos entries h
body_short v (Submit e) h = omega (arith, h.1)
body_short v (Told id s) h = omega (arith, state_short s)
body_short v (SheetText bytes) h = h
body_short v (variant.Standing s) h = standing_short v s h.1
body_short v (variant.Entries position len entries) h = log_short position len entries h.1
body_short v _ h = omega arith

inside_length : (f : Frame) → IsFrame f → (8 ≤ length (inside f)) × (length (inside f) ≤ 300000)
inside_length f fits =
    let short : length (body f.version f.what) ≤ 299992 =
    body_short f.version f.what fits.body in
    (omega arith, omega (arith, short))

-- ---- what begins a stream

stops : (b : Bool) (x y : Front) (f : Frame) (rest : List ℕ) → cond b x y ≡ Begins f rest
    → ((x ≡ Begins f rest → ⊥)) → (b ≡ false) × (y ≡ Begins f rest)
stops true x y f rest e not_x = absurd (not_x e)
stops false x y f rest e not_x = (refl, e)

waits_is : (f : Frame) (rest : List ℕ) → Waits ≡ Begins f rest → ⊥
waits_is f rest e = absurd cc

breaks_is : (x : WireFault) (f : Frame) (rest : List ℕ) → Breaks x ≡ Begins f rest → ⊥
breaks_is x f rest e = absurd cc

not_false : (b : Bool) → not b ≡ false → b ≡ true
not_false true e = refl
not_false false e = absurd cc

by_frame_is : (r : Result Frame WireFault) (rest : List ℕ) (f : Frame) (more : List ℕ)
    → by_frame r rest ≡ Begins f more → (r ≡ Ok f) × (rest ≡ more)
by_frame_is (Ok g) rest f more e = let same : g ≡ f = cc in
    (ap (λ (x : Frame). let r : Result Frame WireFault = Ok x in r) same, cc)
by_frame_is (Err x) rest f more e = absurd cc

-- a frame is at the front: its bytes, and those after it
pub record IsBegun (bytes : List ℕ) (f : Frame) (rest : List ℕ) : Type 0 where
  pub fits : IsFrame f
  pub spelled : bytes ≡ spelling f ++ rest
  pub are_bytes : IsBytes rest

pub front_takes : (bytes : List ℕ) (f : Frame) (rest : List ℕ) → IsBytes bytes
    → front bytes ≡ Begins f rest → IsBegun bytes f rest
unfolding front
front_takes bytes f rest fits e =
    let n : ℕ = from_be_bytes w32 (take 4 bytes) in
    let behind : List ℕ = drop 4 bytes in
    let a = stops (ltb (length bytes) 4) Waits (by_length n behind) f rest e (waits_is f rest) in
    let b = stops (not (between 8 300000 n)) (Breaks BadLength)
    (cond (ltb (length behind) n) Waits (by_frame (frame_of (take n behind)) (drop n behind))) f
    rest a.1 (breaks_is BadLength f rest) in
    let c = stops (ltb (length behind) n) Waits
    (by_frame (frame_of (take n behind)) (drop n behind)) f rest b.1 (waits_is f rest) in
    let d = by_frame_is (frame_of (take n behind)) (drop n behind) f rest c.1 in
    let size = between_is 8 300000 n (not_false _ b.0) in
    let four : 4 ≤ length bytes = ltb-false _ _ a.0 in
    let long : n ≤ length behind = ltb-false _ _ c.0 in
    let behind_fit : IsBytes behind = IsBytes-drop 4 bytes fits in
    let len : length (take n behind) ≡ n = omega (arith, length-take n behind) in
    let t = frame_takes (take n behind) f (IsBytes-take n behind behind_fit)
    (omega (arith, len, size.1)) d.0 in
    let head : to_be_bytes w32 n ≡ take 4 bytes =
    wide32.back (take 4 bytes) (omega (arith, length-take 4 bytes)) (IsBytes-take 4 bytes fits) in
    let number : n ≡ length (inside f) = sym len ∙ ap (λ (x : List ℕ). length x) t.spelled in
    let spelled : bytes ≡ (to_be_bytes w32 n ++ inside f) ++ rest =
    sym (take-append-drop 4 bytes) ∙ ap (λ (x : List ℕ). x ++ behind) (sym head)
    ∙ ap (λ (x : List ℕ). to_be_bytes w32 n ++ x) (sym (take-append-drop n behind)
    ∙ ap (λ (x : List ℕ). x ++ drop n behind) t.spelled ∙ ap (λ (x : List ℕ). inside f ++ x) d.1)
    ∙ sym (append_assoc (to_be_bytes w32 n) (inside f) rest) in
    record {
      fits = t.fits;
      spelled = spelled ∙ ap (λ (k : ℕ). (to_be_bytes w32 k ++ inside f) ++ rest) number;
      are_bytes = subst (λ (x : List ℕ). IsBytes x) d.1 (IsBytes-drop n behind behind_fit);
    }

begun : (h : List ℕ) (n : ℕ) (bytes rest : List ℕ) (f : Frame) → length h ≡ 4
    → from_be_bytes w32 h ≡ n → n ≡ length bytes → 8 ≤ n → n ≤ 300000 → frame_of bytes ≡ Ok f
    → front (h ++ (bytes ++ rest)) ≡ Begins f rest
unfolding front
begun h n bytes rest f head number len low high read =
    let four : ltb (length (h ++ (bytes ++ rest))) 4 ≡ false =
    le-ltb _ _ (omega (arith, length-append h (bytes ++ rest))) in
    let long : ltb (length (bytes ++ rest)) n ≡ false =
    le-ltb _ _ (omega (arith, length-append bytes rest, len)) in
    rw (
      four,
      take_at h (bytes ++ rest) 4 head,
      drop_at h (bytes ++ rest) 4 head,
      number,
      between_holds 8 300000 n low high,
      long,
      take_at bytes rest n (sym len),
      drop_at bytes rest
          n (sym len),
      read,
    ) refl

pub front_again : (f : Frame) (rest : List ℕ) → IsFrame f → front (spelling f ++ rest) ≡ Begins f
    rest
front_again f rest fits =
    let size = inside_length f fits in
    ap front (append_assoc (to_be_bytes w32 (length (inside f))) (inside f) rest)
    ∙ begun (to_be_bytes w32 (length (inside f))) (length (inside f)) (inside f) rest f refl
    (wide32.again (length (inside f)) (omega (arith, size.1))) refl size.0 size.1
    (frame_again f fits)

begins_is : (f g : Frame) (x y : List ℕ) → Begins f x ≡ Begins g y → (f ≡ g) × (x ≡ y)
begins_is f g x y e = (cc, cc)

-- no spelling begins another
pub prefix_free : (f g : Frame) (x y : List ℕ) → IsFrame f → IsFrame g
    → spelling f ++ x ≡ spelling g ++ y → (f ≡ g) × (x ≡ y)
prefix_free f g x y a b e = begins_is f g x y (sym (front_again f x a) ∙ ap front e
    ∙ front_again g y b)

-- a frame fits the four bytes of its length
pub inside_fits : (f : Frame) → IsFrame f → length (inside f) ≤ 300000
inside_fits f fits = (inside_length f fits).1
