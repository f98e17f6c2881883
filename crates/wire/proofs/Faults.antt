-- Which fault is at the front of bytes.
use Rattle.std.proofs.Common.{◌≡◌, ℕ, ◌+◌, ◌<◌, ◌≤◌, Bool, true, false, cond, ltb, not, List, []}
use Rattle.std.proofs.Common.{◌∷◌, length, get_or, take, drop, Option, Some, None, Result, Ok, Err}
use Rattle.std.proofs.Common.{refl, sym, ap, subst, ◌∙◌, arith, inl, inr}
use Rattle.std.specs.Int.{w32, from_be_bytes}
use Rattle.std.proofs.lemmas.Bool.{ltb-true, ltb-false}
use Rattle.std.proofs.lemmas.List.{length-drop, length-take, get_or-take, get_or-drop}
use Rattle.wire.specs.declared.fault.WireFault.{WireFault, TheVariants.NoMemory}
use Rattle.wire.specs.declared.fault.WireFault.TheVariants.{BadLength, BadVersion, BadKind, BadBody}
use Rattle.wire.specs.declared.frame.{Frame.Frame, FrameBody.FrameBody}
use Rattle.wire.specs.{declared.values.Version.Version, Ranges.way_of, Reading.frame_of}
use Rattle.wire.specs.declared.values.Version.TheVariants.{One, Two, Three, Four, Five}
use Rattle.wire.{specs.Numbers.versions, specs.Numbers.version_number, proofs.Streams.front_again}
use Rattle.wire.proofs.{Sequences.numbered_is, Taking.some_is, Whole.version_again}
use Rattle.wire.specs.Laws.{AreBytes, IsVersion, length_at, IsLength, IsWhole, BeginsWithFrame}
use Rattle.wire.specs.Laws.{HasKind, LacksKind, IsFirstFault, IsFaultWhereFirst}
use Rattle.wire.specs.Reading.{between, what_of, is_kind, goes, frame_from, frame_in, version_of}
use Rattle.wire.specs.Stream.{Front, Waits, Begins, Breaks, by_frame, by_length, front}
use Rattle.wire.proofs.{FieldLaws.between_is, FieldLaws.between_holds, Streams.front_takes}

-- ---- the bytes after a length: the version and the kind that a fault, or a frame, shows

abbrev Shows : Result Frame WireFault → ℕ → ℕ → Type 0
Shows (Ok f) version kind = HasKind version kind
Shows (Err BadLength) version kind = ⊥
Shows (Err BadVersion) version kind = IsVersion version → ⊥
Shows (Err BadKind) version kind = LacksKind version kind
Shows (Err BadBody) version kind = HasKind version kind
Shows (Err NoMemory) version kind = ⊥

from_shows : (v : Version) (hall from to version kind : ℕ) (o : Option FrameBody)
    → version ≡ version_number v → is_kind v kind ≡ true
    → Shows (frame_from v hall from to o) version kind
from_shows v hall from to version kind None is k = (v, is, k)
from_shows v hall from to version kind (Some w) is k = go (goes (way_of w) from to) where
  go : (b : Bool) → Shows (cond b
      (Ok (record { version = v; hall = hall; from = from; to = to; what = w }))
      (Err BadBody)) version kind
  go true = (v, is, k)
  go false = (v, is, k)

kind_shows : (v : Version) (version kind : ℕ) (r : Result Frame WireFault)
    → version ≡ version_number v → (is_kind v kind ≡ true → Shows r version kind) → (b : Bool)
    → is_kind v kind ≡ b → Shows (cond (not b) (Err BadKind) r) version kind
kind_shows v version kind r is later true e = later e
kind_shows v version kind r is later false e = (v, is, e)

no_version : (n : ℕ) → version_of n ≡ None → IsVersion n → ⊥
no_version n e (inl one) = let bad : Some One ≡ None =
    subst (λ (k : ℕ). version_of k ≡ None) one e in absurd cc
no_version n e (inr (inl two)) = let bad : Some Two ≡ None =
    subst (λ (k : ℕ). version_of k ≡ None) two e in absurd cc
no_version n e (inr (inr (inl three))) = let bad : Some Three ≡ None =
    subst (λ (k : ℕ). version_of k ≡ None) three e in absurd cc
no_version n e (inr (inr (inr (inl four)))) = let bad : Some Four ≡ None =
    subst (λ (k : ℕ). version_of k ≡ None) four e in absurd cc
no_version n e (inr (inr (inr (inr five)))) = let bad : Some Five ≡ None =
    subst (λ (k : ℕ). version_of k ≡ None) five e in absurd cc

version_shows : (o : Option Version) (version hall from to kind : ℕ) (bytes : List ℕ)
    → version_of version ≡ o → Shows (frame_in o hall from to kind bytes) version kind
version_shows None version hall from to kind bytes is = no_version version is
version_shows (Some v) version hall from to kind bytes is =
    let number : version ≡ version_number v =
    sym (numbered_is version_number versions version v is) in
    kind_shows v version kind (frame_from v hall from to (what_of v kind bytes)) number
    (from_shows v hall from to version kind (what_of v kind bytes) number) (is_kind v kind) refl

-- a number that is that of a version is one of 1 to 5
is_version : (n : ℕ) (v : Version) → n ≡ version_number v → IsVersion n
is_version n One e = inl e
is_version n Two e = inr (inl e)
is_version n Three e = inr (inr (inl e))
is_version n Four e = inr (inr (inr (inl e)))
is_version n Five e = inr (inr (inr (inr e)))

has_version : (n kind : ℕ) → HasKind n kind → IsVersion n
has_version n kind has = is_version n has.0 has.1

lacks_version : (n kind : ℕ) → LacksKind n kind → IsVersion n
lacks_version n kind lacks = is_version n lacks.0 lacks.1

-- versions with one number are one
same_version : (u v : Version) → version_number u ≡ version_number v → u ≡ v
same_version u v e = some_is u v (sym (version_again u) ∙ ap version_of e ∙ version_again v)

true_not_false : (b : Bool) → b ≡ true → b ≡ false → ⊥
true_not_false b t f = let bad : true ≡ false = sym t ∙ f in absurd cc

not_both : (n kind : ℕ) → HasKind n kind → LacksKind n kind → ⊥
not_both n kind has lacks =
    let same : has.0 ≡ lacks.0 = same_version has.0 lacks.0 (sym has.1 ∙ lacks.1) in
    true_not_false (is_kind lacks.0 kind)
    (subst (λ (v : Version). is_kind v kind ≡ true) same has.2) lacks.2

frame_shows : (bytes : List ℕ) → 8 ≤ length bytes → Shows (frame_of bytes) (get_or bytes 0 0)
    (get_or bytes 7 0)
unfolding frame_of
frame_shows (version ∷ a ∷ b ∷ c ∷ d ∷ from ∷ to ∷ kind ∷ bytes) le =
    version_shows (version_of version) version (from_be_bytes w32 (a ∷ b ∷ c ∷ d ∷ [])) from to
    kind bytes refl
frame_shows _ le = absurd (omega (arith, le))

-- ---- what the front says of bytes

abbrev pub Tells : Front → List ℕ → Type 0
Tells Waits bytes = (4 ≤ length bytes → IsLength (length_at bytes)
    × (length bytes < 4 + length_at bytes))
Tells (Begins f rest) bytes = IsWhole bytes × HasKind (get_or bytes 4 0) (get_or bytes 11 0)
Tells (Breaks BadLength) bytes = (4 ≤ length bytes) × (IsLength (length_at bytes) → ⊥)
Tells (Breaks BadVersion) bytes = IsWhole bytes × (IsVersion (get_or bytes 4 0) → ⊥)
Tells (Breaks BadKind) bytes = IsWhole bytes × LacksKind (get_or bytes 4 0) (get_or bytes 11 0)
Tells (Breaks BadBody) bytes = IsWhole bytes × HasKind (get_or bytes 4 0) (get_or bytes 11 0)
Tells (Breaks NoMemory) bytes = ⊥

by_frame_tells : (r : Result Frame WireFault) (rest bytes : List ℕ) → IsWhole bytes
    → Shows r (get_or bytes 4 0) (get_or bytes 11 0) → Tells (by_frame r rest) bytes
by_frame_tells (Ok f) rest bytes whole s = (whole, s)
by_frame_tells (Err BadLength) rest bytes whole s = absurd s
by_frame_tells (Err BadVersion) rest bytes whole s = (whole, s)
by_frame_tells (Err BadKind) rest bytes whole s = (whole, s)
by_frame_tells (Err BadBody) rest bytes whole s = (whole, s)
by_frame_tells (Err NoMemory) rest bytes whole s = absurd s

-- a byte after the length
behind_at : (bytes : List ℕ) (n i : ℕ) → i < n → get_or (take n (drop 4 bytes)) i 0 ≡ get_or bytes
    (4 + i) 0
behind_at bytes n i lt = get_or-take n (drop 4 bytes) i 0 lt ∙ get_or-drop 4 bytes i 0

all_there : (bytes : List ℕ) (n : ℕ) → 4 ≤ length bytes → n ≤ length (drop 4 bytes)
    → 4 + n ≤ length bytes
all_there bytes n four le = omega (arith, four, le, length-drop 4 bytes)

not_there : (bytes : List ℕ) (n : ℕ) → 4 ≤ length bytes → length (drop 4 bytes) < n
    → length bytes < 4 + n
not_there bytes n four lt = omega (arith, four, lt, length-drop 4 bytes)

-- a frame whose length is n, if all of it is there
size_tells : (bytes : List ℕ) (n : ℕ) → IsLength n → (n ≤ length (drop 4 bytes) → IsWhole bytes)
    → (length (drop 4 bytes) < n → Tells Waits bytes) → (b : Bool)
    → ltb (length (drop 4 bytes)) n ≡ b
    → Tells (cond b Waits (by_frame (frame_of (take n (drop 4 bytes))) (drop n (drop 4 bytes))))
    bytes
size_tells bytes n range whole waits true e = waits (ltb-true _ _ e)
size_tells bytes n range whole waits false e =
    let there : n ≤ length (drop 4 bytes) = ltb-false _ _ e in
    let low : 8 ≤ n = range.0 in
    let long : 8 ≤ length (take n (drop 4 bytes)) =
    omega (arith, length-take n (drop 4 bytes), there, low) in
    let shows : Shows (frame_of (take n (drop 4 bytes))) (get_or (take n (drop 4 bytes)) 0 0)
    (get_or (take n (drop 4 bytes)) 7 0) = frame_shows (take n (drop 4 bytes)) long in
    let v : get_or (take n (drop 4 bytes)) 0 0 ≡ get_or bytes 4 0 =
    behind_at bytes n 0 (omega (arith, low)) in
    let k : get_or (take n (drop 4 bytes)) 7 0 ≡ get_or bytes 11 0 =
    behind_at bytes n 7 (omega (arith, low)) in
    by_frame_tells (frame_of (take n (drop 4 bytes))) (drop n (drop 4 bytes)) bytes (whole there)
    (subst (λ (x : ℕ). Shows (frame_of (take n (drop 4 bytes))) x (get_or bytes 11 0)) v
    (subst (λ (x : ℕ). Shows (frame_of (take n (drop 4 bytes)))
    (get_or (take n (drop 4 bytes)) 0 0) x) k shows))

range_tells : (bytes : List ℕ) (n : ℕ) → 4 ≤ length bytes → n ≡ length_at bytes → (b : Bool)
    → between 8 300000 n ≡ b → Tells (cond (not b) (Breaks BadLength)
    (cond (ltb (length (drop 4 bytes)) n) Waits
    (by_frame (frame_of (take n (drop 4 bytes))) (drop n (drop 4 bytes))))) bytes
range_tells bytes n four is true e =
    let range : IsLength n = between_is 8 300000 n e in
    let known : IsLength (length_at bytes) = subst (λ (x : ℕ). IsLength x) is range in
    size_tells bytes n range (λ le. record {
      counted = known;
      there = subst (λ (x : ℕ). 4 + x ≤ length bytes) is
          (all_there bytes n four le);
    })
    (λ lt. λ _. (known, subst (λ (x : ℕ). length bytes < 4 + x) is (not_there bytes n four lt)))
    (ltb (length (drop 4 bytes)) n) refl
range_tells bytes n four is false e = (
  four,
  λ range.
      let back : IsLength n = subst (λ (x : ℕ). IsLength x) (sym is) range in
      let both : true ≡ false = sym (between_holds 8 300000 n back.0 back.1) ∙ e in
      absurd cc,
)

length_tells : (bytes : List ℕ) → 4 ≤ length bytes
    → Tells (by_length (length_at bytes) (drop 4 bytes)) bytes
length_tells bytes four = range_tells bytes (length_at bytes) four refl
    (between 8 300000 (length_at bytes)) refl

pub tells : (bytes : List ℕ) → Tells (front bytes) bytes
unfolding front
tells bytes = go (ltb (length bytes) 4) refl where
  go : (b : Bool) → ltb (length bytes) 4 ≡ b
      → Tells (cond b Waits (by_length (length_at bytes) (drop 4 bytes))) bytes
  go true e = λ four. absurd (omega (arith, four, ltb-true _ _ e))
  go false e = length_tells bytes (ltb-false _ _ e)

-- ---- the fault at the front, and the first fault

no_frame : (bytes : List ℕ) (e : WireFault) → front bytes ≡ Breaks e → BeginsWithFrame bytes → ⊥
no_frame bytes e b has =
    let begins : Begins has.0 has.1 ≡ Breaks e =
    sym (ap front has.3 ∙ front_again has.0 has.1 has.2) ∙ b in
    absurd cc

first_is : (bytes : List ℕ) (e : WireFault) → Tells (Breaks e) bytes → (BeginsWithFrame bytes → ⊥)
    → IsFirstFault e bytes
first_is bytes BadBody t none = (t.0, t.1, none)
first_is bytes _ t none = t

breaks_first : (bytes : List ℕ) (e : WireFault) → front bytes ≡ Breaks e → IsFirstFault e bytes
breaks_first bytes e b = first_is bytes e (subst (λ (x : Front). Tells x bytes) b (tells bytes))
    (no_frame bytes e b)

-- one fault at most is the first
one_first : (bytes : List ℕ) (a b : WireFault) → IsFirstFault a bytes → IsFirstFault b bytes → a ≡ b
one_first bytes BadLength BadLength p q = refl
one_first bytes BadLength BadVersion p q = absurd (p.1 q.0.counted)
one_first bytes BadLength BadKind p q = absurd (p.1 q.0.counted)
one_first bytes BadLength BadBody p q = absurd (p.1 q.0.counted)
one_first bytes BadLength NoMemory p q = absurd q
one_first bytes BadVersion BadLength p q = absurd (q.1 p.0.counted)
one_first bytes BadVersion BadVersion p q = refl
one_first bytes BadVersion BadKind p q = absurd (p.1 (lacks_version _ _ q.1))
one_first bytes BadVersion BadBody p q = absurd (p.1 (has_version _ _ q.1))
one_first bytes BadVersion NoMemory p q = absurd q
one_first bytes BadKind BadLength p q = absurd (q.1 p.0.counted)
one_first bytes BadKind BadVersion p q = absurd (q.1 (lacks_version _ _ p.1))
one_first bytes BadKind BadKind p q = refl
one_first bytes BadKind BadBody p q = absurd (not_both _ _ q.1 p.1)
one_first bytes BadKind NoMemory p q = absurd q
one_first bytes BadBody BadLength p q = absurd (q.1 p.0.counted)
one_first bytes BadBody BadVersion p q = absurd (q.1 (has_version _ _ p.1))
one_first bytes BadBody BadKind p q = absurd (not_both _ _ p.1 q.1)
one_first bytes BadBody BadBody p q = refl
one_first bytes BadBody NoMemory p q = absurd q
one_first bytes NoMemory b p q = absurd p

short : (bytes : List ℕ) → IsWhole bytes → Tells Waits bytes → ⊥
short bytes whole t =
    let there : 4 + length_at bytes ≤ length bytes = whole.there in
    let less : length bytes < 4 + length_at bytes = (t (omega (arith, there))).1 in
    omega (arith, there, less)

-- where a fault is first, nothing waits
no_wait : (bytes : List ℕ) (e : WireFault) → IsFirstFault e bytes → Tells Waits bytes → ⊥
no_wait bytes BadLength p t = p.1 (t p.0).0
no_wait bytes NoMemory p t = p
no_wait bytes _ p t = short bytes p.0 t

-- nor is a frame there
no_begin : (bytes : List ℕ) (e : WireFault) (f : Frame) (rest : List ℕ) → IsFirstFault e bytes
    → BeginsWithFrame bytes → Tells (Begins f rest) bytes → ⊥
no_begin bytes BadLength f rest p has t = p.1 t.0.counted
no_begin bytes BadVersion f rest p has t = p.1 (has_version _ _ t.1)
no_begin bytes BadKind f rest p has t = not_both _ _ t.1 p.1
no_begin bytes BadBody f rest p has t = p.2 has
no_begin bytes NoMemory f rest p has t = p

first_breaks : (bytes : List ℕ) (e : WireFault) → AreBytes bytes → IsFirstFault e bytes
    → front bytes ≡ Breaks e
first_breaks bytes e fits p = go (front bytes) refl where
  go : (at : Front) → front bytes ≡ at → at ≡ Breaks e
  go Waits is = absurd (no_wait bytes e p (subst (λ (x : Front). Tells x bytes) is (tells bytes)))
  go (Begins f rest) is =
      let begun = front_takes bytes f rest fits is in
      absurd (no_begin bytes e f rest p (f, rest, begun.fits, begun.spelled)
      (subst (λ (x : Front). Tells x bytes) is (tells bytes)))
  go (Breaks x) is = ap (λ (y : WireFault). Breaks y)
      (one_first bytes x e (breaks_first bytes x is) p)

pub fault_where_first : (bytes : List ℕ) (e : WireFault) → AreBytes bytes
    → IsFaultWhereFirst bytes e
fault_where_first bytes e fits = (breaks_first bytes e, first_breaks bytes e fits)
