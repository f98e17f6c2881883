-- The kind of what was read.
use Rattle.std.proofs.Common.{◌≡◌, ℕ, ◌+◌, ◌≤◌, Bool, true, false, cond, eqb, leb, List, [], ◌∷◌}
use Rattle.std.proofs.Common.{length, get_or, drop, Option, Some, None, ap, subst, ◌∙◌, ◌||◌, arith}
use Rattle.std.proofs.{Common.Result, Common.Ok, Common.Err, Common.refl, lemmas.Bool.eqb-true}
use Rattle.std.{proofs.Common.sym, specs.Prelude.IsOk, specs.Int.w32, specs.Int.from_be_bytes}
use Rattle.wire.specs.declared.fault.WireFault.{WireFault, TheVariants.NoMemory}
use Rattle.wire.specs.declared.fault.WireFault.TheVariants.{BadLength, BadVersion, BadKind, BadBody}
use Rattle.wire.specs.declared.{frame.Frame.Frame, values.Version.Version}
use Rattle.wire.specs.declared.frame.FrameBody.{FrameBody, TheVariants.Decided}
use Rattle.wire.specs.Fields.{◌>>=◌, all_of}
use Rattle.wire.specs.{Ranges.way_of_kind, Ranges.way_of, Spelling.kind_of}
use Rattle.wire.specs.Reading.{position_at, count_at, entries_at, decided_of, what_of, is_kind}
use Rattle.wire.specs.Reading.{goes, frame_from, frame_in, version_of, frame_of, log_length_at}
use Rattle.wire.{specs.Reading.log_count_at, specs.Reading.entries_of, proofs.Taking.bind_some}
use Rattle.wire.{proofs.Taking.some_is, specs.model.Gives.LacksBody, specs.model.Gives.GivesFrame}
use Rattle.wire.specs.declared.frame.FrameBody.TheVariants as variant

-- fields that were read into a kind
made : {A : Type 0} (o : Option A) (f : A → FrameBody) (kind : ℕ) (w : FrameBody)
    → ((x : A) → kind_of (f x) ≡ kind) → o >>= (λ x. Some (f x)) ≡ Some w → kind_of w ≡ kind
made (Some x) f kind w number e =
    let same : f x ≡ w = cc in
    subst (λ (y : FrameBody). kind_of y ≡ kind) same (number x)
made None f kind w number e = absurd cc

empty_made : (b : Bool) (what : FrameBody) (kind : ℕ) (w : FrameBody) → kind_of what ≡ kind
    → cond b (Some what) None ≡ Some w → kind_of w ≡ kind
empty_made true what kind w number e =
    let same : what ≡ w = cc in
    subst (λ (y : FrameBody). kind_of y ≡ kind) same number
empty_made false what kind w number e = absurd cc

-- one test of the chain: the kind is this one, or the chain goes on
pick : (kind k : ℕ) (w : FrameBody) (x y : Option FrameBody) → (x ≡ Some w → kind_of w ≡ k)
    → (y ≡ Some w → kind_of w ≡ kind) → cond (eqb kind k) x y ≡ Some w → kind_of w ≡ kind
pick kind k w x y here there e = go (eqb kind k) refl e where
  go : (b : Bool) → eqb kind k ≡ b → cond b x y ≡ Some w → kind_of w ≡ kind
  go true t h = subst (λ (n : ℕ). kind_of w ≡ n) (sym (eqb-true _ _ t)) (here h)
  go false t h = there h

run_made : (v : Version) (bytes : List ℕ) (w : FrameBody) → decided_of v bytes ≡ Some w
    → kind_of w ≡ 7
run_made v bytes w e =
    let a = bind_some (position_at bytes) (λ p. count_at v p.1 >>= λ c. all_of (entries_at c.0) c.1
    >>= λ es. cond (leb (p.0 + c.0) 65536) (Some (Decided p.0 es)) None) w e in
    let b = bind_some (count_at v a.0.1) (λ c. all_of (entries_at c.0) c.1
    >>= λ es. cond (leb (a.0.0 + c.0) 65536) (Some (Decided a.0.0 es)) None) w a.2 in
    let c = bind_some (all_of (entries_at b.0.0) b.0.1)
    (λ es. cond (leb (a.0.0 + b.0.0) 65536) (Some (Decided a.0.0 es)) None) w b.2 in
    empty_made (leb (a.0.0 + b.0.0) 65536) (Decided a.0.0 c.0) 7 w refl c.2

log_made : (bytes : List ℕ) (w : FrameBody) → entries_of bytes ≡ Some w → kind_of w ≡ 38
log_made bytes w e =
    let a = bind_some (log_length_at bytes)
    (λ p. log_length_at p.1 >>= λ l. log_count_at l.1 >>= λ c. all_of (entries_at c.0) c.1
    >>= λ es. cond (eqb c.0 0 || leb (p.0 + c.0) l.0) (Some (variant.Entries p.0 l.0 es)) None)
    w e in
    let b = bind_some (log_length_at a.0.1)
    (λ l. log_count_at l.1 >>= λ c. all_of (entries_at c.0) c.1
    >>= λ es. cond (eqb c.0 0 || leb (a.0.0 + c.0) l.0) (Some (variant.Entries a.0.0 l.0 es)) None)
    w a.2 in
    let c = bind_some (log_count_at b.0.1) (λ c. all_of (entries_at c.0) c.1
    >>= λ es. cond (eqb c.0 0 || leb (a.0.0 + c.0) b.0.0)
    (Some (variant.Entries a.0.0 b.0.0 es)) None) w b.2 in
    let d = bind_some (all_of (entries_at c.0.0) c.0.1)
    (λ es. cond (eqb c.0.0 0 || leb (a.0.0 + c.0.0) b.0.0)
    (Some (variant.Entries a.0.0 b.0.0 es)) None) w c.2 in
    empty_made (eqb c.0.0 0 || leb (a.0.0 + c.0.0) b.0.0) (variant.Entries a.0.0 b.0.0 d.0) 38 w
    refl d.2

pub kind_is : (v : Version) (kind : ℕ) (bytes : List ℕ) (w : FrameBody)
    → what_of v kind bytes ≡ Some w → kind_of w ≡ kind
unfolding what_of
kind_is v kind bytes w e =
    pick kind 1 w _ _ (made _ _ 1 w (λ x. refl)) (pick kind 2 w _ _ (made _ _ 2 w (λ x. refl))
    (pick kind 3 w _ _ (made _ _ 3 w (λ x. refl)) (pick kind 4 w _ _ (made _ _ 4 w (λ x. refl))
    (pick kind 5 w _ _ (made _ _ 5 w (λ x. refl)) (pick kind 6 w _ _ (made _ _ 6 w (λ x. refl))
    (pick kind 7 w _ _ (run_made v bytes w) (pick kind 16 w _ _ (made _ _ 16 w (λ x. refl))
    (pick kind 17 w _ _ (made _ _ 17 w (λ x. refl)) (pick kind 18 w _ _ (made _ _ 18 w (λ x. refl))
    (pick kind 19 w _ _ (empty_made _ _ 19 w refl) (pick kind 20 w _ _ (empty_made _ _ 20 w refl)
    (pick kind 21 w _ _ (empty_made _ _ 21 w refl) (pick kind 22 w _ _ (made _ _ 22 w (λ x. refl))
    (pick kind 23 w _ _ (made _ _ 23 w (λ x. refl)) (pick kind 32 w _ _ (made _ _ 32 w (λ x. refl))
    (pick kind 33 w _ _ (made _ _ 33 w (λ x. refl))
    (pick kind 34 w _ _ (λ h. empty_made true _ 34 w refl h)
    (pick kind 35 w _ _ (made _ _ 35 w (λ x. refl)) (pick kind 36 w _ _ (empty_made _ _ 36 w refl)
    (pick kind 37 w _ _ (made _ _ 37 w (λ x. refl)) (pick kind 38 w _ _ (log_made bytes w)
    (λ h. absurd cc)))))))))))))))))))))) e

-- a sender or a receiver that does not fit the kind, whatever was read
pub turned_away : (v : Version) (hall from to kind : ℕ) (o : Option FrameBody)
    → ((w : FrameBody) → o ≡ Some w → kind_of w ≡ kind) → goes (way_of_kind kind) from to ≡ false
    → frame_from v hall from to o ≡ Err BadBody
turned_away v hall from to kind None read away = refl
turned_away v hall from to kind (Some w) read away =
    let number : kind_of w ≡ kind = read w refl in
    let same : goes (way_of w) from to ≡ false =
    subst (λ (k : ℕ). goes (way_of_kind k) from to ≡ false) (sym number) away in
    rw same refl

-- one that fits
pub let_in : (v : Version) (hall from to kind : ℕ) (w : FrameBody) → kind_of w ≡ kind
    → goes (way_of_kind kind) from to ≡ true → frame_from v hall from to (Some w) ≡ Ok (record {
      version = v;
      hall = hall;
      from = from;
      to = to;
      what = w;
    })
let_in v hall from to kind w number fits =
    let same : goes (way_of w) from to ≡ true =
    subst (λ (k : ℕ). goes (way_of_kind k) from to ≡ true) (sym number) fits in
    rw same refl

-- ---- eight bytes at least, whose version and kind are good, and whose sender and receiver fit the
-- kind

-- the hall of a frame
abbrev pub hall_at : List ℕ → ℕ
hall_at bytes =
    from_be_bytes w32 (get_or bytes 1 0 ∷ get_or bytes 2 0 ∷ get_or bytes 3 0 ∷ get_or bytes 4
    0 ∷ [])

pub record IsGood (v : Version) (bytes : List ℕ) : Type 0 where
  pub eight : 8 ≤ length bytes
  pub version : version_of (get_or bytes 0 0) ≡ Some v
  pub kind : is_kind v (get_or bytes 7 0) ≡ true
  pub goes : goes (way_of_kind (get_or bytes 7 0)) (get_or bytes 5 0) (get_or bytes 6 0) ≡ true

read_by_kind : (v : Version) (o : Option Version) (kind hall from to : ℕ) (bytes : List ℕ)
    → o ≡ Some v → is_kind v kind ≡ true
    → frame_in o hall from to kind bytes ≡ frame_from v hall from to (what_of v kind bytes)
read_by_kind v None kind hall from to bytes is k = absurd cc
read_by_kind v (Some u) kind hall from to bytes is k =
    subst (λ (x : Version). frame_in (Some u) hall from to kind bytes
    ≡ frame_from x hall from to (what_of x kind bytes)) (some_is u v is)
    (let same : is_kind u kind ≡ true =
    subst (λ (x : Version). is_kind x kind ≡ true) (sym (some_is u v is)) k in
    rw same refl)

good_is : (v : Version) (bytes : List ℕ) → IsGood v bytes
    → frame_of bytes ≡ frame_from v (hall_at bytes) (get_or bytes 5 0) (get_or bytes 6 0)
    (what_of v (get_or bytes 7 0) (drop 8 bytes))
unfolding frame_of
good_is v [] g = absurd (omega (arith, g.eight))
good_is v (version ∷ []) g = absurd (omega (arith, g.eight))
good_is v (version ∷ a ∷ []) g = absurd (omega (arith, g.eight))
good_is v (version ∷ a ∷ b ∷ []) g = absurd (omega (arith, g.eight))
good_is v (version ∷ a ∷ b ∷ c ∷ []) g = absurd (omega (arith, g.eight))
good_is v (version ∷ a ∷ b ∷ c ∷ d ∷ []) g = absurd (omega (arith, g.eight))
good_is v (version ∷ a ∷ b ∷ c ∷ d ∷ from ∷ []) g = absurd (omega (arith, g.eight))
good_is v (version ∷ a ∷ b ∷ c ∷ d ∷ from ∷ to ∷ []) g = absurd (omega (arith, g.eight))
good_is v (version ∷ a ∷ b ∷ c ∷ d ∷ from ∷ to ∷ kind ∷ bytes) g =
    read_by_kind v (version_of version) kind (from_be_bytes w32 (a ∷ b ∷ c ∷ d ∷ [])) from to
    bytes g.version g.kind

pub good_read : (v : Version) (bytes : List ℕ) (w : FrameBody) → IsGood v bytes
    → what_of v (get_or bytes 7 0) (drop 8 bytes) ≡ Some w → frame_of bytes ≡ Ok (record {
      version = v;
      hall = hall_at bytes;
      from = get_or bytes 5 0;
      to =
          get_or bytes 6 0;
      what = w;
    })
good_read v bytes w g read =
    good_is v bytes g
    ∙ ap (λ (o : Option FrameBody). frame_from v (hall_at bytes) (get_or bytes 5 0)
    (get_or bytes 6 0) o) read
    ∙ let_in v (hall_at bytes) (get_or bytes 5 0) (get_or bytes 6 0) (get_or bytes 7 0) w
    (kind_is v (get_or bytes 7 0) (drop 8 bytes) w read) g.goes

lacking : (v : Version) (hall from to kind : ℕ) (e : WireFault) (o : Option FrameBody)
    → ((w : FrameBody) → o ≡ Some w → kind_of w ≡ kind)
    → goes (way_of_kind kind) from to ≡ true → LacksBody e o
    → GivesFrame (Err e) (frame_from v hall from to o)
lacking v hall from to kind BadLength o read fits lacks = absurd lacks
lacking v hall from to kind BadVersion o read fits lacks = absurd lacks
lacking v hall from to kind BadKind o read fits lacks = absurd lacks
lacking v hall from to kind BadBody o read fits lacks =
    ap (λ (x : Option FrameBody). frame_from v hall from to x) lacks
lacking v hall from to kind NoMemory None read fits lacks = absurd cc
lacking v hall from to kind NoMemory (Some w) read fits lacks =
    let there = let_in v hall from to kind w (read w refl) fits in
    subst (λ (x : Result Frame WireFault). IsOk x) (sym there) refl

pub good_lacks : (v : Version) (bytes : List ℕ) (e : WireFault) → IsGood v bytes
    → LacksBody e (what_of v (get_or bytes 7 0) (drop 8 bytes))
    → GivesFrame (Err e) (frame_of bytes)
good_lacks v bytes e g lacks =
    subst (λ (x : Result Frame WireFault). GivesFrame (Err e) x) (sym (good_is v bytes g))
    (lacking v (hall_at bytes) (get_or bytes 5 0) (get_or bytes 6 0) (get_or bytes 7 0) e
    (what_of v (get_or bytes 7 0) (drop 8 bytes))
    (λ w read. kind_is v (get_or bytes 7 0) (drop 8 bytes) w read) g.goes lacks)
