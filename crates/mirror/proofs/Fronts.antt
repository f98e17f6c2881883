-- Mirrors of logs of which one begins the other.
use Rattle.std.proofs.Common.{◌≡◌, ◌⊎◌, inl, inr, refl, sym, ap, subst, ◌∙◌, ℕ, zero, suc, ◌+◌, ◌-◌}
use Rattle.std.proofs.Common.{◌≤◌, List, [], ◌∷◌, ◌++◌, length, take, drop, Option, Some, None}
use Rattle.std.proofs.Common.{slice_get, arith, take-append-drop}
use Rattle.std.proofs.lemmas.List.{append-nil, drop-drop}
use Rattle.acceptor.specs.declared.entry.Entry.{Entry}
use Rattle.learner.{proofs.Evolves.prefix_self, proofs.Evolves.prefix_trans, specs.Laws.IsPrefix}
use Rattle.mirror.specs.Mirrors.{DiffersFirst, beyond}
use Rattle.mirror.specs.Fronts.{Telling, TakesAs, TakesAll, BeginsOne, NoneDiffers, LogsOfAgree}
use Rattle.mirror.specs.{Fronts.MirrorsHoldFronts, declared.mirror.MirrorGrowth.MirrorGrowth}
use Rattle.mirror.specs.declared.mirror.MirrorGrowth.TheVariants.{Grew, Known, Gap, Differs}

tail_prefix : (x z : Entry) (xs zs : List Entry) → IsPrefix (x ∷ xs) (z ∷ zs) → IsPrefix xs zs
tail_prefix x z xs zs p = let h = p.1 in (p.0, cc)

same_head : (x z : Entry) (xs zs : List Entry) → IsPrefix (x ∷ xs) (z ∷ zs) → x ≡ z
same_head x z xs zs p = let h = p.1 in cc

with_head : (x z : Entry) (xs zs : List Entry) → x ≡ z → IsPrefix xs zs → IsPrefix (x ∷ xs) (z ∷ zs)
with_head x z xs zs same p = let h = p.1 in (p.0, cc)

drop_prefix : (k : ℕ) (xs ys : List Entry) → IsPrefix xs ys → IsPrefix (drop k xs) (drop k ys)
drop_prefix zero xs ys p = p
drop_prefix (suc k) [] ys p = (drop (suc k) ys, refl)
drop_prefix (suc k) (x ∷ xs) [] p = absurd (let h = p.1 in cc)
drop_prefix (suc k) (x ∷ xs) (y ∷ ys) p = drop_prefix k xs ys (tail_prefix x y xs ys p)

-- a prefix of a log continues as another prefix of it does
goes_on : (held log m got : List Entry) → IsPrefix held log → IsPrefix m log
    → IsPrefix got (drop (length held) m) → IsPrefix (held ++ got) log
goes_on [] log m got p q r = prefix_trans got m log r q
goes_on (x ∷ xs) log [] [] p q r =
    subst (λ (es : List Entry). IsPrefix es log) (sym (append-nil (x ∷ xs))) p
goes_on (x ∷ xs) log [] (g ∷ got) p q r = absurd (let h = r.1 in cc)
goes_on (x ∷ xs) [] (y ∷ ys) got p q r = absurd (let h = p.1 in cc)
goes_on (x ∷ xs) (z ∷ zs) (y ∷ ys) got p q r =
    with_head x z (xs ++ got) zs (same_head x z xs zs p)
    (goes_on xs zs ys got (tail_prefix x z xs zs p) (tail_prefix y z ys zs q) r)

-- what is beyond the held ones is what the log has from their end on
beyond_is : (held log : List Entry) (position count : ℕ) → position ≤ length held
    → IsPrefix (beyond held position (take count (drop position log))) (drop (length held) log)
beyond_is held log position count low =
    let k : ℕ = length held - position in
    let there : position + k ≡ length held = omega (arith, low) in
    let all : drop k (drop position log) ≡ drop (length held) log =
    drop-drop k position log ∙ ap (λ (j : ℕ). drop j log) there in
    subst (λ (es : List Entry). IsPrefix (drop k (take count (drop position log))) es) all
    (drop_prefix k (take count (drop position log)) (drop position log)
    (drop count (drop position log), take-append-drop count (drop position log)))

-- ---- none differs

get_front : (xs ys : List Entry) (i : ℕ) (e : Entry) → IsPrefix xs ys → slice_get xs i ≡ Some e
    → slice_get ys i ≡ Some e
get_front [] ys i e p h = absurd cc
get_front (x ∷ xs) [] i e p h = absurd (let k = p.1 in cc)
get_front (x ∷ xs) (y ∷ ys) zero e p h = ap Some (sym (same_head x y xs ys p)) ∙ h
get_front (x ∷ xs) (y ∷ ys) (suc i) e p h = get_front xs ys i e (tail_prefix x y xs ys p) h

get_drop : (xs : List Entry) (k i : ℕ) (e : Entry) → slice_get (drop k xs) i ≡ Some e
    → slice_get xs (k + i) ≡ Some e
get_drop xs zero i e h =
    let n : 0 + i ≡ i = omega arith in ap (slice_get xs) n ∙ h
get_drop [] (suc k) i e h = absurd cc
get_drop (x ∷ xs) (suc k) i e h =
    let n : suc k + i ≡ suc (k + i) = omega arith in
    ap (slice_get (x ∷ xs)) n ∙ get_drop xs k i e h

some_of : (a b : Entry) → Some a ≡ Some b → a ≡ b
some_of a b s = cc

no_other : (held log m : List Entry) (position count at : ℕ) → IsPrefix held log → IsPrefix m log
    → DiffersFirst held position (take count (drop position m)) at → ⊥
no_other held log m position count at p q d =
    let its =
    get_front m log (position + d.place) d.its q (get_drop m position d.place d.its
    (get_front (take count (drop position m)) (drop position m) d.place d.its
    (drop count (drop position m), take-append-drop count (drop position m)) d.tells)) in
    d.other (some_of d.mine d.its
    (sym (get_front held log at d.mine p d.holds) ∙ ap (slice_get log) d.there ∙ its))

-- ---- one call

one_call : (held log m : List Entry) (position count : ℕ) (o : Option MirrorGrowth)
    (next : List Entry) → IsPrefix held log → IsPrefix m log
    → TakesAs held position (take count (drop position m)) o next
    → IsPrefix next log × ((at : ℕ) → o ≡ Some (Differs at) → ⊥)
one_call held log m position count None next p q t =
    let more = beyond_is held m position count t.0.0 in
    let part = t.1 in (
      subst (λ (es : List Entry). IsPrefix es log) (sym part.holds)
          (goes_on held log m part.got p q
          (prefix_trans part.got (beyond held position (take count (drop position m)))
          (drop (length held) m) (part.next ∷ part.later, part.parts) more)),
      λ at h. cc,
    )
one_call held log m position count (Some Grew) next p q t = (
  subst (λ (es : List Entry). IsPrefix es log) (sym t.2)
      (goes_on held log m (beyond held position (take count (drop position m))) p q
      (beyond_is held m position count t.0.0)),
  λ at h. cc,
)
one_call held log m position count (Some Known) next p q t =
    (subst (λ (es : List Entry). IsPrefix es log) (sym t.2) p, λ at h. cc)
one_call held log m position count (Some Gap) next p q t =
    (subst (λ (es : List Entry). IsPrefix es log) (sym t.1) p, λ at h. cc)
one_call held log m position count (Some (Differs at)) next p q t =
    absurd (no_other held log m position count at p q t.1)

-- ---- all calls

shifted : (one : Telling) (more : List Telling) (es : List Entry) → BeginsOne more es
    → BeginsOne (one ∷ more) es
shifted one more es b =
    record { place = suc b.place; one = b.one; here = b.here; begins = b.begins }

none_more : (one : Telling) (more : List Telling)
    → ((at : ℕ) → one.outcome ≡ Some (Differs at) → ⊥) → NoneDiffers more → NoneDiffers (one ∷ more)
none_more one more first rest zero other at here is =
    let same : one ≡ other = cc in first at (ap (λ (t : Telling). t.outcome) same ∙ is)
none_more one more first rest (suc place) other at here is = rest place other at here is

-- what comes of the later ones, of the same log
keeps : (one : Telling) (more : List Telling) (log after : List Entry)
    → ((at : ℕ) → one.outcome ≡ Some (Differs at) → ⊥)
    → NoneDiffers more × (IsPrefix after log ⊎ BeginsOne more after)
    → NoneDiffers (one ∷ more) × (IsPrefix after log ⊎ BeginsOne (one ∷ more) after)
keeps one more log after first (rest, inl q) = (none_more one more first rest, inl q)
keeps one more log after first (rest, inr b) =
    (none_more one more first rest, inr (shifted one more after b))

-- and of the log of the first one
moves : (one : Telling) (more : List Telling) (log after : List Entry)
    → ((at : ℕ) → one.outcome ≡ Some (Differs at) → ⊥)
    → NoneDiffers more × (IsPrefix after one.log ⊎ BeginsOne more after)
    → NoneDiffers (one ∷ more) × (IsPrefix after log ⊎ BeginsOne (one ∷ more) after)
moves one more log after first (rest, inl q) = (
  none_more one more first rest,
  inr (record { place = zero; one = one; here = refl; begins = q }),
)
moves one more log after first (rest, inr b) =
    (none_more one more first rest, inr (shifted one more after b))

-- all logs are of a kind of which one begins the other
pub all_calls : (P : List Entry → Type 0)
    → ((a b : List Entry) → P a → P b → IsPrefix a b ⊎ IsPrefix b a) → (ts : List Telling)
    → ((i : ℕ) (one : Telling) → slice_get ts i ≡ Some one → P one.log)
    → (held log after : List Entry) → P log → IsPrefix held log → TakesAll held ts after
    → NoneDiffers ts × (IsPrefix after log ⊎ BeginsOne ts after)
all_calls P agree [] ours held log after mine p t = (
  λ place one at here is. cc,
  inl (subst (λ (es : List Entry). IsPrefix es log) (sym t) p),
)
all_calls P agree (one ∷ more) ours held log after mine p t =
    elim (agree log one.log mine (ours zero one refl)) [
      | inl q ↦
          let first =
          one_call held one.log one.log one.position one.count one.outcome t.0
          (prefix_trans held log one.log p q) (prefix_self one.log) t.1 in
          moves one more log after first.1
          (all_calls P agree more (λ i. ours (suc i)) t.0 one.log after (ours zero one refl)
          first.0 t.2)
      | inr q ↦
          let first =
          one_call held log one.log one.position one.count one.outcome t.0 p q t.1 in
          keeps one more log after first.1
          (all_calls P agree more (λ i. ours (suc i)) t.0 log after mine first.0 t.2)
    ]

-- one of these is about this log
record IsLogOf (ts : List Telling) (log : List Entry) : Type 0 where
  pub place : ℕ
  pub one : Telling
  pub here : slice_get ts place ≡ Some one
  pub is : one.log ≡ log

logs_agree : (ts : List Telling) → LogsOfAgree ts → (a b : List Entry) → IsLogOf ts a
    → IsLogOf ts b → IsPrefix a b ⊎ IsPrefix b a
logs_agree ts agree a b x y =
    subst (λ (l : List Entry). IsPrefix l b ⊎ IsPrefix b l) x.is
    (subst (λ (l : List Entry). IsPrefix x.one.log l ⊎ IsPrefix l x.one.log) y.is
    (agree x.place y.place x.one y.one x.here y.here))

pub mirrors_hold_fronts : MirrorsHoldFronts
mirrors_hold_fronts [] after agree t = (λ place one at here is. cc, inl t)
mirrors_hold_fronts (one ∷ more) after agree t =
    let all =
    all_calls (IsLogOf (one ∷ more)) (logs_agree (one ∷ more) agree) (one ∷ more)
    (λ i other here. record { place = i; one = other; here = here; is = refl }) [] one.log after
    (record { place = zero; one = one; here = refl; is = refl }) (one.log, refl) t in (
      all.0,
      inr
          (elim all.1 [
            | inl q ↦ record { place = zero; one = one; here = refl; begins = q }
            | inr b ↦ b
          ]),
    )
