-- What ends a stream: it is no record, it stays as more bytes come, and there is one way to end.
use Rattle.std.proofs.Common.{◌≡◌, ◌⊎◌, ℕ, suc, ◌+◌, ◌<◌, ◌≤◌, List, [], ◌∷◌, ◌++◌, length, take}
use Rattle.std.proofs.Common.{drop, Option, Some, None, refl, sym, ap, subst, ◌∙◌, arith, inl, inr}
use Rattle.std.proofs.Common.{append_assoc}
use Rattle.std.proofs.lemmas.List.{length-append, take_at, take-append-drop, take-append-le}
use Rattle.seal.specs.declared.{channel.Channel.Channel, fault.StreamFault.StreamFault}
use Rattle.seal.specs.declared.fault.StreamFault.TheVariants.{BadLength, BadTag}
use Rattle.seal.specs.Records.{IsLength, IsBody, AreBodies, record_of, records}
use Rattle.seal.specs.Streams.{length_at, Waits, IsWhole, BeginsRecord, Ends, held_of}
use Rattle.seal.proofs.Whole.{length-record, begun_length, begun_whole, length_at-more, one_record}

-- what waits is not begun
waits_not : (length_now length_then have : ℕ) (good : Type 0)
    → (have < 2) ⊎ (good × (have < length_then + 34)) → length_then ≡ length_now
    → length_now + 34 ≤ have → ⊥
waits_not a b have good (inl h) e m = omega arith
waits_not a b have good (inr h) e m = omega (arith, h.1)

pub not_begun : (c : Channel) (n : ℕ) (f : Option StreamFault) (rest : List ℕ) → Ends c n f rest
    → ¬ BeginsRecord c n rest
not_begun c n None rest ends begun =
    waits_not (length begun.0) (length_at rest) (length rest) (IsLength (length_at rest)) ends
    (begun_length c n rest begun) (omega (arith, begun_whole c n rest begun))
not_begun c n (Some BadLength) rest ends begun =
    ends.1 (subst (λ (m : ℕ). IsLength m) (sym (begun_length c n rest begun)) begun.2.0)
not_begun c n (Some BadTag) rest ends begun = ends.1 begun

-- a fault stays where more bytes come
whole_more : (bytes more : List ℕ) → IsWhole bytes → IsWhole (bytes ++ more)
whole_more bytes more whole =
    let e = length_at-more bytes more (omega (arith, whole.there)) in
    record {
      counted = subst (λ (m : ℕ). IsLength m) (sym e) whole.counted;
      there = omega (arith, e, whole.there, length-append bytes more);
    }

begun_less : (c : Channel) (n : ℕ) (bytes more : List ℕ) → IsWhole bytes
    → BeginsRecord c n (bytes ++ more) → BeginsRecord c n bytes
begun_less c n bytes more whole begun =
    let r = record_of c n begun.0 in let k = length r in
    let e = length_at-more bytes more (omega (arith, whole.there)) in
    let long = begun_length c n (bytes ++ more) begun in
    let within : k ≤ length bytes =
    omega (arith, e, long, whole.there, length-record c n begun.0) in
    let front : take k bytes ≡ r = sym (take-append-le k bytes more within)
    ∙ ap (λ (s : List ℕ). take k s) begun.3 ∙ take_at r begun.1 k refl in (
      begun.0,
      drop k bytes,
      begun.2,
      sym (take-append-drop k bytes) ∙ ap (λ (s : List ℕ). s ++ drop k bytes) front,
    )

pub ends_more : (c : Channel) (n : ℕ) (f : Option StreamFault) (rest more : List ℕ) → ¬ (f ≡ None)
    → Ends c n f rest → Ends c n f (rest ++ more)
ends_more c n None rest more broken ends = absurd (broken refl)
ends_more c n (Some BadLength) rest more broken ends =
    let e = length_at-more rest more ends.0 in (
      omega (arith, ends.0, length-append rest more),
      λ good. ends.1 (subst (λ (m : ℕ). IsLength m) e good),
    )
ends_more c n (Some BadTag) rest more broken ends =
    (whole_more rest more ends.0, λ begun. ends.1 (begun_less c n rest more ends.0 begun))

pub held_none : (f : Option StreamFault) (x y : List ℕ) → ¬ (f ≡ None) → held_of f x ≡ held_of f y
held_none None x y broken = absurd (broken refl)
held_none (Some e) x y broken = refl

-- there is one way to end
waits_good : (have then : ℕ) (good : Type 0) → (have < 2) ⊎ (good × (have < then + 34))
    → 2 ≤ have → good
waits_good have then good (inl h) m = absurd (omega arith)
waits_good have then good (inr h) m = h.0

waits_less : (have then : ℕ) (good : Type 0) → (have < 2) ⊎ (good × (have < then + 34))
    → then + 34 ≤ have → ⊥
waits_less have then good (inl h) m = omega arith
waits_less have then good (inr h) m = omega (arith, h.1)

pub one_end : (c : Channel) (n : ℕ) (f g : Option StreamFault) (rest : List ℕ) → Ends c n f rest
    → Ends c n g rest → f ≡ g
one_end c n None None rest a b = refl
one_end c n None (Some BadLength) rest a b =
    absurd (b.1 (waits_good (length rest) (length_at rest) (IsLength (length_at rest)) a b.0))
one_end c n None (Some BadTag) rest a b =
    absurd (waits_less (length rest) (length_at rest) (IsLength (length_at rest)) a b.0.there)
one_end c n (Some BadLength) None rest a b =
    absurd (a.1 (waits_good (length rest) (length_at rest) (IsLength (length_at rest)) b a.0))
one_end c n (Some BadLength) (Some BadLength) rest a b = refl
one_end c n (Some BadLength) (Some BadTag) rest a b = absurd (a.1 b.0.counted)
one_end c n (Some BadTag) None rest a b =
    absurd (waits_less (length rest) (length_at rest) (IsLength (length_at rest)) b a.0.there)
one_end c n (Some BadTag) (Some BadLength) rest a b = absurd (b.1 a.0.counted)
one_end c n (Some BadTag) (Some BadTag) rest a b = refl

at_front : (c : Channel) (n : ℕ) (y : List ℕ) (ys : List (List ℕ)) (r s : List ℕ) → IsBody n y
    → r ≡ (record_of c n y ++ records c (suc n) ys) ++ s
    → BeginsRecord c (n + length {A = List ℕ} []) r
at_front c n y ys r s good e =
    let zero : n ≡ n + length {A = List ℕ} [] = omega arith in
    let here : BeginsRecord c n r = (
      y,
      records c (suc n) ys ++ s,
      good,
      e ∙ append_assoc (record_of c n y) (records c (suc n) ys) s,
    )
    in subst (λ (m : ℕ). BeginsRecord c m r) zero here

next : (n : ℕ) (xs : List (List ℕ)) (x : List ℕ) → n + length (x ∷ xs) ≡ suc n + length xs
next n xs x = omega arith

-- and one way to be records, and then none
pub one_reading : (c : Channel) (n : ℕ) (xs ys : List (List ℕ)) (r s : List ℕ) → AreBodies n xs
    → AreBodies n ys → ¬ BeginsRecord c (n + length xs) r → ¬ BeginsRecord c (n + length ys) s
    → records c n xs ++ r ≡ records c n ys ++ s → (xs ≡ ys) × (r ≡ s)
one_reading c n [] [] r s a b p q e = (refl, e)
one_reading c n [] (y ∷ ys) r s a b p q e = absurd (p (at_front c n y ys r s b.0 e))
one_reading c n (x ∷ xs) [] r s a b p q e = absurd (q (at_front c n x xs s r a.0 (sym e)))
one_reading c n (x ∷ xs) (y ∷ ys) r s a b p q e =
    let first = one_record c n x y (records c (suc n) xs ++ r) (records c (suc n) ys ++ s) a.0 b.0
    (sym (append_assoc (record_of c n x) (records c (suc n) xs) r) ∙ e
    ∙ append_assoc (record_of c n y) (records c (suc n) ys) s) in
    let later = one_reading c (suc n) xs ys r s a.1 b.1
    (subst (λ (m : ℕ). ¬ BeginsRecord c m r) (next n xs x) p)
    (subst (λ (m : ℕ). ¬ BeginsRecord c m s) (next n ys y) q) first.1 in (cc, later.1)
