-- Fields one after the other, all of the bytes, and a byte that numbers a member of a list.
use Rattle.std.proofs.Common.{◌≡◌, ℕ, zero, suc, Bool, true, false, cond, eqb, List, [], ◌∷◌, ◌++◌}
use Rattle.std.proofs.Common.{length, Some, None, refl, sym, ap, subst, ◌∙◌, append_assoc}
use Rattle.std.specs.List.{flat_map, AllByRecursion}
use Rattle.std.proofs.lemmas.{Bool.eqb-true, List.append-nil, List.nil_from_length}
use Rattle.wire.specs.Fields.{Read, ◌>>=◌, byte_at, two, many, all_of, numbered}
use Rattle.wire.specs.Reading.{member_at}
use Rattle.wire.proofs.Taking.{IsBytes, IsBytes-rest, bind_some, passed, some_is, Takes, Takes-then}
use Rattle.wire.proofs.Taking.{byte_takes}

-- a reader and a spelling belong together
pub record IsField {A : Type 0} (spell : A → List ℕ) (Fits : A → Type 0) (read : List ℕ → Read A) :
    Type 0 where
  pub takes : (bytes : List ℕ) (x : A × List ℕ) → IsBytes bytes → read bytes ≡ Some x
      → Takes bytes (spell x.0) x.1 × Fits x.0
  pub again : (x : A) (rest : List ℕ) → Fits x → read (spell x ++ rest) ≡ Some (x, rest)

pub two_fields : {A B : Type 0} {s : A → List ℕ} {F : A → Type 0} {r : List ℕ → Read A}
    {t : B → List ℕ} {G : B → Type 0} {q : List ℕ → Read B} → IsField s F r → IsField t G q
    → IsField (λ (p : A × B). s p.0 ++ t p.1) (λ (p : A × B). F p.0 × G p.1) (two r q)
two_fields {A} {B} {s} {F} {r} {t} {G} {q} f g = record {
  takes = λ bytes x fits e.
      let a = bind_some (r bytes) (λ x. q x.1 >>= λ y. Some ((x.0, y.0), y.1)) x e in
      let b = bind_some (q a.0.1) (λ y. Some ((a.0.0, y.0), y.1)) x a.2 in
      let t0 = f.takes bytes a.0 fits a.1 in
      let t1 = g.takes a.0.1 b.0 t0.0.are_bytes b.1 in
      let made : (A × B) × List ℕ = ((a.0.0, b.0.0), b.0.1) in
      subst (λ (y : (A × B) × List ℕ). Takes bytes (s y.0.0 ++ t y.0.1) y.1 × (F y.0.0 × G y.0.1))
      (some_is made x b.2)
      (Takes-then bytes (s a.0.0) a.0.1 (t b.0.0) b.0.1 t0.0 t1.0, (t0.1, t1.1));
  again = λ x rest fits.
      let regrouped : (s x.0 ++ t x.1) ++ rest ≡ s x.0 ++ (t x.1 ++ rest) =
      append_assoc (s x.0) (t x.1) rest in
      ap (two r q) regrouped ∙ rw (f.again x.0 (t x.1 ++ rest) fits.0, g.again x.1 rest fits.1)
      refl;
}

-- a field whose value passes a test
pub narrowed : {A : Type 0} {s : A → List ℕ} {F : A → Type 0} {r : List ℕ → Read A} → IsField s F r
    → (test : A → Bool) (G : A → Type 0) → ((x : A) → F x → test x ≡ true → G x)
    → ((x : A) → G x → F x × (test x ≡ true))
    → IsField s G (λ (bytes : List ℕ). r bytes >>= λ x. cond (test x.0) (Some x) None)
narrowed {A} {s} {F} {r} f test G into out = record {
  takes = λ bytes x fits e.
      let a = bind_some (r bytes) (λ x. cond (test x.0) (Some x) None) x e in
      let c = passed (test a.0.0) a.0 x a.2 in
      let t = f.takes bytes a.0 fits a.1 in
      subst (λ (y : A × List ℕ). Takes bytes (s y.0) y.1 × G y.0) c.1 (t.0, into a.0.0 t.1 c.0);
  again = λ x rest fits. let h = out x fits in rw (f.again x rest h.0, h.1) refl;
}

-- one byte, which says that this is all
pub alone : {B : Type 0} (t : B → List ℕ) (G : B → Type 0) (y : B) (b : ℕ) (rest : List ℕ)
    (x : B × List ℕ) → t y ≡ b ∷ [] → G y → IsBytes (b ∷ rest) → Some (y, rest) ≡ Some x
    → Takes (b ∷ rest) (t x.0) x.1 × G x.0
alone {B} t G y b rest x is holds fits e =
    subst (λ (z : B × List ℕ). Takes (b ∷ rest) (t z.0) z.1 × G z.0) (some_is (y, rest) x e) (
      record {
        parts = ap (λ (w : List ℕ). w ++ rest) (sym is);
        are_bytes = IsBytes-rest b rest fits;
      },
      holds,
    )

-- one byte, which says which field is after it
pub tagged : {A B : Type 0} {s : A → List ℕ} {F : A → Type 0} {r : List ℕ → Read A} → IsField s F r
    → (make : A → B) (t : B → List ℕ) (G : B → Type 0) (b : ℕ)
    → ((y : A) → F y → (b ∷ s y ≡ t (make y)) × G (make y)) → (rest : List ℕ) (x : B × List ℕ)
    → IsBytes (b ∷ rest) → (r rest >>= λ y. Some (make y.0, y.1)) ≡ Some x
    → Takes (b ∷ rest) (t x.0) x.1 × G x.0
tagged {A} {B} {s} {F} {r} f make t G b holds rest x fits e =
    let a = bind_some (r rest) (λ y. Some (make y.0, y.1)) x e in
    let u = f.takes rest a.0 (IsBytes-rest b rest fits) a.1 in
    let h = holds a.0.0 u.1 in
    let made : B × List ℕ = (make a.0.0, a.0.1) in
    subst (λ (z : B × List ℕ). Takes (b ∷ rest) (t z.0) z.1 × G z.0) (some_is made x a.2) (
      record {
        parts = ap (λ (w : List ℕ). b ∷ w) u.0.parts ∙ ap (λ (w : List ℕ). w ++ a.0.1) h.0;
        are_bytes = u.0.are_bytes;
      },
      h.1,
    )

pub all_takes : {A : Type 0} {s : A → List ℕ} {F : A → Type 0} {r : List ℕ → Read A}
    → IsField s F r → (bytes : List ℕ) (x : A) → IsBytes bytes → all_of r bytes ≡ Some x
    → (bytes ≡ s x) × F x
all_takes {A} {s} {F} {r} f bytes x fits e =
    let a = bind_some (r bytes) (λ x. cond (eqb (length x.1) 0) (Some x.0) None) x e in
    let b = passed (eqb (length a.0.1) 0) a.0.0 x a.2 in
    let t = f.takes bytes a.0 fits a.1 in
    let nothing : a.0.1 ≡ [] = nil_from_length a.0.1 (eqb-true _ _ b.0) in
    let whole : bytes ≡ s a.0.0 = t.0.parts ∙ ap (λ (rest : List ℕ). s a.0.0 ++ rest) nothing
    ∙ append-nil (s a.0.0) in
    subst (λ (y : A). (bytes ≡ s y) × F y) b.1 (whole, t.1)

pub all_again : {A : Type 0} {s : A → List ℕ} {F : A → Type 0} {r : List ℕ → Read A}
    → IsField s F r → (x : A) → F x → all_of r (s x) ≡ Some x
all_again {A} {s} {F} {r} f x fits =
    let read : r (s x) ≡ Some (x, []) = ap r (sym (append-nil (s x))) ∙ f.again x [] fits in
    rw read refl

-- ---- this many fields of one sort

abbrev pub AreMany : {A : Type 0} → (A → Type 0) → ℕ → List A → Type 0
AreMany F n xs = (length xs ≡ n) × AllByRecursion F xs

many_takes : {A : Type 0} {s : A → List ℕ} {F : A → Type 0} {r : List ℕ → Read A} → IsField s F r
    → (n : ℕ) (bytes : List ℕ) (x : List A × List ℕ) → IsBytes bytes → many r n bytes ≡ Some x
    → Takes bytes (flat_map s x.0) x.1 × AreMany F n x.0
unfolding many
many_takes {A} {s} {F} {r} f zero bytes x fits e =
    subst (λ (y : List A × List ℕ). Takes bytes (flat_map s y.0) y.1 × AreMany F zero y.0)
    (some_is ([], bytes) x e) (record { parts = refl; are_bytes = fits }, (refl, tt))
many_takes {A} {s} {F} {r} f (suc n) bytes x fits e =
    let a = bind_some (r bytes) (λ y. many r n y.1 >>= λ z. Some (y.0 ∷ z.0, z.1)) x e in
    let b = bind_some (many r n a.0.1) (λ z. Some (a.0.0 ∷ z.0, z.1)) x a.2 in
    let t0 = f.takes bytes a.0 fits a.1 in
    let t1 = many_takes f n a.0.1 b.0 t0.0.are_bytes b.1 in
    let made : List A × List ℕ = (a.0.0 ∷ b.0.0, b.0.1) in
    subst (λ (y : List A × List ℕ). Takes bytes (flat_map s y.0) y.1 × AreMany F (suc n) y.0)
    (some_is made x b.2) (
      Takes-then bytes (s a.0.0) a.0.1 (flat_map s b.0.0) b.0.1 t0.0 t1.0,
      (ap (λ (k : ℕ). suc k) t1.1.0, (t0.1, t1.1.1)),
    )

many_again : {A : Type 0} {s : A → List ℕ} {F : A → Type 0} {r : List ℕ → Read A} → IsField s F r
    → (xs : List A) (rest : List ℕ) → AllByRecursion F xs
    → many r (length xs) (flat_map s xs ++ rest) ≡ Some (xs, rest)
unfolding many
many_again f [] rest fits = refl
many_again {A} {s} {F} {r} f (x ∷ xs) rest fits =
    let regrouped : flat_map s (x ∷ xs) ++ rest ≡ s x ++ (flat_map s xs ++ rest) =
    append_assoc (s x) (flat_map s xs) rest in
    ap (many r (suc (length xs))) regrouped
    ∙ rw (f.again x (flat_map s xs ++ rest) fits.0, many_again f xs rest fits.1) refl

pub many_field : {A : Type 0} {s : A → List ℕ} {F : A → Type 0} {r : List ℕ → Read A}
    → IsField s F r → (n : ℕ) → IsField (flat_map s) (AreMany F n) (many r n)
many_field {A} {s} {F} {r} f n = record {
  takes = many_takes f n;
  again = λ xs rest fits.
      subst (λ (k : ℕ). many r k (flat_map s xs ++ rest) ≡ Some (xs, rest)) fits.0
      (many_again f xs rest fits.1);
}

-- ---- one byte for a member of a list

pub numbered_is : {A : Type 0} (number_of : A → ℕ) (members : List A) (n : ℕ) (x : A)
    → numbered number_of members n ≡ Some x → number_of x ≡ n
numbered_is number_of [] n x e = absurd cc
numbered_is {A} number_of (m ∷ ms) n x e = go (eqb (number_of m) n) refl
    (numbered_is number_of ms n x) e where
      go : (b : Bool) → eqb (number_of m) n ≡ b
          → (numbered number_of ms n ≡ Some x → number_of x ≡ n)
          → cond b (Some m) (numbered number_of ms n) ≡ Some x → number_of x ≡ n
      go true t later h = subst (λ (y : A). number_of y ≡ n) (some_is m x h) (eqb-true _ _ t)
      go false t later h = later h

pub member_field : {A : Type 0} (number_of : A → ℕ) (members : List A)
    → ((x : A) → numbered number_of members (number_of x) ≡ Some x)
    → IsField (λ (x : A). number_of x ∷ []) (λ (x : A). Unit {0}) (member_at number_of members)
unfolding member_at byte_at
member_field {A} number_of members found = record {
  takes = λ bytes x fits e.
      let a = bind_some (byte_at bytes) (λ n. numbered number_of members n.0 >>= λ m. Some (m, n.1))
      x e in
      let b = bind_some (numbered number_of members a.0.0) (λ m. Some (m, a.0.1)) x a.2 in
      let t = byte_takes bytes a.0 fits a.1 in
      let made : A × List ℕ = (b.0, a.0.1) in
      subst (λ (y : A × List ℕ). Takes bytes (number_of y.0 ∷ []) y.1 × Unit {0})
      (some_is made x b.2) (
        subst (λ (n : ℕ). Takes bytes (n ∷ []) a.0.1)
            (sym (numbered_is number_of members a.0.0 b.0 b.1)) t.0,
        tt,
      );
  again = λ x rest fits. rw (found x) refl;
}
