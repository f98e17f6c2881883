-- What a field's one spelling is.
use Rattle.std.proofs.Common.{◌≡◌, ℕ, Bool, true, false, cond, List, [], ◌∷◌, find, bytes_eq}
use Rattle.std.proofs.Common.{Option, Some, None, refl, sym, ap, ◌∙◌}
use Rattle.std.proofs.lemmas.Slice.Eq.{bytes_eq-Decides}

-- what is read from bytes is what they spell, in its range; and what is in its range is read from
-- its spelling
pub record IsSpelled {A : Type 0} (of : List ℕ → Option A) (text : A → List ℕ)
    (Fits : A → Type 0) : Type 0 where
  pub only : (bytes : List ℕ) (x : A) → of bytes ≡ Some x → Fits x × (bytes ≡ text x)
  pub found : (x : A) → Fits x → of (text x) ≡ Some x

pub chosen : {A : Type 0} (b : Bool) (x y : Option A) (z : A) → cond b x y ≡ Some z → y ≡ None
    → (b ≡ true) × (x ≡ Some z)
chosen true x y z h none = (refl, h)
chosen false x y z h none = absurd (let bad : None ≡ Some z = sym none ∙ h in cc)

pub bytes_eq-equal : (xs ys : List ℕ) → bytes_eq xs ys ≡ true → xs ≡ ys
bytes_eq-equal xs ys h = (bytes_eq-Decides xs ys).0 h

-- what is found by its name has the name
pub find-only : {A : Type 0} (name : A → List ℕ) (bytes : List ℕ) (xs : List A) (x : A)
    → find (λ y. bytes_eq (name y) bytes) xs ≡ Some x → bytes ≡ name x
find-only name bytes [] x h = absurd (let bad : None ≡ Some x = h in cc)
find-only name bytes (y ∷ ys) x h =
    step (find-only name bytes ys x) (bytes_eq (name y) bytes) refl h
  where
    step : (find (λ z. bytes_eq (name z) bytes) ys ≡ Some x → bytes ≡ name x) → (b : Bool)
        → bytes_eq (name y) bytes ≡ b
        → cond b (Some y) (find (λ z. bytes_eq (name z) bytes) ys) ≡ Some x → bytes ≡ name x
    step later true is e =
        let same : y ≡ x = cc in sym (bytes_eq-equal (name y) bytes is) ∙ ap name same
    step later false is e = later e
