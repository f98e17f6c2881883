-- Names by their bytes, and what is looked up by them.
use Rattle.std.proofs.Common.{◌≡◌, ℕ, Bool, true, false, cond, List, Some, refl, sym, ap, ◌∙◌}
use Rattle.std.specs.{Global.Vec, Map.lookup, Map.KeepsOthers, Prelude.bytes_eq}
use Rattle.std.proofs.lemmas.{Cmp.nat_list_eq_equiv, Slice.Eq.bytes_eq-Decides}

pub same_name : (xs ys : List ℕ) → bytes_eq xs ys ≡ true → xs ≡ ys
same_name xs ys h = (bytes_eq-Decides xs ys).0 h

pub own_name : (xs : List ℕ) → bytes_eq xs xs ≡ true
own_name xs = (bytes_eq-Decides xs xs).1 refl

-- who is not called by one of two names
apart : (name other key : List ℕ) → bytes_eq name other ≡ false → bytes_eq name key ≡ true
    → bytes_eq other key ≡ false
apart name other key unlike alike =
    nat_list_eq_equiv.symm other key ∙ sym (nat_list_eq_equiv.congr name key other alike) ∙ unlike

-- a change at one name leaves what is looked up by another
pub other_name : {X : Type 0} (name other : List ℕ) (old new : List (Vec ℕ × X))
    → KeepsOthers (λ x y. bytes_eq x.items y.items) (λ k. bytes_eq name k.items) old new
    → bytes_eq name other ≡ false
    → lookup (λ k. bytes_eq other k.items) new ≡ lookup (λ k. bytes_eq other k.items) old
unfolding KeepsOthers
other_name name other old new h unlike =
    h (λ k. bytes_eq other k.items)
    (λ x y. nat_list_eq_equiv.congr other x.items y.items) (λ k. apart name other k.items unlike)

-- what is looked up after a change at a name
pub names_after : {X : Type 0} (name : List ℕ) (n : X) (old new : List (Vec ℕ × X))
    → lookup (λ k. bytes_eq name k.items) new ≡ Some n
    → KeepsOthers (λ x y. bytes_eq x.items y.items) (λ k. bytes_eq name k.items) old new
    → (other : List ℕ) → lookup (λ k. bytes_eq other k.items) new
    ≡ cond (bytes_eq name other) (Some n) (lookup (λ k. bytes_eq other k.items) old)
names_after {X} name n old new here others other = step (bytes_eq name other) refl
  where
    step : (b : Bool) → bytes_eq name other ≡ b → lookup (λ k. bytes_eq other k.items) new
        ≡ cond b (Some n) (lookup (λ k. bytes_eq other k.items) old)
    step true is =
        ap (λ (x : List ℕ). lookup (λ k. bytes_eq x k.items) new) (sym (same_name name other is))
        ∙ here
    step false is = other_name name other old new others is
