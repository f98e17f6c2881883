-- The first place of a mark in bytes that are put together.
use Rattle.std.proofs.Common.{◌≡◌, refl, sym, ap, ◌∙◌, ℕ, Bool, true, false, nat_eq, List, [], ◌∷◌}
use Rattle.std.proofs.Common.{◌++◌, length, drop, Option, None, Some}
use Rattle.std.specs.Prelude.{◌==◌, ◌&&◌, not, if◌then◌else◌}
use Rattle.std.specs.{List.starts_with, Option.option_map}
use Rattle.std.proofs.lemmas.Bool.{eqb-true, eq-eqb}
use Rattle.form_data.specs.{Cutting.cut, Written.is_without}

abbrev pub Parts : Type 0
Parts = List ℕ × List ℕ

-- a cut that comes after other bytes
abbrev pub glue : List ℕ → Option Parts → Option Parts
glue front parts = option_map (λ p. (front ++ p.0, p.1)) parts

glue_none : (parts : Option Parts) → glue [] parts ≡ parts
glue_none None = refl
glue_none (Some p) = refl

glue_more : (x : ℕ) (front : List ℕ) (parts : Option Parts)
    → option_map (λ p. (x ∷ p.0, p.1)) (glue front parts) ≡ glue (x ∷ front) parts
glue_more x front None = refl
glue_more x front (Some p) = refl

pub both_first : (a b : Bool) → (a && b) ≡ true → a ≡ true
both_first true b h = refl
both_first false b h = h

pub both_second : (a b : Bool) → (a && b) ≡ true → b ≡ true
both_second true b h = h
both_second false b h = absurd cc

not_true : (b : Bool) → not b ≡ true → b ≡ false
not_true true h = absurd cc
not_true false h = refl

-- bytes without the mark's first one are passed over
pub skip : (m : ℕ) (ms front bytes : List ℕ) → is_without m front ≡ true
    → cut (m ∷ ms) (front ++ bytes) ≡ glue front (cut (m ∷ ms) bytes)
skip m ms [] bytes h = sym (glue_none (cut (m ∷ ms) bytes))
skip m ms (x ∷ front) bytes h =
    let apart : (m == x) ≡ false =
    not_true (m == x) (both_first (not (m == x)) (is_without m front) h) in
    let rest : cut (m ∷ ms) (front ++ bytes) ≡ glue front (cut (m ∷ ms) bytes) =
    skip m ms front bytes (both_second (not (m == x)) (is_without m front) h) in
    rw (apart, rest) (glue_more x front (cut (m ∷ ms) bytes))

pub skip_none : (m : ℕ) (ms front bytes : List ℕ) → is_without m front ≡ true
    → cut (m ∷ ms) bytes ≡ None → cut (m ∷ ms) (front ++ bytes) ≡ None
skip_none m ms front bytes h none = skip m ms front bytes h ∙ ap (glue front) none

pub begins_itself : (mark bytes : List ℕ) → starts_with nat_eq (mark ++ bytes) mark ≡ true
begins_itself [] bytes = refl
begins_itself (m ∷ mark) bytes = rw (eq-eqb m m refl, begins_itself mark bytes) refl

pub drop_front : (front bytes : List ℕ) → drop (length front) (front ++ bytes) ≡ bytes
drop_front [] bytes = refl
drop_front (x ∷ front) bytes = drop_front front bytes

other_way : (a b : ℕ) → (a == b) ≡ false → (b == a) ≡ false
other_way a b h = elim (b == a) as (λ x. (b == a) ≡ x → x ≡ false) [
  | true ↦ λ same. absurd (apart a b h (sym (eqb-true b a same)))
  | false ↦ λ same. refl
] refl
  where
    apart : (a b : ℕ) → (a == b) ≡ false → a ≡ b → ⊥
    apart a b unlike same = let alike : (a == b) ≡ true = eq-eqb a b same in cc

-- a mark without a byte does not reach over that byte
no_overlap : (m : ℕ) (ms front rest : List ℕ) → is_without m ms ≡ true
    → starts_with nat_eq front ms ≡ false → starts_with nat_eq (front ++ m ∷ rest) ms ≡ false
no_overlap m [] [] rest h unlike = absurd cc
no_overlap m [] (x ∷ front) rest h unlike = absurd cc
no_overlap m (z ∷ ms) [] rest h unlike =
    let apart : (m == z) ≡ false =
    not_true (m == z) (both_first (not (m == z)) (is_without m ms) h) in
    rw (other_way m z apart) refl
no_overlap m (z ∷ ms) (x ∷ front) rest h unlike =
    elim (z == x) as (λ t. (t && starts_with nat_eq front ms) ≡ false
    → (t && starts_with nat_eq (front ++ m ∷ rest) ms) ≡ false) [
      | true ↦ λ later. no_overlap m ms front rest
          (both_second (not (m == z)) (is_without m ms) h) later
      | false ↦ λ later. refl
    ] unlike

-- a cut that is none
cut_none : (b : Bool) (here : Parts) (x : ℕ) (later : Option Parts)
    → (if b then Some here else option_map (λ p. (x ∷ p.0, p.1)) later) ≡ None
    → (b ≡ false) × (later ≡ None)
cut_none true here x later h = absurd cc
cut_none false here x None h = (refl, refl)
cut_none false here x (Some p) h = absurd cc

-- a mark whose first byte is in it nowhere else is found where it is put after bytes that have no
-- such mark
pub finds_mark : (m : ℕ) (ms front bytes : List ℕ) → is_without m ms ≡ true
    → cut (m ∷ ms) front ≡ None → cut (m ∷ ms) (front ++ (m ∷ ms ++ bytes)) ≡ Some (front, bytes)
finds_mark m ms [] bytes h none =
    rw (begins_itself (m ∷ ms) bytes)
    (ap (λ (left : List ℕ). Some ([], left)) (drop_front (m ∷ ms) bytes))
finds_mark m ms (x ∷ front) bytes h none =
    let parts = cut_none (starts_with nat_eq (x ∷ front) (m ∷ ms))
    ([], drop (length (m ∷ ms)) (x ∷ front)) x (cut (m ∷ ms) front) none in
    let here : starts_with nat_eq (x ∷ (front ++ (m ∷ ms ++ bytes))) (m ∷ ms) ≡ false =
    elim (m == x) as (λ t. (t && starts_with nat_eq front ms) ≡ false
    → (t && starts_with nat_eq (front ++ (m ∷ ms ++ bytes)) ms) ≡ false) [
      | true ↦ λ later. no_overlap m ms front (ms ++ bytes) h later
      | false ↦ λ later. refl
    ] parts.0 in
    let rest : cut (m ∷ ms) (front ++ (m ∷ ms ++ bytes)) ≡ Some (front, bytes) =
    finds_mark m ms front bytes h parts.1 in
    rw (here, rest) refl
