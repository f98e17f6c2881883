-- The first item that gives anything, as a loop comes to it, and the groups one level down.
use Rattle.std.proofs.Common.{◌≡◌, ◌<◌, ◌-◌, ◌+◌, ℕ, zero, suc, List, map, length, get_or, drop}
use Rattle.std.proofs.Common.{◌∷◌, Option, None, Some, Bool, true, false, is_some, cond, flat_map, refl}
use Rattle.std.proofs.Common.{ap, sym, ◌∙◌, arith, add-one}
use Rattle.std.specs.Prelude.{find, ◌≢◌, filter_map, slice_get}
use Rattle.std.specs.{List.cons_option, Option.option_or}
use Rattle.std.proofs.Math.Seq.{drop-cons}
use Rattle.std.proofs.lemmas.Bool.{false≢true}
use Rattle.serde_json.specs.Data.{Data}
use Rattle.serde_json.specs.View.{view}
use Rattle.serde_json.specs.declared.value.Value.{Value}
use Rattle.competition_file.specs.Groups.{groups_down, level_name}
use Rattle.competition_file.specs.Items.{items_under}

this_or : {B : Type 0} (o : Option B) (later : List B)
    → slice_get (cons_option o later) 0 ≡ option_or o (slice_get later 0)
this_or None later = refl
this_or (Some b) later = refl

module _ {V A : Type 0} (view : V → A) where
  -- what the first of these gives that gives anything
  abbrev pub first : {B : Type 0} → (A → Option B) → List V → Option B
  first f vs = slice_get (filter_map f (map view vs)) 0

  -- the items from a place on
  at_item : {B : Type 0} (f : A → Option B) (vs : List V) (i : ℕ) (v : V) (o : Option B)
      → i < length vs → v ≡ get_or vs i v → o ≡ f (view v)
      → option_or o (first f (drop (i + 1) vs)) ≡ first f (drop i vs)
  at_item f vs i v o within is gives =
      sym
      (ap (first f) (drop-cons vs i v within)
      ∙ ap (λ w. first f (w ∷ drop (suc i) vs)) (sym is)
      ∙ this_or (f (view v)) (filter_map f (map view (drop (suc i) vs)))
      ∙ ap (λ p. option_or p (first f (drop (suc i) vs))) (sym gives)
      ∙ ap (λ (k : ℕ). option_or o (first f (drop k vs))) (sym (add-one i)))

  -- an item that gives nothing is passed over
  pub passed : {B : Type 0} (f : A → Option B) (vs : List V) (i : ℕ) (v : V) (o : Option B)
      → i < length vs → v ≡ get_or vs i v → o ≡ f (view v) → is_some o ≡ false
      → first f (drop (i + 1) vs) ≡ first f (drop i vs)
  passed f vs i v None within is gives none = at_item f vs i v None within is gives
  passed f vs i v (Some b) within is gives none = absurd (false≢true (sym none))

  -- one that gives something is the first
  pub found_first : {B : Type 0} (f : A → Option B) (vs : List V) (i : ℕ) (v : V) (o : Option B)
      → i < length vs → v ≡ get_or vs i v → o ≡ f (view v) → is_some o ≡ true
      → o ≡ first f (drop i vs)
  found_first f vs i v None within is gives some = absurd (false≢true some)
  found_first f vs i v (Some b) within is gives some = at_item f vs i v (Some b) within is gives

-- the first item that passes, from a place on
pub found_at : (p : Data → Bool) (vs : List Value) (i : ℕ) (v : Value)
    → i < length vs → v ≡ get_or vs i v
    → find p (map view (drop i vs))
    ≡ cond (p (view v)) (Some (view v)) (find p (map view (drop (i + 1) vs)))
found_at p vs i v within is =
    ap (λ ws. find p (map view ws)) (drop-cons vs i v within)
    ∙ ap (λ w. cond (p (view w)) (Some (view w)) (find p (map view (drop (suc i) vs)))) (sym is)
    ∙ ap (λ (k : ℕ). cond (p (view v)) (Some (view v)) (find p (map view (drop k vs))))
    (sym (add-one i))

one_less : (n : ℕ) → n ≡ suc n - 1
one_less n = omega arith

pub one_down : (front : List ℕ) (n : ℕ) (d : Data) → n ≢ 0
    → groups_down front n d
    ≡ flat_map (groups_down front (n - 1)) (items_under (level_name n) d)
one_down front zero d some = absurd (some refl)
one_down front (suc n) d some =
    ap (λ (k : ℕ). flat_map (groups_down front k) (items_under (level_name (suc n)) d)) (one_less n)
