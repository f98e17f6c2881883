-- The items of an array as a list of values: what is said of them, one more at a time, and how deep
-- they nest.
use Rattle.std.proofs.Common.{◌≡◌, ℕ, List, map, option_map, slice_get, ◌==◌, [], ◌∷◌, length, Bool}
use Rattle.std.proofs.Common.{true, false, not, Some, refl, ap, sym, suc, ◌∙◌, rules, ◌<◌, ◌||◌}
use Rattle.std.proofs.Common.{get_or, ◌-◌, ◌+◌, max, nat_le, drop, arith, add-one, Vec, Global}
use Rattle.std.proofs.Common.{BTreeMap, String, ◌++◌, take, append_assoc}
use Rattle.std.proofs.lemmas.{Option.slice_get-map, Bool.Decides.nat_tests}
use Rattle.serde_json.specs.{View.view, View.items_view, View.members_view, Find.get, Find.as_array}
use Rattle.serde_json.specs.declared.value.Value.{Value, Array, Object}
use Rattle.std.{specs.List.list_any, proofs.Math.Seq.drop-cons}
use Rattle.std.proofs.lemmas.List.{Folds.list_any_at, append-nil, length-map, length-take-le}
use Rattle.serde_json.specs.Data.{Data, array, Items, depth, items_depth, members_depth}
use Rattle.wcif.specs.{Members.listed, Members.list_at, Rounds.is_any, Told.told, Told.told_from}
use Rattle.serde_json.proofs.Views.{view-Array, view-Object}
use Rattle.wcif.proofs.Numbered.{viewed_more}

pub viewed_at : (vs : List Value) (place : ℕ)
    → slice_get (map view vs) place ≡ option_map view (slice_get vs place)
viewed_at vs place = slice_get-map view vs place

pub listed-items_view : (vs : List Value) → listed (items_view vs) ≡ map view vs
listed-items_view [] = refl
listed-items_view (v ∷ vs) = ap (λ ds. view v ∷ ds) (listed-items_view vs)

-- a list that is found under a name
pub list_found : (name : List ℕ) (d found : Data) (vs slice : List Value)
    → Some found ≡ get name d → Some (items_view vs) ≡ as_array found → slice ≡ vs
    → Some (map view slice) ≡ list_at name d
list_found name d found vs slice at is same =
    rw (← at, ← is, same) (ap Some (sym (listed-items_view vs)))

later : (n : ℕ) → (suc n == 0) ≡ false
later n = search rules

-- a list is anything but an empty one where it has an item
pub any_list : (found : Data) (vs : List Value) → Some (items_view vs) ≡ as_array found
    → is_any (Some found) ≡ not (length vs == 0)
any_list (array ds) vs is = step ds vs (cc)
  where
    step : (ds : Items) (vs : List Value) → items_view vs ≡ ds
        → is_any (Some (array ds)) ≡ not (length vs == 0)
    step ds [] same = rw (← same) refl
    step ds (v ∷ vs) same = rw (← same, later (length vs)) refl
any_list _ vs is = absurd (cc)

-- a test of what f makes of each
pub any_map : {A B : Type 0} (p : B → Bool) (f : A → B) (xs : List A)
    → list_any p (map f xs) ≡ list_any (λ x. p (f x)) xs
any_map p f [] = refl
any_map p f (x ∷ xs) = ap (λ later. p (f x) || later) (any_map p f xs)

-- an item that passes, as a loop finds it
pub any_viewed : (p : Data → Bool) (vs : List Value) (i : ℕ) (v : Value) → i < length vs
    → v ≡ get_or vs i v → p (view v) ≡ true → true ≡ list_any p (map view vs)
any_viewed p vs i v within is passes =
    sym (any_map p view vs
    ∙ list_any_at (λ x. p (view x)) vs i v within (ap (λ x. p (view x)) (sym is) ∙ passes))

below : (a n : ℕ) → 0 < n → nat_le (suc a) n ≡ nat_le a (n - 1)
below a n some = grind (arith, nat_tests)

pub array_depth : (v : Value) (vs : Vec Value Global) (n : ℕ) → v ≡ Array vs → 0 < n
    → nat_le (depth (view v)) n ≡ nat_le (items_depth (items_view vs.items)) (n - 1)
array_depth v vs n is some =
    rw (is, view-Array vs) (below (items_depth (items_view vs.items)) n some)

pub object_depth : (v : Value) (m : BTreeMap (String Global) Value) (n : ℕ) → v ≡ Object m → 0 < n
    → nat_le (depth (view v)) n ≡ nat_le (members_depth (members_view m.entries)) (n - 1)
object_depth v m n is some =
    rw (is, view-Object m) (below (members_depth (members_view m.entries)) n some)

pub above_max : (a b n : ℕ) → nat_le a n ≡ false → nat_le (max a b) n ≡ false
above_max a b n over = grind (arith, nat_tests)

pub within_max : (a b n : ℕ) → nat_le a n ≡ true → nat_le (max a b) n ≡ nat_le b n
within_max a b n inside = grind (arith, nat_tests)

-- the items from a place on
pub at_item : (vs : List Value) (i n : ℕ) (v : Value) → i < length vs → v ≡ get_or vs i v
    → nat_le (items_depth (items_view (drop i vs))) n
    ≡ nat_le (max (depth (view v)) (items_depth (items_view (drop (i + 1) vs)))) n
at_item vs i n v within is = rw (drop-cons vs i v within, ← is, add-one i) refl

from_more : {A B : Type 0} (f : List A → A → List B) (earlier xs : List A) (x : A)
    → told_from f earlier (xs ++ x ∷ []) ≡ told_from f earlier xs ++ f (earlier ++ xs) x
from_more f earlier [] x = rw (append-nil (f earlier x), append-nil earlier) refl
from_more f earlier (y ∷ ys) x =
    rw (from_more f (earlier ++ y ∷ []) ys x, append_assoc earlier (y ∷ []) ys) (sym
    (append_assoc (f earlier y) (told_from f (earlier ++ y ∷ []) ys) (f (earlier ++ y ∷ ys) x)))

pub told_none : {A B : Type 0} (f : List A → A → List B) → told f [] ≡ []
unfolding told
told_none f = refl

pub told_more : {A B : Type 0} (f : List A → A → List B) (xs : List A) (x : A)
    → told f (xs ++ x ∷ []) ≡ told f xs ++ f xs x
unfolding told
told_more f xs x = from_more f [] xs x

-- the same of values of JSON, as a loop goes on
pub told_viewed : {B : Type 0} (f : List Data → Data → List B) (vs : List Value) (i : ℕ) (d : Value)
    → i < length vs → told f (map view (take (i + 1) vs))
    ≡ told f (map view (take i vs)) ++ f (map view (take i vs)) (view (get_or vs i d))
told_viewed f vs i d within =
    ap (told f) (viewed_more vs i d within)
    ∙ told_more f (map view (take i vs)) (view (get_or vs i d))

-- what a loop has added so far, and what it adds next
pub adds_next : {B : Type 0} (f : List Data → Data → List B) (vs : List Value) (i : ℕ) (v : Value)
    (old mid new : List B) → i < length vs → v ≡ get_or vs i v
    → mid ≡ old ++ told f (map view (take i vs)) → new ≡ mid ++ f (map view (take i vs)) (view v)
    → new ≡ old ++ told f (map view (take (i + 1) vs))
adds_next f vs i v old mid new within is so_far next =
    next ∙ ap (λ front. front ++ f (map view (take i vs)) (view v)) so_far
    ∙ append_assoc old (told f (map view (take i vs))) _
    ∙ ap (λ w. old ++ (told f (map view (take i vs)) ++ f (map view (take i vs)) (view w))) is
    ∙ ap (λ more. old ++ more) (sym (told_viewed f vs i v within))

-- nothing is said of no items
pub adds_none : {B : Type 0} (f : List Data → Data → List B) (old : List B) → old ≡ old ++ told f []
adds_none f old = sym (ap (λ more. old ++ more) (told_none f) ∙ append-nil old)

-- how many are in front
pub in_front : (vs : List Value) (i : ℕ) → i < length vs → length (map view (take i vs)) ≡ i
in_front vs i within =
    length-map (take i vs) view ∙ length-take-le i vs (omega arith)
