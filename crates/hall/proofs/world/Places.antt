-- The desks of a hall, by their numbers.
use Rattle.std.proofs.Common.{◌≡◌, ℕ, zero, suc, ◌+◌, ◌-◌, ◌<◌, ◌≤◌, Bool, true, false, ◌==◌, List}
use Rattle.std.proofs.Common.{if◌then◌else◌, [], ◌∷◌, set, get_or, refl, sym, ap, ◌∙◌, subst, arith}
use Rattle.std.proofs.{Common.Some, Common.length, Common.slice_get, Math.Path.fun_ext}
use Rattle.std.proofs.lemmas.{Bool.Decides.nat_tests, Option.slice_get-get_or}
use Rattle.learner.specs.{Desks.Desk, Steps.IsDesk, Steps.is_desk, Worlds.put}
use Rattle.replica.specs.roles.model.RunningDesks.{RunningDesk}
use Rattle.hall.specs.world.model.Halls.{desk_from, known_by, AreNumbered}

-- there are n desks
pub count_from : (n first : ℕ) (places : List RunningDesk) → AreNumbered n first places
    → first + length places ≡ n + 1
count_from n first [] h = let e : first ≡ n + 1 = h in omega arith
count_from n first (x ∷ xs) h = let k = count_from n (suc first) xs h.2 in omega arith

pub place_less : (n d : ℕ) (places : List RunningDesk) → AreNumbered n 1 places → is_desk n d ≡ true
    → d - 1 < length places
place_less n d places h ours =
    let count = count_from n 1 places h in
    let low : 1 ≤ d = grind (arith, nat_tests) in
    let high : d ≤ n = grind (arith, nat_tests) in
    omega arith

-- what is read at its place is the desk there
pub here_at : (n d : ℕ) (places : List RunningDesk) (x : RunningDesk) → AreNumbered n 1 places
    → is_desk n d ≡ true → x ≡ get_or places (d - 1) x → slice_get places (d - 1) ≡ Some x
here_at n d places x h ours is =
    slice_get-get_or places (d - 1) x (place_less n d places h ours)
    ∙ ap (λ (y : RunningDesk). Some y) (sym is)

pub desk_test : (n d : ℕ) → IsDesk n d → is_desk n d ≡ true
desk_test n d h = let low = h.0 in let high = h.1 in grind (arith, nat_tests)

-- the desk at a place
pub record Stands (n : ℕ) (places : List RunningDesk) (d : ℕ) (x : RunningDesk) : Type 0 where
  pub number : x.number ≡ d
  pub desks : x.desks ≡ n

stands_from : (n first k : ℕ) (places : List RunningDesk) (x : RunningDesk)
    → AreNumbered n first places → slice_get places k ≡ Some x → Stands n places (first + k) x
stands_from n first k [] x h e = absurd cc
stands_from n first zero (y ∷ ys) x h e =
    let same : y ≡ x = cc in
    let here : first ≡ first + 0 = omega arith in
    record {
      number = sym (ap (λ z. z.number) same) ∙ h.0 ∙ here;
      desks = sym (ap (λ z. z.desks) same) ∙ h.1;
    }
stands_from n first (suc k) (y ∷ ys) x h e =
    let s = stands_from n (suc first) k ys x h.2 e in
    let place : suc first + k ≡ first + suc k = omega arith in
    record { number = s.number ∙ place; desks = s.desks }

pub stands : (n d : ℕ) (places : List RunningDesk) (x : RunningDesk) → AreNumbered n 1 places
    → is_desk n d ≡ true → slice_get places (d - 1) ≡ Some x → Stands n places d x
stands n d places x h ours e =
    let low : 1 ≤ d = grind (arith, nat_tests) in
    let place : 1 + (d - 1) ≡ d = omega arith in
    subst (λ k. Stands n places k x) place (stands_from n 1 (d - 1) places x h e)

-- what the desk at a place knows
known_from : (first k : ℕ) (places : List RunningDesk) (x : RunningDesk)
    → slice_get places k ≡ Some x → desk_from first (known_by places) (first + k) ≡ x.desk
known_from first k [] x e = absurd cc
known_from first zero (y ∷ ys) x e =
    let same : y ≡ x = cc in
    let here : (first == first + 0) ≡ true = grind (arith, nat_tests) in
    ap (λ t. if t then y.desk else desk_from (suc first) (known_by ys) (first + 0)) here
    ∙ ap (λ z. z.desk) same
known_from first (suc k) (y ∷ ys) x e =
    let place : first + suc k ≡ suc first + k = omega arith in
    let other : (first == first + suc k) ≡ false = grind (arith, nat_tests) in
    ap (λ t. if t then y.desk else desk_from (suc first) (known_by ys) (first + suc k)) other
    ∙ ap (desk_from (suc first) (known_by ys)) place ∙ known_from (suc first) k ys x e

pub known_at : (n d : ℕ) (places : List RunningDesk) (x : RunningDesk) → is_desk n d ≡ true
    → slice_get places (d - 1) ≡ Some x → x.desk ≡ desk_from 1 (known_by places) d
known_at n d places x ours e =
    let low : 1 ≤ d = grind (arith, nat_tests) in
    let place : 1 + (d - 1) ≡ d = omega arith in
    sym (known_from 1 (d - 1) places x e) ∙ ap (desk_from 1 (known_by places)) place

-- another desk in the place of one of the same number
numbered_from : (n first k : ℕ) (places : List RunningDesk) (x y : RunningDesk)
    → AreNumbered n first places → slice_get places k ≡ Some x → y.number ≡ x.number
    → y.desks ≡ x.desks → AreNumbered n first (set places k y)
numbered_from n first k [] x y h e number desks = h
numbered_from n first zero (z ∷ zs) x y h e number desks =
    let same : x ≡ z = cc in
    (number ∙ ap (λ v. v.number) same ∙ h.0, desks ∙ ap (λ v. v.desks) same ∙ h.1, h.2)
numbered_from n first (suc k) (z ∷ zs) x y h e number desks =
    (h.0, h.1, numbered_from n (suc first) k zs x y h.2 e number desks)

pub numbered_set : (n d : ℕ) (places : List RunningDesk) (x y : RunningDesk)
    → AreNumbered n 1 places → slice_get places (d - 1) ≡ Some x → y.number ≡ x.number
    → y.desks ≡ x.desks → AreNumbered n 1 (set places (d - 1) y)
numbered_set n d places x y h e number desks = numbered_from n 1 (d - 1) places x y h e number desks

set_desk : (first k : ℕ) (places : List RunningDesk) (x y : RunningDesk)
    → slice_get places k ≡ Some x → (d : ℕ) → desk_from first (known_by (set places k y)) d
    ≡ put (desk_from first (known_by places)) (first + k) y.desk d
set_desk first k [] x y e d = absurd cc
set_desk first zero (z ∷ zs) x y e d =
    let here : first ≡ first + 0 = omega arith in
    ap (λ m. if m == d then y.desk else desk_from (suc first) (known_by zs) d) here
    ∙ by_test (first == d) ((first + 0) == d) (ap (λ m. m == d) here)
  where
    by_test : (t s : Bool) → t ≡ s → (if s then y.desk else desk_from (suc first) (known_by zs) d)
        ≡ (if s then y.desk else (if t then z.desk else desk_from (suc first) (known_by zs) d))
    by_test t true e = refl
    by_test false false e = refl
    by_test true false e = absurd cc
set_desk first (suc k) (z ∷ zs) x y e d =
    let place : suc first + k ≡ first + suc k = omega arith in
    by_test (first == d) ((first + suc k) == d) (λ a b. grind (arith, nat_tests))
    (set_desk (suc first) k zs x y e d
    ∙ ap (λ m. put (desk_from (suc first) (known_by zs)) m y.desk d) place)
  where
    by_test : (t s : Bool) → (t ≡ true → s ≡ true → ⊥)
        → desk_from (suc first) (known_by (set zs k y)) d
        ≡ (if s then y.desk else desk_from (suc first) (known_by zs) d)
        → (if t then z.desk else desk_from (suc first) (known_by (set zs k y)) d)
        ≡ (if s then y.desk else (if t then z.desk else desk_from (suc first) (known_by zs) d))
    by_test true true not r = absurd (not refl refl)
    by_test true false not r = refl
    by_test false true not r = r
    by_test false false not r = r

-- the desk of number d is replaced
pub put_desk : (n d : ℕ) (places : List RunningDesk) (x y : RunningDesk) → is_desk n d ≡ true
    → slice_get places (d - 1) ≡ Some x
    → desk_from 1 (known_by (set places (d - 1) y)) ≡ put (desk_from 1 (known_by places)) d y.desk
put_desk n d places x y ours e =
    let low : 1 ≤ d = grind (arith, nat_tests) in
    let place : 1 + (d - 1) ≡ d = omega arith in
    fun_ext (λ k. set_desk 1 (d - 1) places x y e k
    ∙ ap (λ m. put (desk_from 1 (known_by places)) m y.desk k) place)

-- one that knows the same in its place changes nothing
pub known_same : (k : ℕ) (places : List RunningDesk) (x y : RunningDesk)
    → slice_get places k ≡ Some x → y.desk ≡ x.desk → known_by (set places k y) ≡ known_by places
known_same k [] x y e same = refl
known_same zero (z ∷ zs) x y e same =
    let here : x ≡ z = cc in ap (λ v. v ∷ known_by zs) (same ∙ ap (λ v. v.desk) here)
known_same (suc k) (z ∷ zs) x y e same = ap (λ vs. z.desk ∷ vs) (known_same k zs x y e same)

-- to put a desk where it is changes nothing
pub put_same : (desks : ℕ → Desk) (d : ℕ) (x : Desk) → x ≡ desks d → put desks d x ≡ desks
put_same desks d x same = fun_ext (λ k. go k (d == k) refl)
  where
    go : (k : ℕ) (t : Bool) → (d == k) ≡ t → (if t then x else desks k) ≡ desks k
    go k true e = let here : d ≡ k = grind (arith, nat_tests) in same ∙ ap desks here
    go k false e = refl
