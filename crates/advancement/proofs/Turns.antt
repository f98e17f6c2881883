-- Those who wait, by the border of their round, and whose turn it is.
use Rattle.std.proofs.Common.{◌≡◌, ℕ, zero, suc, ◌==◌, ◌&&◌, ◌||◌, not, Bool, true, false, cond}
use Rattle.std.proofs.Common.{List, [], ◌∷◌, map, filter, find, take, slice_get, nat_eq, Option}
use Rattle.std.proofs.Common.{Some, None, refl, sym, ap, ◌∙◌, arith, eq-eqb, eqb-true}
use Rattle.std.specs.List.{list_any, IsDistinct, AllByRecursion, Sorted.IsPermutation}
use Rattle.std.proofs.lemmas.List.{Elements.filter_agree, Sorted.list_any-IsPermutation}
use Rattle.std.proofs.lemmas.Map.Views.{any-filter_same}
use Rattle.formats.specs.declared.advance.Advance.{Advance}
use Rattle.rounds.specs.Tables.{Entrant, Table, entrant, number_of_entrant, standings}
use Rattle.advancement.specs.Advancing.{has_result, holds_of, is_before, IsBorder, advances}
use Rattle.advancement.{specs.Advancing.goes_on, proofs.Whom.among_entrants}
use Rattle.advancement.specs.Waiting.{waits, stays_out, waiting, is_behind, next_of, IsTakenInTurn}

-- who waits is who is not placed before the border, with a result
behind_is : (t : Table) (advance : Advance) (border : ℕ) → IsBorder t advance border → (n : ℕ)
    → holds_of (is_behind t border) (entrant t n) ≡ stays_out t advance n
behind_is t advance border law n = step (entrant t n) (law n)
  where
    step : (o : Option Entrant) → holds_of (advances t advance) o ≡ holds_of (is_before t border) o
        → holds_of (is_behind t border) o ≡ holds_of (waits t advance) o
    step None h = refl
    step (Some e) h = ap (λ b. has_result e && not b) (sym h)

-- of those of the standings that are kept
pub waiting_is : (t : Table) (advance : Advance) (border : ℕ) (kept numbers : List ℕ)
    → kept ≡ filter (λ n. holds_of (is_behind t border) (entrant t n)) numbers
    → IsBorder t advance border → numbers ≡ standings t → kept ≡ waiting t advance
waiting_is t advance border kept numbers is law all =
    is
    ∙ filter_agree (λ n. holds_of (is_behind t border) (entrant t n)) (stays_out t advance)
    (behind_is t advance border law) numbers
    ∙ ap (filter (stays_out t advance)) all

pub is_waiting : (t : Table) (advance : Advance)
    → IsPermutation (map number_of_entrant t.entrants) (standings t) → (n : ℕ)
    → list_any (λ m. nat_eq m n) (waiting t advance) ≡ stays_out t advance n
is_waiting t advance all n =
    any-filter_same (λ m. nat_eq m n) (stays_out t advance) (stays_out t advance n)
    (λ m same. ap (stays_out t advance) (eqb-true m n same)) (standings t)
    ∙ ap (λ b. stays_out t advance n && b) (sym
    (list_any-IsPermutation (λ m. nat_eq m n) (map number_of_entrant t.entrants) (standings t) all))
    ∙ among_entrants (waits t advance) n t.entrants

-- Whose turn it is

find_alike : (p q : ℕ → Bool) (ns : List ℕ) → AllByRecursion (λ n. p n ≡ q n) ns
    → find p ns ≡ find q ns
find_alike p q [] h = refl
find_alike p q (n ∷ ns) h =
    ap (λ b. cond b (Some n) (find p ns)) h.0 ∙ ap (cond (q n) (Some n)) (find_alike p q ns h.1)

-- the first number is none of the others
others_alike : (n : ℕ) (taken ns : List ℕ) → AllByRecursion (λ m. nat_eq n m ≡ false) ns
    → AllByRecursion (λ m. not (nat_eq n m || list_any (λ other. nat_eq other m) taken)
    ≡ not (list_any (λ other. nat_eq other m) taken)) ns
others_alike n taken [] h = tt
others_alike n taken (m ∷ ms) h = (
  ap (λ b. not (b || list_any (λ other. nat_eq other m) taken)) h.0,
  others_alike n taken ms h.1,
)

pub in_turn : (ns : List ℕ) → IsDistinct nat_eq ns → IsTakenInTurn ns
unfolding IsDistinct
in_turn [] once count = refl
in_turn (n ∷ ns) once zero = refl
in_turn (n ∷ ns) once (suc count) =
    let here : nat_eq n n ≡ true = eq-eqb n n refl in
    ap (λ b.
    cond (not (b || list_any (λ other. nat_eq other n) (take count ns))) (Some n) (find
    (λ m. not (nat_eq n m || list_any (λ other. nat_eq other m) (take count ns))) ns)) here
    ∙ find_alike (λ m. not (nat_eq n m || list_any (λ other. nat_eq other m) (take count ns)))
    (λ m. not (list_any (λ other. nat_eq other m) (take count ns))) ns
    (others_alike n (take count ns) ns once.0)
    ∙ in_turn ns once.1 count
