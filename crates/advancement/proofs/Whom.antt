-- A number is among those who advance exactly where its entrant does.
use Rattle.std.proofs.Common.{◌≡◌, Bool, true, false, cond, filter, nat_eq, Option, arith, eqb-true}
use Rattle.std.proofs.Common.{ℕ, ◌||◌, ◌&&◌, List, [], ◌∷◌, map, find, Some, refl, sym, ap, ◌∙◌}
use Rattle.std.specs.List.{list_any, Sorted.IsPermutation}
use Rattle.std.proofs.lemmas.List.{Elements.filter_agree, Sorted.list_any-IsPermutation}
use Rattle.std.proofs.lemmas.{Map.Views.any-filter_same, Bool.Decides.nat_tests}
use Rattle.rounds.specs.Tables.{Entrant, Table, entrant, has_number, number_of_entrant, standings}
use Rattle.formats.specs.declared.advance.Advance.{Advance}
use Rattle.advancement.specs.Advancing.{holds_of, is_before, IsBorder, advances, goes_on, advancing}

-- of those of the standings that are kept
pub kept_is : (t : Table) (advance : Advance) (border : ℕ) (kept numbers : List ℕ)
    → kept ≡ filter (λ n. holds_of (is_before t border) (entrant t n)) numbers
    → IsBorder t advance border → numbers ≡ standings t → kept ≡ advancing t advance
kept_is t advance border kept numbers is law all =
    is
    ∙ filter_agree (λ n. holds_of (is_before t border) (entrant t n)) (goes_on t advance)
    (λ n. sym (law n)) numbers
    ∙ ap (filter (goes_on t advance)) all

flips : (x y : ℕ) → nat_eq x y ≡ nat_eq y x
flips x y = grind (arith, nat_tests)

-- the first entrant of a number is the one with that number
found_or : (test : Entrant → Bool) (here : Bool) (e : Entrant) (rest : Option Entrant)
    (others : Bool) → (holds_of test rest && others) ≡ holds_of test rest
    → (holds_of test (cond here (Some e) rest) && (here || others))
    ≡ holds_of test (cond here (Some e) rest)
found_or test true e rest others h = and_true (test e)
  where
    and_true : (b : Bool) → (b && true) ≡ b
    and_true true = refl
    and_true false = refl
found_or test false e rest others h = h

-- an entrant that is found is among the entrants
pub among_entrants : (test : Entrant → Bool) (n : ℕ) (es : List Entrant)
    → (holds_of test (find (has_number n) es) && list_any (λ m. nat_eq m n)
    (map number_of_entrant es)) ≡ holds_of test (find (has_number n) es)
among_entrants test n [] = refl
among_entrants test n (e ∷ es) =
    ap (λ b.
    holds_of test (cond (has_number n e) (Some e) (find (has_number n) es)) &&
    (b || list_any (λ m. nat_eq m n) (map number_of_entrant es))) (flips e.number n)
    ∙ found_or test (has_number n e) e (find (has_number n) es)
    (list_any (λ m. nat_eq m n) (map number_of_entrant es)) (among_entrants test n es)

pub is_advancing : (t : Table) (advance : Advance)
    → IsPermutation (map number_of_entrant t.entrants) (standings t) → (n : ℕ)
    → list_any (λ m. nat_eq m n) (advancing t advance) ≡ goes_on t advance n
is_advancing t advance all n =
    any-filter_same (λ m. nat_eq m n) (goes_on t advance) (goes_on t advance n)
    (λ m same. ap (goes_on t advance) (eqb-true m n same)) (standings t)
    ∙ ap (λ b. goes_on t advance n && b) (sym
    (list_any-IsPermutation (λ m. nat_eq m n) (map number_of_entrant t.entrants) (standings t) all))
    ∙ among_entrants (advances t advance) n t.entrants
