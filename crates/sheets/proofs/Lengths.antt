-- How long lists are that are put together, and what is known of an entrant that a sheet shows.
use Rattle.std.proofs.Common.{◌≡◌, ℕ, ◌+◌, ◌-◌, ◌*◌, ◌≤◌, List, [], ◌∷◌, ◌++◌, length, replicate}
use Rattle.std.proofs.Common.{flat_map, Option, Some, None, IfSome, unwrap_or, refl, arith}
use Rattle.std.proofs.Common.{length-append, eqb-true, sym, ◌∙◌}
use Rattle.std.specs.List.{AllByRecursion, position_or_len}
use Rattle.std.proofs.{Math.Nat.mul-suc, lemmas.List.Elements.All-from_recursion}
use Rattle.std.proofs.lemmas.List.{length-replicate, Sums.count_by-le-length, Folds.find_at}
use Rattle.formats.specs.{Results.is_better, Events.attempts_of}
use Rattle.formats.specs.declared.events.Format.{Format, TheVariants.Ao5}
use Rattle.rounds.specs.Tables.{Entrant, Table, has_number, entrant, key, place}
use Rattle.commands.proofs.{Sizes.IsSmallEntrant, Sizes.IsSmallName, Places.find_passes}
use Rattle.sheets.specs.Sheet.{right}
use Rattle.rounds.proofs.KeyOrder.{at_index}

-- Lists

pub append_short : (a b : ℕ) (xs ys : List ℕ) → length xs ≤ a → length ys ≤ b
    → length (xs ++ ys) ≤ a + b
append_short a b xs ys x y = let long = length-append xs ys in omega (arith, long, x, y)

pub right_short : (width most : ℕ) (text : List ℕ) → width ≤ most → length text ≤ most
    → length (right width text) ≤ most
right_short width most text wide short =
    let long = length-append (replicate (width - length text) 32) text in
    let space : ℕ = 32 in
    let spaces = length-replicate (width - length text) space in
    omega (arith, long, spaces, wide, short)

-- lists of at most this many items each
pub each_short : (most : ℕ) (f : ℕ → List ℕ) → ((n : ℕ) → length (f n) ≤ most) → (ns : List ℕ)
    → length (flat_map f ns) ≤ most * length ns
each_short most f each [] = omega arith
each_short most f each (n ∷ ns) =
    let long = length-append (f n) (flat_map f ns) in
    let more = mul-suc most (length ns) in
    let first = each n in
    let rest = each_short most f each ns in
    omega (arith, long, more, first, rest)

-- Entrants

-- the entrant that is shown has the number, and its parts are in their ranges
pub record IsShown (n : ℕ) (e : Entrant) : Type 0 where
  pub number : n ≤ 9999
  pub parts : IsSmallEntrant e

pub shown : (t : Table) → AllByRecursion IsSmallEntrant t.entrants → (n : ℕ)
    → IfSome (entrant t n) (IsShown n)
shown t are n = step (entrant t n) refl
  where
    step : (o : Option Entrant) → entrant t n ≡ o → IfSome o (IsShown n)
    step None is = tt
    step (Some e) is =
        let small =
        at_index IsSmallEntrant t.entrants (position_or_len (has_number n) t.entrants) e
        (All-from_recursion IsSmallEntrant t.entrants are)
        (sym (find_at (has_number n) t.entrants) ∙ is) in
        let same = eqb-true n e.number (find_passes (has_number n) t.entrants e is) in
        record { number = omega (arith, same, small.number); parts = small }

pub place_small : (t : Table) → length t.entrants ≤ 999 → (e : Entrant) → place t e ≤ 1000
place_small t few e = let less =
    count_by-le-length (λ other. is_better (key t other) (key t e)) t.entrants in
    omega (arith, less, few)

-- a name has at most 160 bytes, each double quote in it counted twice
pub name_given_small : (name : Option (List ℕ)) → IfSome name IsSmallName
    → IsSmallName (unwrap_or name [])
name_given_small None h = omega arith
name_given_small (Some name) h = h

pub name_given_short : (name : Option (List ℕ)) → IfSome name IsSmallName
    → length (unwrap_or name []) ≤ 160
name_given_short name h = let small = name_given_small name h in omega (arith, small)

pub at_most_five : (format : Format) → attempts_of format ≤ 5
at_most_five Ao5 = omega arith
at_most_five _ = omega arith
