-- The rows that go by their first column are those of a log, in its order.
use Rattle.std.proofs.Common.{◌≡◌, ℕ, zero, suc, pos, ◌+◌, ◌<◌, ◌≤◌, false, List, [], ◌∷◌, map}
use Rattle.std.proofs.Common.{length, get_or, slice_get, Option, Some, None, refl, sym, ap, ap₂}
use Rattle.std.proofs.Common.{subst, ◌∙◌, arith, add-zero, zero-add, int_cmp, take, length-take-le}
use Rattle.std.proofs.Common.{◌^◌, IsPermutation, IsSorted}
use Rattle.std.specs.{List.AllByRecursion, Cmp.on_total, Cmp.nat_cmp_total}
use Rattle.std.specs.declared.cmp.Ordering.{Ordering, TheVariants.Less, TheVariants.Equal}
use Rattle.std.specs.Ordering.{nat_cmp, on, is_lt, ordering_then}
use Rattle.std.proofs.lemmas.{Int.ints, Bool.Decides.nat_tests}
use Rattle.std.proofs.lemmas.List.{get_or-map, length-map, Sorted.IsPermutation-trans}
use Rattle.sqlite_keyed.proofs.SortLemmas.{sorted_unique}
use Rattle.sqlite_trees.proofs.ListLemmas.{all-permutation, all-get_or}
use Rattle.sqlite_value.proofs.OrderLemmas.{value_cmp-Int}
use Rattle.sqlite.specs.declared.types.Value.TheVariants.{Int, Blob}
use Rattle.sqlite.specs.Order.{Row, column, value_cmp}
use Rattle.acceptor.specs.declared.{entry.Entry.Entry, stored.Vote.Vote, stored.Stored.Stored}
use Rattle.store.specs.declared.home.Home.{Home}
use Rattle.sqlite.proofs.Callers.{one_permutation}
use Rattle.store.specs.Holding.{entry_values, log_values, entry_columns, shown_entry, by_first}
use Rattle.store.specs.Holding.{desk_values, desk_columns, shown_desk}
use Rattle.store.specs.model.Unique.{at_of, rises, length_values}

-- the first column is a position
abbrev IsPlaced : Row → Type 0
IsPlaced r = (n : ℕ) × (column r 0 ≡ Int (pos n))

all_placed : (at : ℕ) (log : List Entry) → AllByRecursion IsPlaced (log_values at log)
all_placed at [] = tt
all_placed at (e ∷ more) = ((at, refl), all_placed (at + 1) more)

at_is : (r : Row) (n : ℕ) → column r 0 ≡ Int (pos n) → at_of r ≡ n
at_is r n e = rw e refl

then_equal : (o : Ordering) → is_lt (ordering_then o Equal) ≡ is_lt o
then_equal Less = refl
then_equal _ = refl

as_nat : (m n : ℕ) → is_lt (int_cmp (pos m) (pos n)) ≡ is_lt (nat_cmp m n)
as_nat m n = grind (arith, ints, nat_tests)

not_before : (x y : Row) → IsPlaced x → IsPlaced y → is_lt (by_first x y) ≡ false
    → is_lt (nat_cmp (at_of x) (at_of y)) ≡ false
not_before x y px py h =
    let first : is_lt (by_first x y) ≡ is_lt (value_cmp (column x 0) (column y 0)) =
    then_equal (value_cmp (column x 0) (column y 0)) in
    let numbers : is_lt (value_cmp (column x 0) (column y 0))
    ≡ is_lt (value_cmp (Int (pos px.0)) (Int (pos py.0))) =
    ap₂ (λ u v. is_lt (value_cmp u v)) px.1 py.1 in
    let places : is_lt (value_cmp (Int (pos px.0)) (Int (pos py.0))) ≡ is_lt (nat_cmp px.0 py.0) =
    ap is_lt (value_cmp-Int (pos px.0) (pos py.0))
    ∙ as_nat px.0 py.0 in
    let here : is_lt (nat_cmp (at_of x) (at_of y)) ≡ is_lt (nat_cmp px.0 py.0) =
    ap₂ (λ (m n : ℕ). is_lt (nat_cmp m n)) (at_is x px.0 px.1) (at_is y py.0 py.1) in
    here ∙ sym places ∙ sym numbers ∙ sym first ∙ h

sorted_by_place : (rows : List Row) → AllByRecursion IsPlaced rows → IsSorted by_first rows
    → IsSorted (on at_of nat_cmp) rows
sorted_by_place rows all sorted k d low high =
    not_before (get_or rows (k + 1) d) (get_or rows k d)
    (all-get_or IsPlaced rows (k + 1) d all high)
    (all-get_or IsPlaced rows k d all (omega (arith, high))) (sorted k d low high)

columns_again : (at : ℕ) (log : List Entry)
    → map entry_columns (log_values at log) ≡ log_values at log
columns_again at [] = refl
columns_again at (e ∷ more) = ap (λ rows. entry_values at e ∷ rows) (columns_again (at + 1) more)

-- where the stored rows are a log's, what the query gave is that log
pub given_in_order : (stored given : List Row) → IsPermutation (map shown_entry stored) given
    → IsSorted by_first given → (log : List Entry)
    → IsPermutation (log_values 0 log) (map shown_entry stored)
    → map entry_columns given ≡ log_values 0 log
given_in_order stored given same sorted log held =
    let all = IsPermutation-trans _ _ _ held same in
    let is =
    sorted_unique (on at_of nat_cmp) (on_total at_of nat_cmp_total) (log_values 0 log) given
    (rises 0 log) all
    (sorted_by_place given (all-permutation IsPlaced _ _ all (all_placed 0 log)) sorted) in
    ap (map entry_columns) is ∙ columns_again 0 log

-- the entry at a position
at_entry : (at : ℕ) (log : List Entry) (i : ℕ) (d : Row) → i < length log
    → (e : Entry) × (slice_get log i ≡ Some e)
    × (get_or (log_values at log) i d ≡ entry_values (at + i) e)
at_entry at [] i d h = absurd (omega (arith, h))
at_entry at (e ∷ more) zero d h = (e, refl, ap (λ (n : ℕ). entry_values n e) (sym (add-zero at)))
at_entry at (e ∷ more) (suc i) d h =
    let later = at_entry (at + 1) more i d (omega (arith, h)) in
    let same : at + 1 + i ≡ at + suc i = omega arith in
    (later.0, later.1, later.2 ∙ ap (λ (n : ℕ). entry_values n later.0) same)

pub as_many : (rows : List Row) (log : List Entry) → map entry_columns rows ≡ log_values 0 log
    → length rows ≡ length log
as_many rows log same = sym (length-map rows entry_columns) ∙ ap length same ∙ length_values 0 log

pub row_at : (rows : List Row) (log : List Entry) (i : ℕ) (row : Row) → i < length rows
    → row ≡ get_or rows i row → map entry_columns rows ≡ log_values 0 log
    → (e : Entry) × (slice_get log i ≡ Some e) × (entry_columns row ≡ entry_values i e)
row_at rows log i row h is same =
    let found = at_entry 0 log i (entry_columns row) (omega (arith, h, as_many rows log same)) in
    let here : get_or (map entry_columns rows) i (entry_columns row)
    ≡ entry_columns (get_or rows i row) =
    get_or-map entry_columns rows i row (entry_columns row) h in (
      found.0,
      found.1,
      ap entry_columns is ∙ sym here
          ∙ ap (λ rs. get_or rs i (entry_columns row)) same ∙ found.2
          ∙ ap (λ (n : ℕ). entry_values n found.0) (zero-add i),
    )

-- the columns of that row
pub parts : (here : Row) (i : ℕ) (e : Entry) → entry_columns here ≡ entry_values i e
    → (column here 0 ≡ Int (pos i)) × (column here 1 ≡ Int (pos e.id))
    × (column here 2 ≡ Blob e.text)
parts here i e same = (cc, cc, cc)

pub same_place : (here : Row) (a b : ℕ) → column here 0 ≡ Int (pos a) → column here 0 ≡ Int (pos b)
    → a ≡ b
same_place here a b p q = let both = sym p ∙ q in cc

-- positions are below 65,536
pub few : (rows : List Row) (log : List Entry) (i : ℕ) → i < length rows
    → map entry_columns rows ≡ log_values 0 log → length log ≤ 65536 → i < 65536
few rows log i h same short = omega (arith, h, as_many rows log same, short)

pub far : (i : ℕ) → i < 65536 → i < 2 ^ 32
far i h = omega (arith, h)

-- this many were read
pub so_far : (rows : List Row) (log : List Entry) (i : ℕ) → i < length rows
    → map entry_columns (take i rows) ≡ log_values 0 log → i ≡ length log
so_far rows log i h same =
    sym (length-take-le i rows (omega (arith, h))) ∙ as_many (take i rows) log same

pub full : (i n : ℕ) → i < 65536 → i ≡ n → n ≡ 65536 → ⊥
full i n low is most = omega (arith, low, is, most)

desk_again : (home : Home) (s : Stored) → desk_columns (desk_values home s) ≡ desk_values home s
desk_again home s = go s.vote
  where
    go : (v : Option Vote) → desk_columns (desk_values home (record s { vote = v }))
        ≡ desk_values home (record s { vote = v })
    go None = refl
    go (Some v) = refl

one_desk : (stored given : List Row) (home : Home) (s : Stored)
    → IsPermutation (map shown_desk stored) given → map shown_desk stored ≡ desk_values home s ∷ []
    → given ≡ desk_values home s ∷ []
one_desk stored given home s same is =
    one_permutation (desk_values home s) given (subst (λ rows. IsPermutation rows given) is same)

-- where the stored row is a desk's, so is the one that the query gave
pub given_desk : (stored : List Row) (r : Row) (home : Home) (s : Stored)
    → IsPermutation (map shown_desk stored) (r ∷ [])
    → map shown_desk stored ≡ desk_values home s ∷ [] → desk_columns r ≡ desk_values home s
given_desk stored r home s same is =
    let only : r ∷ [] ≡ desk_values home s ∷ [] = one_desk stored (r ∷ []) home s same is in
    let row : r ≡ desk_values home s = cc in
    ap desk_columns row ∙ desk_again home s

pub given_one : (stored given : List Row) (home : Home) (s : Stored)
    → IsPermutation (map shown_desk stored) given → map shown_desk stored ≡ desk_values home s ∷ []
    → length given ≡ 1
given_one stored given home s same is = ap length (one_desk stored given home s same is)
