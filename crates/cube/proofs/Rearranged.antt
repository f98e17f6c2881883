-- A move rearranges the stickers: a table for each move, checked by computation, and what follows
-- from it.
use Rattle.std.proofs.Common.{◌≡◌, ℕ, ◌+◌, ◌*◌, Bool, true, false, cond, ◌&&◌, eqb, nat_lt, List}
use Rattle.std.proofs.Common.{[], ◌∷◌, map, length, get_or, refl, sym, ap, ◌∙◌, subst}
use Rattle.std.proofs.lemmas.Bool.{eqb-true, and_parts, ltb-true}
use Rattle.std.proofs.lemmas.List.{get_or-map, FromFn.fill_by_all, Sums.AllPass-from_list_all}
use Rattle.std.proofs.lemmas.List.Sorted.{IsPermutation-refl, IsPermutation-cons}
use Rattle.std.proofs.lemmas.List.Sorted.{IsPermutation-trans, IsPermutation-map}
use Rattle.std.proofs.lemmas.List.Sorted.{IsPermutation-middle, sum_by-IsPermutation}
use Rattle.std.specs.List.{range_with_len, list_all, Sorted.IsPermutation}
use Rattle.cube.specs.declared.moves.Side.TheVariants.{U, R, F, D, L, B}
use Rattle.cube.specs.declared.moves.Axis.TheVariants.{X, Y, Z}
use Rattle.cube.specs.declared.moves.{Kind.Kind, Quarter.Quarter, Move.Move, Colour.Colour}
use Rattle.cube.specs.declared.moves.Kind.TheVariants.{Face, Block, Turn}
use Rattle.cube.specs.declared.moves.Quarter.TheVariants.{Clockwise, Half, Anticlockwise}
use Rattle.cube.specs.Stickers.{Sticker, Minus, stickers, number, free, rank, sticker_on}
use Rattle.cube.specs.Turns.{turned, moved, inverse, CarriesStickers, code, count_of}
use Rattle.cube.specs.Turns.{first_arrangement, HasNineOfEach}
use Rattle.cube.proofs.Space.{cell, sticker_at, at_number, on_side, number_below}
use Rattle.cube.specs.declared.moves.Colour.TheVariants as colours

-- is a number in a list, and the list without it
abbrev has : ℕ → List ℕ → Bool
has x [] = false
has x (y ∷ ys) = cond (eqb x y) true (has x ys)

abbrev without : ℕ → List ℕ → List ℕ
without x [] = []
without x (y ∷ ys) = cond (eqb x y) ys (y ∷ without x ys)

abbrev rearranges : List ℕ → List ℕ → Bool
rearranges [] [] = true
rearranges [] (y ∷ ys) = false
rearranges (x ∷ xs) ys = has x ys && rearranges xs (without x ys)

to_front : (x : ℕ) (ys : List ℕ) → has x ys ≡ true → IsPermutation ys (x ∷ without x ys)
to_front x [] h = cc
to_front x (y ∷ ys) h = at (eqb x y) refl (to_front x ys) h
  where
    at : (b : Bool) → eqb x y ≡ b → (has x ys ≡ true → IsPermutation ys (x ∷ without x ys))
        → cond b true (has x ys) ≡ true → IsPermutation (y ∷ ys) (x ∷ cond b ys (y ∷ without x ys))
    at true e rest k =
        subst (λ z. IsPermutation (y ∷ ys) (z ∷ ys)) (sym (eqb-true x y e))
        (IsPermutation-refl (y ∷ ys))
    at false e rest k =
        IsPermutation-trans _ _ _ (IsPermutation-cons y _ _ (rest k)) (IsPermutation-middle (y ∷
        []) x (without x ys))

permutation_from : (xs ys : List ℕ) → rearranges xs ys ≡ true → IsPermutation ys xs
permutation_from [] [] h = IsPermutation-refl []
permutation_from [] (y ∷ ys) h = cc
permutation_from (x ∷ xs) ys h =
    let p = and_parts _ _ h in
    IsPermutation-trans ys (x ∷ without x ys) (x ∷ xs) (to_front x ys p.0) (IsPermutation-cons x _ _
    (permutation_from xs (without x ys) p.1))

-- for each place the number of the place that a move fills it from
abbrev sources : Move → List ℕ
sources move = map (λ s. number (moved (inverse move) s)) stickers

-- where a move takes a sticker, it is taken from
abbrev is_taken : Move → List ℕ → Sticker → Bool
is_taken move from s =
    nat_lt (number (moved move s)) 54 && eqb (get_or from (number (moved move s)) 0) (number s)

abbrev table : Move → List ℕ → Bool
table move from = rearranges from (range_with_len 0 54) && list_all (is_taken move from) stickers

abbrev Holds : Kind → Quarter → Type 0
Holds kind quarter =
    table (record { kind = kind; quarter = quarter }) (sources (record {
      kind = kind;
      quarter = quarter;
    })) ≡ true

by_quarter : (kind : Kind) → Holds kind Clockwise → Holds kind Half → Holds kind Anticlockwise
    → (quarter : Quarter) → Holds kind quarter
by_quarter kind c h a Clockwise = c
by_quarter kind c h a Half = h
by_quarter kind c h a Anticlockwise = a

table_holds : (kind : Kind) (quarter : Quarter) → Holds kind quarter
table_holds (Face U) = by_quarter (Face U) refl refl refl
table_holds (Face R) = by_quarter (Face R) refl refl refl
table_holds (Face F) = by_quarter (Face F) refl refl refl
table_holds (Face D) = by_quarter (Face D) refl refl refl
table_holds (Face L) = by_quarter (Face L) refl refl refl
table_holds (Face B) = by_quarter (Face B) refl refl refl
table_holds (Block U) = by_quarter (Block U) refl refl refl
table_holds (Block R) = by_quarter (Block R) refl refl refl
table_holds (Block F) = by_quarter (Block F) refl refl refl
table_holds (Block D) = by_quarter (Block D) refl refl refl
table_holds (Block L) = by_quarter (Block L) refl refl refl
table_holds (Block B) = by_quarter (Block B) refl refl refl
table_holds (Turn X) = by_quarter (Turn X) refl refl refl
table_holds (Turn Y) = by_quarter (Turn Y) refl refl refl
table_holds (Turn Z) = by_quarter (Turn Z) refl refl refl

turned-sources : (move : Move) (a : List Colour)
    → turned move a ≡ map (λ n. get_or a n colours.U) (sources move)
unfolding turned
turned-sources move a = refl

pub length-turned : (move : Move) (a : List Colour) → length (turned move a) ≡ 54
unfolding turned
length-turned move a = refl

-- a move only rearranges the colours
pub turned-rearranged : (move : Move) (a : List Colour) → length a ≡ 54
    → IsPermutation a (turned move a)
turned-rearranged move a long =
    let read : ℕ → Colour = λ n. get_or a n colours.U in
    let all : a ≡ map read (range_with_len 0 54) =
    fill_by_all read a 54 colours.U long (λ k h. refl) in
    let h = and_parts _ _ (table_holds move.kind move.quarter) in
    subst (λ b. IsPermutation b (turned move a)) (sym all)
    (subst (λ b. IsPermutation (map read (range_with_len 0 54)) b) (sym (turned-sources move a))
    (IsPermutation-map read _ _ (permutation_from (sources move) (range_with_len 0 54) h.0)))

-- a move carries each sticker's colour to where it takes the sticker
pub carries : (move : Move) (a : List Colour) → CarriesStickers move a (turned move a)
carries move a s (side, stands) =
    let from = sources move in
    let n = rank side * 9 + cell (free side s.place).0 (free side s.place).1 in
    let e : sticker_at n ≡ s = at_number side (free side s.place).0 (free side s.place).1
    ∙ sym (on_side side s stands) in
    let all =
    AllPass-from_list_all (is_taken move from) stickers
    (and_parts _ _ (table_holds move.kind move.quarter)).1 in
    let here =
    and_parts _ _ (subst (λ t. is_taken move from t ≡ true) e (all n (sticker_on U Minus Minus)
    (number_below side _ _))) in
    ap (λ b. get_or b (number (moved move s)) colours.U) (turned-sources move a)
    ∙ get_or-map (λ k. get_or a k colours.U) from (number (moved move s)) 0 colours.U
    (ltb-true _ _ here.0)
    ∙ ap (λ k. get_or a k colours.U) (eqb-true _ _ here.1)

-- what is a rearrangement of the first arrangement has each colour nine times
pub nine_of_each : (a : List Colour) → IsPermutation first_arrangement a → HasNineOfEach a
nine_of_each a h colour =
    sum_by-IsPermutation (λ other. cond (eqb (code other) (code colour)) 1 0) first_arrangement a h
    ∙ nine colour
  where
    nine : (colour : Colour) → count_of colour first_arrangement ≡ 9
    nine colours.U = refl
    nine colours.R = refl
    nine colours.F = refl
    nine colours.D = refl
    nine colours.L = refl
    nine colours.B = refl
