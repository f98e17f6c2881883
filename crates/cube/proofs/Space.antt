-- Each sticker has its number, and each number below 54 is that of a sticker.
use Rattle.std.proofs.Common.{◌≡◌, ℕ, ◌+◌, ◌*◌, ◌<◌, ◌/◌, ◌%◌, zero, suc, get_or, refl, sym, ap}
use Rattle.std.proofs.Common.{◌∙◌, subst, arith, lit<, slice_get, Some}
use Rattle.cube.specs.{declared.moves.Side.Side, Stickers.number}
use Rattle.cube.specs.declared.moves.Side.TheVariants.{U, R, F, D, L, B}
use Rattle.cube.specs.Stickers.{Coordinate, Minus, Zero, Plus, negative, Sticker, outward, StandsOn}
use Rattle.cube.specs.Stickers.{IsSticker, sticker_on, stickers, rank, offset, side_of, free}
use Rattle.std.proofs.lemmas.Nat.{div-mul-add, div_below, div-add-mod'}
use Rattle.std.proofs.{Math.Nat.mod-lt, lemmas.Option.slice_get-get_or, lemmas.List.get_or_default}

by_coordinates : (P : Coordinate → Coordinate → Type 0) → P Minus Minus → P Minus Zero
    → P Minus Plus → P Zero Minus → P Zero Zero → P Zero Plus → P Plus Minus → P Plus Zero
    → P Plus Plus → (a b : Coordinate) → P a b
by_coordinates P mm mz mp zm zz zp pm pz pp Minus Minus = mm
by_coordinates P mm mz mp zm zz zp pm pz pp Minus Zero = mz
by_coordinates P mm mz mp zm zz zp pm pz pp Minus Plus = mp
by_coordinates P mm mz mp zm zz zp pm pz pp Zero Minus = zm
by_coordinates P mm mz mp zm zz zp pm pz pp Zero Zero = zz
by_coordinates P mm mz mp zm zz zp pm pz pp Zero Plus = zp
by_coordinates P mm mz mp zm zz zp pm pz pp Plus Minus = pm
by_coordinates P mm mz mp zm zz zp pm pz pp Plus Zero = pz
by_coordinates P mm mz mp zm zz zp pm pz pp Plus Plus = pp

-- the number of a place on a side
abbrev pub cell : Coordinate → Coordinate → ℕ
cell a b = offset a * 3 + offset b

pub cell_below : (a b : Coordinate) → cell a b < 9
cell_below =
    by_coordinates (λ a b. cell a b < 9) (omega arith) (omega arith) (omega arith) (omega arith)
    (omega arith) (omega arith) (omega arith) (omega arith) (omega arith)

-- the sticker with a number
abbrev pub sticker_at : ℕ → Sticker
sticker_at n = get_or stickers n (sticker_on U Minus Minus)

pub number-sticker_on : (side : Side) (a b : Coordinate) → number (sticker_on side a b)
    ≡ rank side * 9 + cell a b
number-sticker_on U a b = refl
number-sticker_on _ a b = refl

pub IsSticker-sticker_on : (side : Side) (a b : Coordinate) → IsSticker (sticker_on side a b)
IsSticker-sticker_on U a b = (U, record { points = refl; touches = refl })
IsSticker-sticker_on R a b = (R, record { points = refl; touches = refl })
IsSticker-sticker_on F a b = (F, record { points = refl; touches = refl })
IsSticker-sticker_on D a b = (D, record { points = refl; touches = refl })
IsSticker-sticker_on L a b = (L, record { points = refl; touches = refl })
IsSticker-sticker_on B a b = (B, record { points = refl; touches = refl })

pub normal-sticker_on : (side : Side) (a b : Coordinate)
    → (sticker_on side a b).normal ≡ outward side
normal-sticker_on U a b = refl
normal-sticker_on _ a b = refl

AtNumber : Side → Coordinate → Coordinate → Type 0
AtNumber side a b = sticker_at (rank side * 9 + cell a b) ≡ sticker_on side a b

pub at_number : (side : Side) (a b : Coordinate) → sticker_at (rank side * 9 + cell a b)
    ≡ sticker_on side a b
unfolding AtNumber
at_number U = by_coordinates (AtNumber U) refl refl refl refl refl refl refl refl refl
at_number R = by_coordinates (AtNumber R) refl refl refl refl refl refl refl refl refl
at_number F = by_coordinates (AtNumber F) refl refl refl refl refl refl refl refl refl
at_number D = by_coordinates (AtNumber D) refl refl refl refl refl refl refl refl refl
at_number L = by_coordinates (AtNumber L) refl refl refl refl refl refl refl refl refl
at_number B = by_coordinates (AtNumber B) refl refl refl refl refl refl refl refl refl

pub negative-plus : (c : Coordinate) → negative c ≡ Plus → c ≡ Minus
negative-plus Minus h = refl
negative-plus Zero h = cc
negative-plus Plus h = cc

-- a sticker on a side is the one that the side has at its free coordinates
pub on_side : (side : Side) (s : Sticker) → StandsOn side s
    → s ≡ sticker_on side (free side s.place).0 (free side s.place).1
on_side D s h = rw (h.points, negative-plus _ h.touches) refl
on_side L s h = rw (h.points, negative-plus _ h.touches) refl
on_side B s h = rw (h.points, negative-plus _ h.touches) refl
on_side _ s h = rw (h.points, h.touches) refl

pub side_of-outward : (side : Side) → side_of (outward side) ≡ side
side_of-outward U = refl
side_of-outward _ = refl

-- the side, and the coordinates there, of a number below 54
side_at_rank : (r : ℕ) → r < 6 → (side : Side) × (r ≡ rank side)
side_at_rank zero h = (U, refl)
side_at_rank (suc zero) h = (R, refl)
side_at_rank (suc (suc zero)) h = (F, refl)
side_at_rank (suc (suc (suc zero))) h = (D, refl)
side_at_rank (suc (suc (suc (suc zero)))) h = (L, refl)
side_at_rank (suc (suc (suc (suc (suc zero))))) h = (B, refl)
side_at_rank (suc (suc (suc (suc (suc (suc r)))))) h = absurd (omega (arith, h))

coordinate_at : (n : ℕ) → n < 3 → (c : Coordinate) × (n ≡ offset c)
coordinate_at zero h = (Minus, refl)
coordinate_at (suc zero) h = (Zero, refl)
coordinate_at (suc (suc zero)) h = (Plus, refl)
coordinate_at (suc (suc (suc n))) h = absurd (omega (arith, h))

pub decode : (n : ℕ) → n < 54 → (side : Side) × (a : Coordinate) × (b : Coordinate)
    × (n ≡ rank side * 9 + cell a b)
decode n h =
    let cell_number = n % 9 in
    let s = side_at_rank (n / 9) (div_below n 9 6 (lit< tt) h) in
    let a = coordinate_at (cell_number / 3) (div_below cell_number 3 3 (lit< tt)
    (mod-lt n (lit< tt))) in
    let b = coordinate_at (cell_number % 3) (mod-lt cell_number (lit< tt)) in (
      s.0,
      a.0,
      b.0,
      sym (div-add-mod' n 9)
          ∙ ap (λ m. m * 9 + n % 9) s.1
          ∙ ap (λ m. rank s.0 * 9 + m) (sym (div-add-mod' cell_number 3)
          ∙ ap (λ m. m * 3 + cell_number % 3) a.1 ∙ ap (λ m. offset a.0 * 3 + m) b.1),
    )

pub rank_below : (side : Side) → rank side < 6
rank_below U = lit< tt
rank_below _ = lit< tt

pub number_below : (side : Side) (a b : Coordinate) → rank side * 9 + cell a b < 54
number_below side a b = omega (arith, rank_below side, cell_below a b)

-- the first of the nine numbers of a side, from any of them
pub first_on : (side : Side) (a b : Coordinate) → (rank side * 9 + cell a b) / 9 * 9 ≡ rank side * 9
first_on side a b = ap (λ k. k * 9) (div-mul-add (rank side) 9 (cell a b) (cell_below a b))

-- what is listed at a number below 54 is a sticker
pub listed : (n : ℕ) (d : Sticker) → n < 54 → IsSticker (get_or stickers n d)
listed n d h =
    let p = decode n h in
    let e : get_or stickers n d ≡ sticker_on p.0 p.1 p.2 =
    get_or_default stickers n d _ h ∙ ap sticker_at p.3 ∙ at_number p.0 p.1 p.2 in
    subst IsSticker (sym e) (IsSticker-sticker_on p.0 p.1 p.2)

-- a sticker is listed at its number
pub found : (s : Sticker) → IsSticker s → slice_get stickers (number s) ≡ Some s
found s (side, stands) =
    let a = (free side s.place).0 in
    let b = (free side s.place).1 in
    let e = on_side side s stands in
    ap (λ t. slice_get stickers (number t)) e
    ∙ ap (slice_get stickers) (number-sticker_on side a b)
    ∙ slice_get-get_or stickers (rank side * 9 + cell a b) (sticker_on U Minus Minus)
    (number_below side a b)
    ∙ ap Some (at_number side a b ∙ sym e)
