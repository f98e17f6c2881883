-- An arrangement is solved exactly where each of the nine numbers of a side has the colour of the
-- first.
use Rattle.std.proofs.Common.{◌≡◌, ℕ, ◌+◌, ◌*◌, ◌<◌, ◌/◌, List, get_or, sym, ap, ◌∙◌, arith}
use Rattle.std.proofs.lemmas.List.{get_or-map}
use Rattle.cube.specs.declared.moves.{Side.Side, Side.TheVariants.U, Colour.Colour}
use Rattle.cube.specs.Stickers.{Minus, Sticker, StandsOn, IsSticker, sticker_on, stickers, rank}
use Rattle.cube.specs.Stickers.{side_of, free}
use Rattle.cube.specs.Turns.{colour_at, colour_of, first_arrangement, IsSolved}
use Rattle.cube.proofs.Space.{cell, on_side, side_of-outward, decode, number_below, first_on}
use Rattle.cube.proofs.Space.{number-sticker_on, IsSticker-sticker_on, normal-sticker_on, at_number}
use Rattle.cube.specs.declared.moves.Colour.TheVariants as colours

abbrev pub OneColourASide : List Colour → Type 0
OneColourASide a = (n : ℕ) → n < 54 → get_or a n colours.U ≡ get_or a (n / 9 * 9) colours.U

colour_on : (a : List Colour) → OneColourASide a → (side : Side) (s : Sticker) → StandsOn side s
    → colour_at a s ≡ get_or a (rank side * 9) colours.U
colour_on a h side s stands =
    let x = (free side s.place).0 in
    let y = (free side s.place).1 in
    ap (colour_at a) (on_side side s stands)
    ∙ ap (λ n. get_or a n colours.U) (number-sticker_on side x y)
    ∙ h _ (number_below side x y)
    ∙ ap (λ n. get_or a n colours.U) (first_on side x y)

pub solved_from : (a : List Colour) → OneColourASide a → IsSolved a
solved_from a h s t p q e =
    let same : p.0 ≡ q.0 = sym (side_of-outward p.0) ∙ ap side_of (sym p.1.points ∙ e ∙ q.1.points)
    ∙ side_of-outward q.0 in
    colour_on a h p.0 s p.1 ∙ ap (λ side. get_or a (rank side * 9) colours.U) same
    ∙ sym (colour_on a h q.0 t q.1)

pub one_colour_from : (a : List Colour) → IsSolved a → OneColourASide a
one_colour_from a h n below =
    let d = decode n below in
    let s = sticker_on d.0 d.1 d.2 in
    let t = sticker_on d.0 Minus Minus in
    ap (λ k. get_or a k colours.U) (d.3 ∙ sym (number-sticker_on d.0 d.1 d.2))
    ∙ h s t (IsSticker-sticker_on d.0 d.1 d.2) (IsSticker-sticker_on d.0 Minus Minus)
    (normal-sticker_on d.0 d.1 d.2 ∙ sym (normal-sticker_on d.0 Minus Minus))
    ∙ ap (λ k. get_or a k colours.U) (number-sticker_on d.0 Minus Minus ∙ omega arith
    ∙ sym (first_on d.0 d.1 d.2) ∙ ap (λ k. k / 9 * 9) (sym d.3))

-- the first arrangement gives each sticker the colour of the side that its normal points out of
pub first-at : (s : Sticker) → IsSticker s → colour_at first_arrangement s
    ≡ colour_of (side_of s.normal)
first-at s (side, stands) =
    let x = (free side s.place).0 in
    let y = (free side s.place).1 in
    ap (colour_at first_arrangement) (on_side side s stands)
    ∙ ap (λ n. get_or first_arrangement n colours.U) (number-sticker_on side x y)
    ∙ get_or-map (λ (t : Sticker). colour_of (side_of t.normal)) stickers (rank side * 9 + cell x y)
    (sticker_on U Minus Minus) colours.U (number_below side x y)
    ∙ ap (λ (t : Sticker). colour_of (side_of t.normal)) (at_number side x y
    ∙ sym (on_side side s stands))

pub first_solved : IsSolved first_arrangement
first_solved s t p q e = first-at s p ∙ ap (λ n. colour_of (side_of n)) e ∙ sym (first-at t q)
