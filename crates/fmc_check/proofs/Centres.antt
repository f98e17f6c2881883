-- An arrangement is solved exactly where each sticker has the colour of the one in the middle of
-- its side.
use Rattle.std.proofs.Common.{◌≡◌, ℕ, List, [], ◌∷◌, get_or, true, refl, sym, ap, ◌∙◌, Some, eq-eqb}
use Rattle.std.{proofs.Common.eqb-true, specs.List.All, specs.List.list_all, specs.List.slice_get}
use Rattle.std.proofs.lemmas.List.Sums.{AllPass-from_list_all, list_all-from_AllPass}
use Rattle.std.proofs.lemmas.Option.{slice_get_within, get_or_from_slice_get}
use Rattle.cube.specs.declared.moves.{Side.Side, Colour.Colour}
use Rattle.cube.specs.declared.moves.Side.TheVariants.{U, R, F, D, L, B}
use Rattle.cube.specs.Stickers.{Sticker, StandsOn, IsSticker, outward, stickers, number, side_of}
use Rattle.cube.specs.Turns.{colour_at, code, IsSolved}
use Rattle.fmc_check.specs.Fewest.{centre, is_as_its_centre, is_solved, TestsSolved}
use Rattle.cube.specs.declared.moves.Colour.TheVariants as colours

-- the colour of a number
coloured : ℕ → Colour
coloured n =
    get_or (colours.U ∷ colours.R ∷ colours.F ∷ colours.D ∷ colours.L ∷ colours.B ∷ []) n colours.U

coloured-code : (c : Colour) → coloured (code c) ≡ c
unfolding coloured
coloured-code colours.U = refl
coloured-code _ = refl

one_colour : (a b : Colour) → code a ≡ code b → a ≡ b
one_colour a b e = sym (coloured-code a) ∙ ap coloured e ∙ coloured-code b

centre_stands : (side : Side) → StandsOn side (centre side)
centre_stands U = record { points = refl; touches = refl }
centre_stands _ = record { points = refl; touches = refl }

side_of-outward : (side : Side) → side_of (outward side) ≡ side
side_of-outward U = refl
side_of-outward _ = refl

-- the sticker in the middle of a sticker's side faces as it does
centre_faces : (s : Sticker) → IsSticker s → s.normal ≡ (centre (side_of s.normal)).normal
centre_faces s (side, stands) =
    stands.points ∙ sym (centre_stands side).points
    ∙ ap (λ t. (centre t).normal) (sym (ap side_of stands.points ∙ side_of-outward side))

abbrev Numbered : Type 0
Numbered = (s : Sticker) → IsSticker s → slice_get stickers (number s) ≡ Some s

as_its_centre : Numbered → (a : List Colour) → list_all (is_as_its_centre a) stickers ≡ true
    → (s : Sticker) → IsSticker s → colour_at a s ≡ colour_at a (centre (side_of s.normal))
as_its_centre numbered a h s p =
    one_colour _ _ (eqb-true _ _
    (ap (is_as_its_centre a) (sym (get_or_from_slice_get stickers (number s) s s (numbered s p)))
    ∙ AllPass-from_list_all (is_as_its_centre a) stickers h (number s) s (slice_get_within stickers
    (number s) s (numbered s p))))

pub solved_from_test : Numbered → (a : List Colour) → is_solved a ≡ true → IsSolved a
unfolding is_solved
solved_from_test numbered a h s t p q e =
    as_its_centre numbered a h s p ∙ ap (λ n. colour_at a (centre (side_of n))) e
    ∙ sym (as_its_centre numbered a h t q)

pub test_from_solved : All IsSticker stickers → (a : List Colour) → IsSolved a → is_solved a ≡ true
unfolding is_solved
test_from_solved each a h = list_all-from_AllPass (is_as_its_centre a) stickers
    (λ k d below. let s = get_or stickers k d in
    eq-eqb _ _ (ap code (h s (centre (side_of s.normal)) (each k d below) (
      side_of s.normal,
      centre_stands (side_of s.normal),
    ) (centre_faces s (each k d below)))))

pub tests_solved : Numbered → All IsSticker stickers → (a : List Colour) → TestsSolved a
tests_solved numbered each a = (solved_from_test numbered a, test_from_solved each a)
