use Rattle.std.proofs.Common.{◌≡◌, ◌<◌, ℕ, ◌*◌, ◌/◌, get_or}
use Rattle.cube.specs.declared.moves.Colour.TheVariants as colours
use Rattle.cube.proofs.turning.shows_one_colour_a_side.Given as goal

-- the numbers so far have the colour of the first of their side
abbrev pub invariant-loop-place : goal.invariant-loop-place
invariant-loop-place l =
    (n : ℕ) → n < l.place → get_or l.colours n colours.U ≡ get_or l.colours (n / 9 * 9) colours.U
