-- What a solution of fewest moves counts (WCA Regulations, article E).
use Rattle.std.specs.Prelude.{◌==◌, ◌&&◌, ◌≤◌, ◌↔◌, ◌++◌, Bool, nat_le, if◌then◌else◌, IsTrue, List}
use Rattle.std.specs.{Prelude.length, List.list_all}
use Rattle.cube.specs.declared.moves.{Side.Side, Colour.Colour, Move.Move}
use Rattle.cube.specs.Stickers.{Zero, Sticker, sticker_on, stickers, side_of}
use Rattle.cube.specs.Turns.{after, first_arrangement, colour_at, code, IsSolved}
use Rattle.cube.specs.notation.Notation.{turn_count}
use Rattle.attempts.specs.declared.Fm.{Fm, TheVariants.Moves, TheVariants.Dnf}

-- the arrangement after the scramble and then the solution, from the first one
abbrev pub final : List Move → List Move → List Colour
final scramble solution = after (scramble ++ solution) first_arrangement

-- a solution has at most 80 moves, rotations included, and any two stickers that face one way then
-- have one colour
pub record Solves (scramble solution : List Move) : Type 0 where
  pub short : length solution ≤ 80
  pub solved : IsSolved (final scramble solution)

-- the sticker in the middle of a side
abbrev pub centre : Side → Sticker
centre side = sticker_on side Zero Zero

-- a sticker has the colour of the one in the middle of its side
abbrev pub is_as_its_centre : List Colour → Sticker → Bool
is_as_its_centre arrangement s =
    code (colour_at arrangement s) == code (colour_at arrangement (centre (side_of s.normal)))

-- each sticker has the colour of the one in the middle of its side: a test of what `IsSolved` says
unfoldable pub is_solved : List Colour → Bool
is_solved arrangement = list_all (is_as_its_centre arrangement) stickers

-- the test of what `Solves` says
unfoldable pub is_solution : List Move → List Move → Bool
is_solution scramble solution = nat_le (length solution) 80 && is_solved (final scramble solution)

-- the result of a solution: its moves in the outer block turn metric where it solves the scramble,
-- else DNF
unfoldable pub result_of : List Move → List Move → Fm
result_of scramble solution =
    if is_solution scramble solution then Moves (turn_count solution) else Dnf

-- the test of an arrangement
abbrev pub TestsSolved : List Colour → Type 0
TestsSolved arrangement = IsTrue (is_solved arrangement) ↔ IsSolved arrangement

-- the test of a solution
abbrev pub TestsSolution : List Move → List Move → Type 0
TestsSolution scramble solution = IsTrue (is_solution scramble solution) ↔ Solves scramble solution
