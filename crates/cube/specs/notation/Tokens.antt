-- How a move is written (WCA Regulations, article 12).
use Rattle.std.specs.Prelude.{ℕ, List, [], ◌++◌, codes}
use Rattle.cube.specs.declared.moves.{Side.Side, Axis.Axis, Kind.Kind, Quarter.Quarter, Move.Move}
use Rattle.cube.specs.declared.moves.Side.TheVariants.{U, R, F, D, L, B}
use Rattle.cube.specs.declared.moves.Axis.TheVariants.{X, Y, Z}
use Rattle.cube.specs.declared.moves.Kind.TheVariants.{Face, Block, Turn}
use Rattle.cube.specs.declared.moves.Quarter.TheVariants.{Clockwise, Half, Anticlockwise}

-- the letter of a side
abbrev pub side_letter : Side → List ℕ
side_letter U = codes "U"
side_letter R = codes "R"
side_letter F = codes "F"
side_letter D = codes "D"
side_letter L = codes "L"
side_letter B = codes "B"

-- the letter of a rotation
abbrev pub axis_letter : Axis → List ℕ
axis_letter X = codes "x"
axis_letter Y = codes "y"
axis_letter Z = codes "z"

-- what a token begins with
abbrev pub stem : Kind → List ℕ
stem (Face side) = side_letter side
stem (Block side) = side_letter side ++ codes "w"
stem (Turn axis) = axis_letter axis

-- what a token ends with
abbrev pub mark : Quarter → List ℕ
mark Clockwise = []
mark Half = codes "2"
mark Anticlockwise = codes "'"

-- the token of a move
abbrev pub token : Move → List ℕ
token move = stem move.kind ++ mark move.quarter
