-- Turns as maps of space, applied to the stickers of their layers (WCA Regulations, article 12). A
-- cube is solved where each side shows one colour (article 10), however it is held (the project's
-- own).
use Rattle.std.specs.Prelude.{◌≡◌, ◌==◌, ℕ, List, [], ◌∷◌, length, map, slice_index_or, Bool, true}
use Rattle.std.specs.Prelude.{false, if◌then◌else◌, count_by}
use Rattle.cube.specs.declared.moves.{Side.Side, Axis.Axis, Kind.Kind, Quarter.Quarter, Move.Move}
use Rattle.cube.specs.declared.moves.Side.TheVariants.{U, R, F, D, L, B}
use Rattle.cube.specs.declared.moves.Axis.TheVariants.{X, Y, Z}
use Rattle.cube.specs.declared.moves.Kind.TheVariants.{Face, Block, Turn}
use Rattle.cube.specs.declared.moves.Quarter.TheVariants.{Clockwise, Half, Anticlockwise}
use Rattle.cube.specs.declared.moves.Colour.{Colour}
use Rattle.cube.specs.Stickers.{Coordinate, Minus, Zero, Plus, negative, Vector, Sticker, along}
use Rattle.cube.specs.Stickers.{stickers, number, IsSticker, side_of}
use Rattle.cube.specs.declared.moves.Colour.TheVariants as colours

-- the quarter turn of space in the direction of a side, clockwise as seen from outside
abbrev pub rotated : Side → Vector → Vector
rotated R v = record { x = v.x; y = v.z; z = negative v.y }
rotated U v = record { x = negative v.z; y = v.y; z = v.x }
rotated F v = record { x = v.y; y = negative v.x; z = v.z }
rotated L v = record { x = v.x; y = negative v.z; z = v.y }
rotated D v = record { x = v.z; y = v.y; z = negative v.x }
rotated B v = record { x = negative v.y; y = v.x; z = v.z }

-- the side that an axis points to
abbrev pub head : Axis → Side
head X = R
head Y = U
head Z = F

-- the side in whose direction a move turns
abbrev pub direction : Kind → Side
direction (Face side) = side
direction (Block side) = side
direction (Turn axis) = head axis

abbrev pub is_plus : Coordinate → Bool
is_plus Minus = false
is_plus Zero = false
is_plus Plus = true

abbrev pub is_not_minus : Coordinate → Bool
is_not_minus Minus = false
is_not_minus Zero = true
is_not_minus Plus = true

-- what a move takes along: a face move the places with product 1, a block move those with 0 too,
-- a rotation all
abbrev pub takes : Kind → Vector → Bool
takes (Face side) place = is_plus (along side place)
takes (Block side) place = is_not_minus (along side place)
takes (Turn axis) place = true

-- where a quarter turn takes a sticker
abbrev pub quarter_moved : Kind → Sticker → Sticker
quarter_moved kind s =
    if takes kind s.place
    then record {
      place = rotated (direction kind) s.place;
      normal = rotated (direction kind) s.normal;
    }
    else s

-- a quarter turn once, twice or three times
abbrev pub times : {A : Type 0} → Quarter → (A → A) → A → A
times Clockwise turn s = turn s
times Half turn s = turn (turn s)
times Anticlockwise turn s = turn (turn (turn s))

-- where a move takes a sticker
abbrev pub moved : Move → Sticker → Sticker
moved move s = times move.quarter (quarter_moved move.kind) s

abbrev pub reverse : Quarter → Quarter
reverse Clockwise = Anticlockwise
reverse Half = Half
reverse Anticlockwise = Clockwise

-- the move that takes back
abbrev pub inverse : Move → Move
inverse move = record { kind = move.kind; quarter = reverse move.quarter }

-- the colours by number
abbrev pub code : Colour → ℕ
code colours.U = 0
code colours.R = 1
code colours.F = 2
code colours.D = 3
code colours.L = 4
code colours.B = 5

-- the colours of the first arrangement
abbrev pub colour_of : Side → Colour
colour_of U = colours.U
colour_of R = colours.R
colour_of F = colours.F
colour_of D = colours.D
colour_of L = colours.L
colour_of B = colours.B

-- the colour at the opposite side of the first arrangement
abbrev pub opposite_colour : Colour → Colour
opposite_colour colours.U = colours.D
opposite_colour colours.R = colours.L
opposite_colour colours.F = colours.B
opposite_colour colours.D = colours.U
opposite_colour colours.L = colours.R
opposite_colour colours.B = colours.F

-- An arrangement is the list of the colours of the 54 stickers by number.
-- The first gives each sticker the colour of the side that its normal points out of.
abbrev pub first_arrangement : List Colour
first_arrangement = map (λ (s : Sticker). colour_of (side_of s.normal)) stickers

-- the colour that an arrangement gives a sticker
abbrev pub colour_at : List Colour → Sticker → Colour
colour_at arrangement sticker = slice_index_or arrangement (number sticker) colours.U

-- the arrangement after a move: each sticker shows what stood where the move takes it from
unfoldable pub turned : Move → List Colour → List Colour
turned move arrangement = map (λ s. colour_at arrangement (moved (inverse move) s)) stickers

-- the quarter turn of the whole cube in the direction of a side
abbrev pub rotation : Side → Move
rotation U = record { kind = Turn Y; quarter = Clockwise }
rotation R = record { kind = Turn X; quarter = Clockwise }
rotation F = record { kind = Turn Z; quarter = Clockwise }
rotation D = record { kind = Turn Y; quarter = Anticlockwise }
rotation L = record { kind = Turn X; quarter = Anticlockwise }
rotation B = record { kind = Turn Z; quarter = Anticlockwise }

-- the arrangement after moves in order
abbrev pub after : List Move → List Colour → List Colour
after [] arrangement = arrangement
after (move ∷ moves) arrangement = after moves (turned move arrangement)

-- any two stickers with equal normals have equal colours
abbrev pub IsSolved : List Colour → Type 0
IsSolved arrangement =
    (s t : Sticker) → IsSticker s → IsSticker t → s.normal ≡ t.normal
    → colour_at arrangement s ≡ colour_at arrangement t

-- after a move each sticker's colour is where the move takes the sticker
abbrev pub CarriesStickers : Move → List Colour → List Colour → Type 0
CarriesStickers move old new =
    (s : Sticker) → IsSticker s → colour_at new (moved move s) ≡ colour_at old s

-- how many stickers have a colour
abbrev pub count_of : Colour → List Colour → ℕ
count_of colour arrangement = count_by (λ other. code other == code colour) arrangement

-- each colour is that of nine stickers
abbrev pub HasNineOfEach : List Colour → Type 0
HasNineOfEach arrangement = (colour : Colour) → count_of colour arrangement ≡ 9

-- a second move takes every arrangement of the 54 stickers back to what it was before the first
abbrev pub Undoes : Move → Move → Type 0
Undoes first second =
    (arrangement : List Colour) → length arrangement ≡ 54
    → turned second (turned first arrangement) ≡ arrangement

-- an arrangement after a clockwise quarter turn
abbrev pub quarter_turned : Kind → List Colour → List Colour
quarter_turned kind = turned (record { kind = kind; quarter = Clockwise })

-- a quarter turn, made four times, leaves every arrangement of the 54 stickers
abbrev pub IsNoneFourTimes : Kind → Type 0
IsNoneFourTimes kind = (arrangement : List Colour) → length arrangement ≡ 54 →
    quarter_turned kind
    (quarter_turned kind (quarter_turned kind (quarter_turned kind arrangement)))
    ≡ arrangement
