-- Stickers in space: x points to the right side, y to the upper and z to the front one. The puzzle
-- and its sides are those of the WCA Regulations, article 12; coordinates and numbers are the
-- project's own.
use Rattle.std.specs.Prelude.{◌≡◌, ℕ, ◌+◌, ◌*◌, List, [], ◌∷◌, map, flat_map}
use Rattle.cube.specs.declared.moves.Side.{Side}
use Rattle.cube.specs.declared.moves.Side.TheVariants.{U, R, F, D, L, B}

-- a coordinate: −1, 0 or 1
pub data Coordinate : Type 0 where
  Minus : Coordinate
  Zero : Coordinate
  Plus : Coordinate

abbrev pub negative : Coordinate → Coordinate
negative Minus = Plus
negative Zero = Zero
negative Plus = Minus

pub record Vector : Type 0 where
  pub x : Coordinate
  pub y : Coordinate
  pub z : Coordinate

-- a sticker: the place of its piece, and the unit normal of the side that it shows on
pub record Sticker : Type 0 where
  pub place : Vector
  pub normal : Vector

-- the unit vector that points out of a side
abbrev pub outward : Side → Vector
outward U = record { x = Zero; y = Plus; z = Zero }
outward R = record { x = Plus; y = Zero; z = Zero }
outward F = record { x = Zero; y = Zero; z = Plus }
outward D = record { x = Zero; y = Minus; z = Zero }
outward L = record { x = Minus; y = Zero; z = Zero }
outward B = record { x = Zero; y = Zero; z = Minus }

-- the side across the cube
abbrev pub opposite : Side → Side
opposite U = D
opposite R = L
opposite F = B
opposite D = U
opposite L = R
opposite B = F

-- the product of a vector with the unit vector that points out of a side
abbrev pub along : Side → Vector → Coordinate
along U v = v.y
along R v = v.x
along F v = v.z
along D v = negative v.y
along L v = negative v.x
along B v = negative v.z

-- a sticker is on a side: its normal points out of it, and its place is in the side's layer
pub record StandsOn (side : Side) (sticker : Sticker) : Type 0 where
  pub points : sticker.normal ≡ outward side
  pub touches : along side sticker.place ≡ Plus

-- of the pairs of a place and a vector, the stickers
abbrev pub IsSticker : Sticker → Type 0
IsSticker sticker = (side : Side) × StandsOn side sticker

-- the sticker on a side whose free coordinates, in the order x, y, z, are a and b
abbrev pub sticker_on : Side → Coordinate → Coordinate → Sticker
sticker_on U a b = record { place = record { x = a; y = Plus; z = b }; normal = outward U }
sticker_on R a b = record { place = record { x = Plus; y = a; z = b }; normal = outward R }
sticker_on F a b = record { place = record { x = a; y = b; z = Plus }; normal = outward F }
sticker_on D a b = record { place = record { x = a; y = Minus; z = b }; normal = outward D }
sticker_on L a b = record { place = record { x = Minus; y = a; z = b }; normal = outward L }
sticker_on B a b = record { place = record { x = a; y = b; z = Minus }; normal = outward B }

abbrev pub coordinates : List Coordinate
coordinates = Minus ∷ Zero ∷ Plus ∷ []

abbrev pub sides : List Side
sides = U ∷ R ∷ F ∷ D ∷ L ∷ B ∷ []

-- the 54 stickers by number: side after side, then by the first free coordinate, then by the second
abbrev pub stickers : List Sticker
stickers = flat_map (λ side. flat_map (λ a. map (sticker_on side a) coordinates) coordinates) sides

abbrev pub rank : Side → ℕ
rank U = 0
rank R = 1
rank F = 2
rank D = 3
rank L = 4
rank B = 5

-- a coordinate plus 1
abbrev pub offset : Coordinate → ℕ
offset Minus = 0
offset Zero = 1
offset Plus = 2

-- the side that the unit vector (x, y, z) points out of
abbrev pub side_at : Coordinate → Coordinate → Coordinate → Side
side_at Plus y z = R
side_at Minus y z = L
side_at Zero Plus z = U
side_at Zero Minus z = D
side_at Zero Zero Minus = B
side_at Zero Zero z = F

abbrev pub side_of : Vector → Side
side_of v = side_at v.x v.y v.z

-- the two coordinates that vary on a side, in the order x, y, z
abbrev pub free : Side → Vector → Coordinate × Coordinate
free U p = (p.x, p.z)
free R p = (p.y, p.z)
free F p = (p.x, p.y)
free D p = (p.x, p.z)
free L p = (p.y, p.z)
free B p = (p.x, p.y)

-- the number that a side gives the sticker at a place
abbrev pub number_on : Side → Vector → ℕ
number_on side place = rank side * 9 + (offset (free side place).0 * 3 + offset (free side place).1)

-- the number of a sticker, which is below 54
abbrev pub number : Sticker → ℕ
number sticker = number_on (side_of sticker.normal) sticker.place
