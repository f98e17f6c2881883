-- A model of the code: reading from the left, as one function, unless memory runs out.
use Rattle.std.specs.Prelude.{ℕ, zero, suc, ◌-◌, ◌==◌, if◌then◌else◌, List, [], ◌∷◌, length, take}
use Rattle.std.specs.Prelude.{drop, Option, Some, None, Result, Ok, Err}
use Rattle.std.specs.List.{position_or_len, prefix_len}
use Rattle.cube.specs.declared.moves.{Side.Side, Kind.Kind, Quarter.Quarter, Move.Move}
use Rattle.cube.specs.declared.moves.Side.TheVariants.{U, R, F, D, L, B}
use Rattle.cube.specs.declared.moves.Axis.TheVariants.{X, Y, Z}
use Rattle.cube.specs.declared.moves.Kind.TheVariants.{Face, Block, Turn}
use Rattle.cube.specs.declared.moves.Quarter.TheVariants.{Clockwise, Half, Anticlockwise}
use Rattle.cube.specs.declared.notation.reading.NotationFault.{NotationFault}
use Rattle.cube.specs.declared.notation.reading.NotationFault.TheVariants.{BadToken, TooMany}

-- the side that a letter names
abbrev pub side_named : ℕ → Option Side
side_named c =
    if c == 85 then Some U else (if c == 82 then Some R else (if c == 70 then Some F
    else (if c == 68 then Some D else (if c == 76 then Some L else (if c == 66 then Some B
    else None)))))

-- the face or rotation that a letter names
abbrev pub face_of : Option Side → Option Kind
face_of None = None
face_of (Some side) = Some (Face side)

abbrev pub kind_named : ℕ → Option Kind
kind_named c =
    if c == 120 then Some (Turn X) else (if c == 121 then Some (Turn Y)
    else (if c == 122 then Some (Turn Z) else face_of (side_named c)))

-- the block that a letter names
abbrev pub block_of : Option Side → Option Kind
block_of None = None
block_of (Some side) = Some (Block side)

-- how far a mark says to turn
abbrev pub quarter_named : ℕ → Option Quarter
quarter_named c = if c == 50 then Some Half else (if c == 39 then Some Anticlockwise else None)

abbrev pub move_by : Option Kind → Option Quarter → Option Move
move_by None quarter = None
move_by (Some kind) None = None
move_by (Some kind) (Some quarter) = Some (record { kind = kind; quarter = quarter })

-- the move whose token the bytes are
unfoldable pub move_named : List ℕ → Option Move
move_named [] = None
move_named (a ∷ []) = move_by (kind_named a) (Some Clockwise)
move_named (a ∷ b ∷ []) =
    if b == 119 then move_by (block_of (side_named a)) (Some Clockwise)
    else move_by (kind_named a) (quarter_named b)
move_named (a ∷ b ∷ c ∷ []) =
    if b == 119 then move_by (block_of (side_named a)) (quarter_named c) else None
move_named (a ∷ b ∷ c ∷ d ∷ more) = None

-- up to the next space or the end, and the spaces at the front
abbrev pub word_len : List ℕ → ℕ
word_len bytes = position_or_len (λ c. c == 32) bytes

abbrev pub space_len : List ℕ → ℕ
space_len bytes = prefix_len (λ c. c == 32) bytes

-- what is behind the word at the front, and what is behind the spaces at the front
abbrev pub behind_word : List ℕ → List ℕ
behind_word bytes = drop (word_len bytes) bytes

abbrev pub behind_spaces : List ℕ → List ℕ
behind_spaces bytes = drop (space_len bytes) bytes

-- a move in front of what is read
abbrev pub with_move : Move → Result (List Move) NotationFault → Result (List Move) NotationFault
with_move move (Ok moves) = Ok (move ∷ moves)
with_move move (Err fault) = Err fault

-- a word of the rest names a move or none, the word is at this offset, and this is behind it; what
-- is read behind that
abbrev pub scan_on : Option Move → ℕ → List ℕ → Result (List Move) NotationFault
    → Result (List Move) NotationFault
scan_on None at more further = Err (BadToken at)
scan_on (Some move) at [] further = Ok (move ∷ [])
scan_on (Some move) at (c ∷ cs) further = with_move move further

-- where no more moves may come: the end is where a token was expected, anything else is too much
abbrev pub scan_end : ℕ → List ℕ → Result (List Move) NotationFault
scan_end total [] = Err (BadToken total)
scan_end total (c ∷ cs) = Err TooMany

-- what is read from the rest of a text of this many bytes, where this many more moves may come and
-- a token is expected
unfoldable pub scan : ℕ → ℕ → List ℕ → Result (List Move) NotationFault
scan total zero rest = scan_end total rest
scan total (suc n) rest =
    scan_on (move_named (take (word_len rest) rest)) (total - length rest) (behind_word rest)
    (scan total n (behind_spaces (behind_word rest)))
