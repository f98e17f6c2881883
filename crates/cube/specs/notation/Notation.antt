-- Notation: which text spells which moves, and what is wrong with the others. The tokens and their
-- count are those of the WCA Regulations, article 12; the spaces between them, the most moves and
-- the faults are the project's own.
use Rattle.std.specs.Prelude.{◌≡◌, ◌≢◌, ◌⊎◌, ℕ, ◌+◌, ◌<◌, ◌≤◌, Bool, true, false, List, [], ◌∷◌}
use Rattle.std.specs.Prelude.{◌++◌, length, map, replicate, count_by, Result, Err}
use Rattle.std.specs.List.{join_with_byte}
use Rattle.cube.specs.{declared.moves.Kind.Kind, declared.moves.Move.Move, notation.Tokens.token}
use Rattle.cube.specs.declared.moves.Kind.TheVariants.{Face, Block, Turn}
use Rattle.cube.specs.declared.notation.reading.NotationFault.{NotationFault, TheVariants.NoMemory}

-- one or more spaces
abbrev pub AreSpaces : List ℕ → Type 0
AreSpaces gap = (n : ℕ) × (0 < n) × (gap ≡ replicate n 32)

-- the text is the tokens of at least one move, in order, one or more spaces between neighbours and
-- none at the ends
abbrev pub Spells : List ℕ → List Move → Type 0
Spells text [] = ⊥
Spells text (move ∷ []) = text ≡ token move
Spells text (move ∷ next ∷ moves) =
    (gap : List ℕ) × (rest : List ℕ) × AreSpaces gap × (text ≡ token move ++ (gap ++ rest))
    × Spells rest (next ∷ moves)

-- the text of moves with one space between neighbours; of no moves the empty text
abbrev pub spelling : List Move → List ℕ
spelling moves = join_with_byte 32 (map token moves)

-- what counts as a turn: all but the rotations
abbrev pub is_turn : Kind → Bool
is_turn (Face side) = true
is_turn (Block side) = true
is_turn (Turn axis) = false

-- the moves in the outer block turn metric (WCA Regulations, article 12)
abbrev pub turn_count : List Move → ℕ
turn_count moves = count_by (λ move. is_turn move.kind) moves

-- the tokens of moves in order, each with one or more spaces behind it
abbrev pub Leads : List ℕ → List Move → Type 0
Leads front [] = front ≡ []
Leads front (move ∷ moves) =
    (gap : List ℕ) × (rest : List ℕ) × AreSpaces gap × (front ≡ token move ++ (gap ++ rest))
    × Leads rest moves

abbrev pub BeginsWithSpace : List ℕ → Type 0
BeginsWithSpace [] = ⊥
BeginsWithSpace (c ∷ cs) = c ≡ 32

-- behind these moves of the text, and all the spaces behind them, this is the rest, where a token
-- is expected
pub record IsBehind (moves : List Move) (text rest : List ℕ) : Type 0 where
  pub front : List ℕ
  pub parts : text ≡ front ++ rest
  pub tokens : Leads front moves
  pub spaced : moves ≢ [] → BeginsWithSpace rest → ⊥

-- the bytes begin with the token of a move, and behind it they end or a space comes
abbrev pub BeginsWithMove : List ℕ → Type 0
BeginsWithMove bytes = (move : Move) × (more : List ℕ) × (bytes ≡ token move ++ more)
    × ((more ≡ []) ⊎ BeginsWithSpace more)

-- the offset in the text where a token was expected, behind at most 400 moves, and no move is;
-- behind 400 moves that is the end of the text, since anything else there is too much
pub record IsBadTokenAt (text : List ℕ) (at : ℕ) : Type 0 where
  pub some_text : text ≢ []
  pub moves : List Move
  pub rest : List ℕ
  pub behind : IsBehind moves text rest
  pub offset : at + length rest ≡ length text
  pub none : BeginsWithMove rest → ⊥
  pub few : length moves ≤ 400
  pub last : length moves ≡ 400 → rest ≡ []

-- behind 400 moves and one or more spaces another byte comes
pub record IsTooMany (text : List ℕ) : Type 0 where
  pub moves : List Move
  pub rest : List ℕ
  pub behind : IsBehind moves text rest
  pub many : length moves ≡ 400
  pub more : rest ≢ []

-- the answer is this one, or memory ran out
abbrev pub IsUnlessNoMemory : Result (List Move) NotationFault → Result (List Move) NotationFault
    → Type 0
IsUnlessNoMemory result answer = (result ≡ answer) ⊎ (result ≡ Err NoMemory)
