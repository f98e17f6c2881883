-- Moves put in front of what is read.
use Rattle.std.proofs.Common.{◌≡◌, ◌<◌, List, [], ◌∷◌, ◌++◌, length, refl, sym, ap, ◌∙◌}
use Rattle.std.proofs.Common.{append_assoc, arith, Result, Ok, Err}
use Rattle.cube.specs.notation.{Tokens.token, Notation.spelling, model.Scan.with_move}
use Rattle.cube.specs.declared.{moves.Move.Move, notation.reading.NotationFault.NotationFault}

abbrev pub with_moves : List Move → Result (List Move) NotationFault
    → Result (List Move) NotationFault
with_moves [] read = read
with_moves (move ∷ moves) read = with_move move (with_moves moves read)

-- one more move
pub with_moves_more : (moves : List Move) (move : Move) (read : Result (List Move) NotationFault)
    → with_moves (moves ++ move ∷ []) read ≡ with_moves moves (with_move move read)
with_moves_more [] move read = refl
with_moves_more (m ∷ moves) move read = ap (with_move m) (with_moves_more moves move read)

-- the last move
pub with_moves_last : (moves : List Move) (move : Move) → with_moves moves (Ok (move ∷ []))
    ≡ Ok (moves ++ move ∷ [])
with_moves_last [] move = refl
with_moves_last (m ∷ moves) move = ap (with_move m) (with_moves_last moves move)

-- a fault stays
pub with_moves_fault : (moves : List Move) (fault : NotationFault)
    → with_moves moves (Err fault) ≡ Err fault
with_moves_fault [] fault = refl
with_moves_fault (m ∷ moves) fault = ap (with_move m) (with_moves_fault moves fault)

-- the text of one more move
pub spelling-more : (moves : List Move) (move : Move) → 0 < length moves
    → spelling (moves ++ move ∷ []) ≡ spelling moves ++ 32 ∷ token move
spelling-more [] move h = absurd (omega (arith, h))
spelling-more (m ∷ []) move h = refl
spelling-more (m ∷ n ∷ moves) move h =
    ap (λ text. token m ++ 32 ∷ text) (spelling-more (n ∷ moves) move (omega arith))
    ∙ sym (append_assoc (token m) (32 ∷ spelling (n ∷ moves)) (32 ∷ token move))
