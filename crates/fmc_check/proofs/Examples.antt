-- Results computed from the definition.
use Rattle.std.proofs.Common.{◌≡◌, [], ◌∷◌, refl}
use Rattle.cube.specs.declared.moves.Side.TheVariants.{R, F, L}
use Rattle.cube.specs.declared.moves.{Axis.TheVariants.Y, Kind.Kind, Quarter.Quarter, Move.Move}
use Rattle.cube.specs.declared.moves.Kind.TheVariants.{Face, Block, Turn}
use Rattle.cube.specs.declared.moves.Quarter.TheVariants.{Clockwise, Half, Anticlockwise}
use Rattle.cube.specs.Turns.{turned}
use Rattle.attempts.specs.declared.Fm.TheVariants.{Moves, Dnf}
use Rattle.fmc_check.specs.Fewest.{is_solved, is_solution, result_of}

abbrev made : Kind → Quarter → Move
made kind quarter = record { kind = kind; quarter = quarter }

-- solved, and held another way than at the start; the rotation does not count
held_another_way : result_of (made (Face R) Clockwise ∷ []) (made (Turn Y) Clockwise ∷
    made (Face F) Anticlockwise ∷ []) ≡ Moves 1
unfolding result_of is_solution is_solved turned
held_another_way = refl

turned_too_far : result_of (made (Face R) Clockwise ∷ []) (made (Face R) Half ∷ []) ≡ Dnf
unfolding result_of is_solution is_solved turned
turned_too_far = refl

block_takes_a_face_back : result_of (made (Face L) Clockwise ∷ [])
    (made (Block R) Anticlockwise ∷ []) ≡ Moves 1
unfolding result_of is_solution is_solved turned
block_takes_a_face_back = refl
