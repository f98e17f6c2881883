-- The attempt of a command that is fit.
use Rattle.std.proofs.Common.{ℕ, List}
use Rattle.cube.specs.declared.moves.Move.{Move}
use Rattle.texts.specs.declared.command.{AttemptEntry.AttemptEntry, RoundId.RoundId}
use Rattle.texts.specs.declared.command.Command.TheVariants.{Attempt, Correct, Rescramble}
use Rattle.texts.specs.{Spelling.IsFit, Spelling.IsWithin, Table.rows}

pub attempt_within : (entry : AttemptEntry) → IsFit (Attempt entry) → IsWithin 1 5 entry.attempt
unfolding rows
attempt_within entry fits = fits.0.1.1.0

pub correct_within : (entry : AttemptEntry) → IsFit (Correct entry) → IsWithin 1 5 entry.attempt
unfolding rows
correct_within entry fits = fits.0.1.1.0

pub rescramble_within : (id : RoundId) (attempt : ℕ) (moves : List Move)
    → IsFit (Rescramble id attempt moves) → IsWithin 1 5 attempt
unfolding rows
rescramble_within id attempt moves fits = fits.0.1.1.0
