-- Results as the WCA Competition Interchange Format has them: its AttemptResult
-- (https://github.com/thewca/wcif, specification.md). A time is in hundredths of a second, a result
-- of fewest moves in moves and their mean in hundredths of a move, and a result of multi-blind is
-- the number 0DDTTTTTMM. -1 is DNF, -2 is DNS, and 0 says that there is no result.
use Rattle.std.specs.Prelude.{ℤ, pos, negsuc, List, [], ◌∷◌}
use Rattle.attempts.specs.declared.Value.{Value}
use Rattle.formats.specs.{declared.results.Averaged.Averaged, Results.best_of}
use Rattle.attempts.specs.declared.Value.TheVariants as value
use Rattle.formats.specs.declared.results.Averaged.TheVariants as averaged

-- an attempt that is done
abbrev pub attempt_result : Value → ℤ
attempt_result (value.Number n) = pos n
attempt_result value.Dnf = negsuc 0
attempt_result value.Dns = negsuc 1

-- the best of the attempts, where there is one
abbrev pub best_result : List Value → ℤ
best_result [] = pos 0
best_result (v ∷ vs) = attempt_result (best_of (v ∷ vs))

-- the average, where there is one
abbrev pub average_result : Averaged → ℤ
average_result (averaged.Number n) = pos n
average_result averaged.Dnf = negsuc 0
average_result averaged.Missing = pos 0
