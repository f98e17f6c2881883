use Rattle.std.proofs.Common.{List, ℕ, ◌-◌}
use Rattle.exports.proofs.Applied.{Applied}
use Rattle.exports.proofs.logs.apply_lines.Given as goal

-- the lines that were given are applied
abbrev pub invariant-loop-meet : goal.invariant-loop-meet
invariant-loop-meet g l =
    (given : List ℕ) × Applied l.lines l.meet given (g.R.Read.remaining l.initial.reader)
    (g.R.Read.remaining l.reader)

abbrev pub decreases-loop-meet : goal.decreases-loop-meet
decreases-loop-meet g l = 65537 - l.lines.lines
