use Rattle.std.proofs.Common.{◌≡◌, drop}
use Rattle.cube.specs.Turns.{after}
use Rattle.fmc_check.proofs.turn_all.Given as goal

-- the moves that are left lead to where all of them lead
abbrev pub invariant-loop-turn : goal.invariant-loop-turn
invariant-loop-turn l = after (drop l.turn-index l.moves) l.cube ≡ after l.moves l.initial.cube
