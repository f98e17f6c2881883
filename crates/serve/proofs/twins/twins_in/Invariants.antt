use Rattle.std.proofs.Common.{◌<◌, ℕ, map}
use Rattle.serve.specs.Addresses.{AreTwins}
use Rattle.serve.proofs.twins.twins_in.Given as goal

-- at none of the places so far does a text come again
abbrev pub invariant-loop-second : goal.invariant-loop-second
invariant-loop-second l =
    (first j : ℕ) → j < l.second → ¬ AreTwins (map (λ t. t.now) l.texts) first j
