use Rattle.std.proofs.Common.{◌<◌, ℕ, map}
use Rattle.serve.specs.Addresses.{AreTwins}
use Rattle.serve.proofs.twins.twin_before.Given as goal

-- at no place so far is the text
abbrev pub invariant-loop-first : goal.invariant-loop-first
invariant-loop-first l = (i : ℕ) → i < l.first → ¬ AreTwins (map (λ t. t.now) l.texts) i l.second
