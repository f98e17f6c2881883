use Rattle.std.proofs.Common.{◌++◌, take}
use Rattle.std.specs.List.{flat_map}
use Rattle.sha2.specs.Hashers.{Holds256}
use Rattle.seal.proofs.mac.digest_of.Given as goal

-- the block and the parts so far were hashed
abbrev pub invariant-loop-part : goal.invariant-loop-part
invariant-loop-part l =
    Holds256 l.hasher (l.block ++ flat_map (λ part. part.now) (take l.part-index l.parts))
