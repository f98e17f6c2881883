use Rattle.std.proofs.Common.{List, ℕ, length, ◌++◌, ap}
use Rattle.std.proofs.lemmas.List.{drop-replicate}
use Rattle.seal.proofs.mac.filled.Goals as goal

pub returns : goal.returns
returns c =
    rw c.copy_from_slice.ensures.after
    (ap (λ (s : List ℕ). c.args.key.now ++ s) (drop-replicate (length c.args.key.now) 64 0))
