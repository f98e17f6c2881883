use Rattle.std.proofs.Common.{ℕ, ◌+◌, ◌∙◌, ap₂, arith}
use Rattle.sqlite_wal.proofs.PartLemmas.{same_be32}
use Rattle.desk_file.proofs.log_front.put_sum.Goals as goal

pub returns-clause-written : goal.returns-clause-written
returns-clause-written c =
    let kept = same_be32 c.put_be32-2.new.b c.put_be32.new.b c.args.at c.args.at (λ i h.
    c.put_be32-2.ensures.others.below (c.args.at + i) (omega arith) (omega arith)) in
    ap₂ (λ (x y : ℕ). let both : ℕ × ℕ = (x, y) in both) (kept
    ∙ c.put_be32.ensures.written) c.put_be32-2.ensures.written
