use Rattle.std.proofs.Common.{Bor, List, ℕ, None, Some, sym, subst}
use Rattle.outbox.{specs.Lines.IsFirstLine, proofs.FirstLines.by_cut}
use Rattle.outbox.proofs.journal.first_line.Goals as goal

pub returns-in_default-Some : goal.returns-in_default-Some
returns-in_default-Some c =
    subst (λ (l : Bor (List ℕ)). IsFirstLine c.args.bytes.now (Some (c.cut.result.0.now, l.now)))
    (sym c.in_default-Some.left-is)
    (by_cut c.args.bytes.now c.cut.result.0.now c.cut.result.1 (Some c.in_default-Some.left)
    c.cut.ensures c.in_default-Some.is-1)

pub returns-in_default-None : goal.returns-in_default-None
returns-in_default-None c =
    by_cut c.args.bytes.now c.cut.result.0.now c.cut.result.1 None c.cut.ensures
    c.in_default-None.is-1
