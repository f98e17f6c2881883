use Rattle.lines.proofs.Given.{fills}
use Rattle.lines.proofs.line_reader.LineReader.next_byte.Goals as goal

pub returns-then-branch-clause-ok : goal.returns-then-branch-clause-ok
returns-then-branch-clause-ok g c =
    fills _ _ _ _ c.in_ok-fill.field-0 c.take_held-then-branch.result _ _ c.requires
    c.in_default.ensures c.in_ok-fill.ensures.ok c.if-branch.true c.take_held-then-branch.ensures
