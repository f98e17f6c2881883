use Rattle.std.proofs.Common.{ap, ◌∙◌}
use Rattle.lines.specs.Lines.{is_line}
use Rattle.archive.proofs.Firsts.{kept, kept_by_line, not_first}
use Rattle.archive.proofs.writing.has_line.Goals as goal

pub returns-then-is_first : goal.returns-then-is_first
returns-then-is_first c = λ there.
    kept_by_line _ _ c.args.entry.now _ _
    (kept _ _ c.args.entry.now _ _ c.is_first.ensures c.id.ensures.id there) c.if-is_first.true
    (c.is_line.ensures ∙ ap is_line c.text.ensures.text)

pub returns-else-is_first : goal.returns-else-is_first
returns-else-is_first c = λ there.
    not_first _ _ c.args.entry.now _
    (kept _ _ c.args.entry.now _ _ c.is_first.ensures c.id.ensures.id there) c.if-is_first.false
