use Rattle.std.proofs.Common.{◌≡◌, ◌∙◌, ◌++◌, ap₂, rules, subst, sym}
use Rattle.commands.specs.History.{after}
use Rattle.replay.proofs.Applied.{gives_true}
use Rattle.exports.proofs.Applied.{one_more, starved, stops}
use Rattle.exports.{proofs.Whole.fails_by, specs.model.Applying.AppliesNotAll}
use Rattle.exports.proofs.logs.apply_lines.Goals as goal

pub loop-meet-preserved : goal.loop-meet-preserved
loop-meet-preserved g c =
    let i = c.loop-meet.invariant in
    let line = gives_true c.in-Ok-true.field-0 c.read_line.new.self c.read_line.new.line.items i.0
    (g.R.Read.remaining c.args.reader.now) (g.R.Read.remaining c.read_line.new.reader)
    c.in-Ok-true.field-0-test (c.in-Ok-true.ensures i.0 _ i.1.read) in
    let meet : c.apply_line.new.meet ≡ after c.loop-meet.meet c.read_line.new.self.lines
    c.read_line.new.line.items = c.in_ok-apply_line-in-Ok-true.ensures.after
    ∙ ap₂ (after c.loop-meet.meet) c.count.ensures c.deref.ensures.value in
    (i.0 ++ line.more, one_more _ _ _ _ _ i.0 _ _ _ i.1 line meet)

pub returns-in_err-apply_line-in-Ok-true-clause-err :
    goal.returns-in_err-apply_line-in-Ok-true-clause-err
returns-in_err-apply_line-in-Ok-true-clause-err g c =
    let e = c.in_err-apply_line-in-Ok-true.field-0.0 in
    fails_by (AppliesNotAll (g.R.Read.remaining c.args.reader.now)) c.from_residual.result e
    (search rules) (starved _ e c.in_err-apply_line-in-Ok-true.ensures.err)

pub returns-in-Err-clause-err : goal.returns-in-Err-clause-err
returns-in-Err-clause-err g c =
    let i = c.loop-meet.invariant in
    subst (AppliesNotAll (g.R.Read.remaining c.args.reader.now)) (sym c.from.ensures)
    (stops c.in-Err.fault i.0 _ _ (c.in-Err.ensures i.0 _ i.1.read))
