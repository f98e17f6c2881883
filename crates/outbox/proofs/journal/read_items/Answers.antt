use Rattle.std.proofs.Common.{◌+◌, sym, ◌∙◌, arith}
use Rattle.outbox.proofs.FirstLines.{damaged, followed_on}
use Rattle.outbox.proofs.journal.read_items.Goals as goal

pub returns-then-not-branch-clause-refused : goal.returns-then-not-branch-clause-refused
returns-then-not-branch-clause-refused c =
    sym c.loop-line.invariant.lines
    ∙ damaged c.loop-line.items c.follow_line.new.items c.args.now (c.loop-line.number + 1)
    c.loop-line.left.now c.in-Some.line.now c.in-Some.next.now c.in_ok-follow_line.field-0
    c.in-Some.ensures.0 c.if-not-branch.true c.in_ok-follow_line.ensures

pub loop-line-preserved : goal.loop-line-preserved
loop-line-preserved c =
    let goes =
    followed_on c.loop-line.items c.follow_line.new.items c.args.now (c.loop-line.number + 1)
    c.loop-line.left.now c.in-Some.line.now c.in-Some.next.now c.in_ok-follow_line.field-0
    c.in-Some.ensures.0 c.if-not-branch.false c.in_ok-follow_line.ensures in
    record {
      lines = sym goes.lines ∙ c.loop-line.invariant.lines;
      cut = sym goes.cut ∙ c.loop-line.invariant.cut;
      fits = omega (arith, c.in-Some.ensures.1, c.loop-line.invariant.fits);
      least = omega arith;
    }
