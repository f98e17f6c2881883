use Rattle.std.proofs.Common.{[], refl, rules}
use Rattle.std.proofs.KnownBytes.{Appends-nil}
use Rattle.lines.specs.declared.fault.RunFault.TheVariants as fault
use Rattle.replay.proofs.Applied.{forgotten, fails_by, one_line, stops, unwritten}
use Rattle.replay.proofs.apply_lines.Goals as goal

pub returns-in_err-apply_line-in-Ok-true-clause-err :
    goal.returns-in_err-apply_line-in-Ok-true-clause-err
returns-in_err-apply_line-in-Ok-true-clause-err g c =
    fails_by _ c.from_residual.result fault.NoMemory (search rules)
    (forgotten _ _ _ c.loop-meet.invariant.0 _ _ _ _ c.loop-meet.invariant.1)

pub loop-meet-preserved : goal.loop-meet-preserved
loop-meet-preserved g c =
    let i = c.loop-meet.invariant in
    one_line c.in-Ok-true.field-0 _ _ _ _ _ _ c.read_line.new.line.items i.0 _ _
    c.write_long.new.text.items (g.R.Read.remaining c.args.reader.now) _
    (g.R.Read.remaining c.read_line.new.reader) _ _ (g.W.Write.contents c.write_long.new.writer) i.1
    c.in-Ok-true.field-0-test (c.in-Ok-true.ensures i.0 _ i.1.read) c.count.ensures
    c.deref.ensures.value c.in_ok-apply_line-in-Ok-true.ensures.after
    c.in_ok-apply_line-in-Ok-true.ensures.said c.in_ok-write_long-in-Ok-true.ensures.ok

pub returns-in_err-write_long-in-Ok-true-clause-err :
    goal.returns-in_err-write_long-in-Ok-true-clause-err
returns-in_err-write_long-in-Ok-true-clause-err g c =
    let i = c.loop-meet.invariant in
    let applied =
    one_line c.in-Ok-true.field-0 _ c.read_line.new.self _ _ _ _ c.read_line.new.line.items i.0 _ _
    c.apply_line.new.out.items (g.R.Read.remaining c.args.reader.now) _
    (g.R.Read.remaining c.read_line.new.reader) (g.W.Write.contents c.args.writer.now) _
    (g.W.Write.contents c.loop-meet.writer) i.1
    c.in-Ok-true.field-0-test (c.in-Ok-true.ensures i.0 _ i.1.read) c.count.ensures
    c.deref.ensures.value c.in_ok-apply_line-in-Ok-true.ensures.after
    c.in_ok-apply_line-in-Ok-true.ensures.said
    ([], record { parts = refl; written = Appends-nil _ }) in
    fails_by _ c.from_residual-in_err-write_long-in-Ok-true.result fault.Write (search rules)
    (unwritten _ _ _ _ _ _ _ _ _ applied.1 c.in_err-write_long-in-Ok-true.ensures.err)

pub returns-in_err-write_out-in-Err-clause-err : goal.returns-in_err-write_out-in-Err-clause-err
returns-in_err-write_out-in-Err-clause-err g c =
    fails_by _ c.from_residual-in_err-write_out-in-Err.result fault.Write (search rules)
    (unwritten _ _ _ c.loop-meet.invariant.0 _ _ _ _ _ c.loop-meet.invariant.1
    c.in_err-write_out-in-Err.ensures.err)

pub returns-in-Err-clause-err : goal.returns-in-Err-clause-err
returns-in-Err-clause-err g c =
    let i = c.loop-meet.invariant in
    stops c.in-Err.fault _ _ _ i.0 _ _ (g.R.Read.remaining c.read_line.new.reader) _ _
    (g.W.Write.contents c.write_out.new.writer) i.1 (c.in-Err.ensures i.0 _ i.1.read)
    c.in_ok-write_out-in-Err.ensures.ok

pub returns-in_err-write_out-clause-err : goal.returns-in_err-write_out-clause-err
returns-in_err-write_out-clause-err g c =
    fails_by _ c.from_residual-in_err-write_out.result fault.Write (search rules)
    (unwritten _ _ _ c.loop-meet.invariant.0 _ _ _ _ _ c.loop-meet.invariant.1
    c.in_err-write_out.ensures.err)
