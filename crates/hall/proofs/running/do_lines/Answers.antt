use Rattle.std.proofs.Common.{◌++◌, [], List, ℕ, refl, subst}
use Rattle.std.proofs.KnownBytes.{Appends-nil}
use Rattle.hall.{specs.model.Running.HandlesLine, proofs.Ran.ended_bad}
use Rattle.hall.proofs.Ran.{gives_true, does_it, leaves_it, one_more, forgotten, unwritten, ended}
use Rattle.hall.proofs.running.do_lines.Goals as goal

pub returns-in_default-clause-err : goal.returns-in_default-clause-err
returns-in_default-clause-err g c =
    forgotten _ _ _ _ c.loop-world.invariant.0 _ _ _ _ c.loop-world.invariant.1

pub returns-then-not-done-clause-err : goal.returns-then-not-done-clause-err
returns-then-not-done-clause-err g c =
    let i = c.loop-world.invariant in
    let line = gives_true c.in-Ok-true.field-0 c.read_line.new.self c.read_line.new.line.items i.0
    (g.R.Read.remaining c.args.reader.now) (g.R.Read.remaining c.read_line.new.reader)
    c.in-Ok-true.field-0-test (c.in-Ok-true.ensures i.0 _ i.1.read) in
    let left = leaves_it c.in-Ok.done c.args.desks c.read_line.new.line.items c.loop-world.world
    c.do_line.new.world c.loop-world.out.items c.do_line.new.out.items c.if-not-done.true (subst
    (λ (l : List ℕ). HandlesLine c.in-Ok.done c.args.desks l c.loop-world.world c.do_line.new.world
    c.loop-world.out.items c.do_line.new.out.items) c.deref.ensures.value c.in-Ok.ensures) in
    ended_bad c.args.desks c.end_by.result _ c.read_line.new.self _ _ _
    c.read_line.new.line.items i.0 _ _ _ _ (g.R.Read.remaining c.read_line.new.reader) _ _
    (g.W.Write.contents c.end_by.new.writer) i.1 line left c.count-line.ensures c.end_by.ensures

pub loop-world-preserved : goal.loop-world-preserved
loop-world-preserved g c =
    let i = c.loop-world.invariant in
    let line = gives_true c.in-Ok-true.field-0 c.read_line.new.self c.read_line.new.line.items i.0
    (g.R.Read.remaining c.args.reader.now) (g.R.Read.remaining c.read_line.new.reader)
    c.in-Ok-true.field-0-test (c.in-Ok-true.ensures i.0 _ i.1.read) in
    let done = does_it c.in-Ok.done c.args.desks c.read_line.new.line.items c.loop-world.world
    c.do_line.new.world c.loop-world.out.items c.do_line.new.out.items c.if-not-done.false (subst
    (λ (l : List ℕ). HandlesLine c.in-Ok.done c.args.desks l c.loop-world.world c.do_line.new.world
    c.loop-world.out.items c.do_line.new.out.items) c.deref.ensures.value c.in-Ok.ensures) in (
      i.0 ++ line.more,
      one_more _ _ _ _ _ _ i.0 _ _ c.write_long.new.text.items _ _ _ _ _
          (g.W.Write.contents c.write_long.new.writer) i.1 line done c.in-Ok-write_long.ensures.ok,
    )

pub returns-in_default-write_long-clause-err : goal.returns-in_default-write_long-clause-err
returns-in_default-write_long-clause-err g c =
    let i = c.loop-world.invariant in
    let line = gives_true c.in-Ok-true.field-0 c.read_line.new.self c.read_line.new.line.items i.0
    (g.R.Read.remaining c.args.reader.now) (g.R.Read.remaining c.read_line.new.reader)
    c.in-Ok-true.field-0-test (c.in-Ok-true.ensures i.0 _ i.1.read) in
    let done = does_it c.in-Ok.done c.args.desks c.read_line.new.line.items c.loop-world.world
    c.do_line.new.world c.loop-world.out.items c.do_line.new.out.items c.if-not-done.false (subst
    (λ (l : List ℕ). HandlesLine c.in-Ok.done c.args.desks l c.loop-world.world c.do_line.new.world
    c.loop-world.out.items c.do_line.new.out.items) c.deref.ensures.value c.in-Ok.ensures) in
    let ran = one_more _ _ _ _ _ _ i.0 _ _ c.do_line.new.out.items _ _ _ _ _
    (g.W.Write.contents c.loop-world.writer) i.1 line done
    ([], record { parts = refl; written = Appends-nil _ }) in
    unwritten _ _ _ _ _ _ _ _ _ _ ran c.in_default-write_long.ensures.err

pub returns-in-Err-clause-err : goal.returns-in-Err-clause-err
returns-in-Err-clause-err g c =
    let i = c.loop-world.invariant in
    ended c.args.desks c.end_by-in-Err.result c.in-Err.fault _ _ _ i.0 _ _
    (g.R.Read.remaining c.read_line.new.reader) _ _
    (g.W.Write.contents c.end_by-in-Err.new.writer) i.1 (c.in-Err.ensures i.0 _ i.1.read)
    c.end_by-in-Err.ensures

pub returns-clause-err : goal.returns-clause-err
returns-clause-err g c =
    unwritten _ _ _ _ c.loop-world.invariant.0 _ _ _ _ _ c.loop-world.invariant.1
    c.in-Err-write_out.ensures.err
