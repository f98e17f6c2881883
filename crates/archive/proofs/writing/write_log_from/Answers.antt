use Rattle.std.proofs.Common.{[], ◌≤◌, length, sym, refl, rules}
use Rattle.std.proofs.KnownBytes.{Appends-nil}
use Rattle.std.proofs.lemmas.Result.{on_err_weaker, on_ok_weaker}
use Rattle.lines.specs.declared.fault.RunFault.TheVariants as run_fault
use Rattle.archive.proofs.Archived.{ends, forgotten, one_more, stopped_by, unwritten}
use Rattle.archive.proofs.writing.write_log_from.Goals as goal

pub returns-in_err-push_from-clause-err : goal.returns-in_err-push_from-clause-err
returns-in_err-push_from-clause-err g c =
    stopped_by c.from_residual.result run_fault.NoMemory (search rules)
    (forgotten _ _ _ _ _ _ c.loop-pos.invariant)

pub returns-in_err-write_long-clause-err : goal.returns-in_err-write_long-clause-err
returns-in_err-write_long-clause-err g c =
    let more = one_more _ _ _ _ _ _ (g.W.Write.contents c.loop-pos.writer) _ _
    c.push_from.new.out.items c.loop-pos.invariant (sym c.in-Some.ensures)
    c.in_ok-push_from.ensures.short (c.in_ok-push_from.ensures.line (sym c.in-Some.ensures))
    ([], record { parts = refl; written = Appends-nil _ }) in
    stopped_by c.from_residual-in_err-write_long.result run_fault.Write (search rules)
    (unwritten _ _ _ _ _ _ _ more c.in_err-write_long.ensures.err)

pub loop-pos-preserved : goal.loop-pos-preserved
loop-pos-preserved g c =
    one_more _ _ _ _ _ _ (g.W.Write.contents c.write_long.new.writer) _ _
    c.write_long.new.text.items c.loop-pos.invariant (sym c.in-Some.ensures)
    c.in_ok-push_from.ensures.short (c.in_ok-push_from.ensures.line (sym c.in-Some.ensures))
    c.in_ok-write_long.ensures.ok

pub returns-clause-err : goal.returns-clause-err
returns-clause-err g c =
    on_err_weaker c.write_out.result (unwritten _ _ _ _ _ _ _ c.loop-pos.invariant)
    c.write_out.ensures.err

pub returns-clause-ok : goal.returns-clause-ok
returns-clause-ok g c =
    let past : length c.args.log.now.entries ≤ c.loop-pos.pos = search rules in
    on_ok_weaker c.write_out.result
    (λ last. ends c.args.from c.args.log.now.entries c.loop-pos.pos _ _ _ _ c.loop-pos.invariant
    past last) c.write_out.ensures.ok
