use Rattle.std.proofs.Common.{[], sym, refl}
use Rattle.std.proofs.KnownBytes.{Appends-nil}
use Rattle.hall.proofs.Logged.{log_more, log_unwritten}
use Rattle.hall.proofs.running.write_log.Goals as goal

pub returns-in_default-write_long-clause-err : goal.returns-in_default-write_long-clause-err
returns-in_default-write_long-clause-err g c =
    let more = log_more _ _ _ _ _ _ (g.W.Write.contents c.loop-pos.writer) _ _
    c.push_entry.new.out.items c.loop-pos.invariant (sym c.in-Some.ensures) c.in-Ok.ensures
    ([], record { parts = refl; written = Appends-nil _ }) in
    log_unwritten _ _ _ _ _ _ _ more c.in_default-write_long.ensures.err

pub loop-pos-preserved : goal.loop-pos-preserved
loop-pos-preserved g c =
    log_more _ _ _ _ _ _ (g.W.Write.contents c.write_long.new.writer) _ _
    c.write_long.new.text.items c.loop-pos.invariant (sym c.in-Some.ensures) c.in-Ok.ensures
    c.in-Ok-write_long.ensures.ok

pub returns-clause-err : goal.returns-clause-err
returns-clause-err g c = log_unwritten _ _ _ _ _ _ _ c.loop-pos.invariant c.in-Err.ensures.err
