use Rattle.std.proofs.Common.{◌≡◌, ◌≤◌, ◌∙◌, Err, ap, subst, arith, rules}
use Rattle.std.specs.Io.KnownBytes.{Appends}
use Rattle.learner.specs.Worlds.{log_of}
use Rattle.lines.specs.Bytes.{AppendsPart}
use Rattle.hall.{specs.Texts.log_text, proofs.Logged.logs_more, proofs.Logged.logs_cut}
use Rattle.hall.proofs.running.write_logs.Goals as goal

pub returns-in_err-write_log-clause-err : goal.returns-in_err-write_log-clause-err
returns-in_err-write_log-clause-err g c =
    let there : c.loop-desk.desk ≤ c.args.desks = omega arith in
    let log : c.log.result.now.entries
    ≡ log_of c.args.desks c.args.world.now.events c.loop-desk.desk =
    c.log.ensures ∙ ap (λ n. log_of n c.args.world.now.events c.loop-desk.desk) c.requires.same in
    let same : c.from_residual.result ≡ Err c.in_err-write_log.field-0.0 = search rules in
    rw same (logs_cut _ _ _ _ _ _ c.loop-desk.invariant there (subst (λ es.
    AppendsPart (g.W.Write.contents c.loop-desk.writer) (g.W.Write.contents c.write_log.new.writer)
    (log_text c.loop-desk.desk es)) log c.in_err-write_log.ensures.err))

pub loop-desk-preserved : goal.loop-desk-preserved
loop-desk-preserved g c =
    let there : c.loop-desk.desk ≤ c.args.desks = omega arith in
    let log : c.log.result.now.entries
    ≡ log_of c.args.desks c.args.world.now.events c.loop-desk.desk =
    c.log.ensures ∙ ap (λ n. log_of n c.args.world.now.events c.loop-desk.desk) c.requires.same in
    logs_more _ _ _ _ _ _ c.loop-desk.invariant there (subst (λ es.
    Appends (g.W.Write.contents c.loop-desk.writer) (g.W.Write.contents c.write_log.new.writer)
    (log_text c.loop-desk.desk es)) log c.in_ok-write_log.ensures.ok)
