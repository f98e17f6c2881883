use Rattle.std.proofs.Common.{◌≡◌, ◌≤◌, Err, arith, rules}
use Rattle.hall.proofs.Ran.{fails_at_once, fails_among, fails_behind, is_untouched, runs}
use Rattle.hall.proofs.Ran.{if_written, if_unwritten}
use Rattle.hall.proofs.running.hall.Goals as goal

pub returns-in-Err-BadCount-clause-err : goal.returns-in-Err-BadCount-clause-err
returns-in-Err-BadCount-clause-err g c = is_untouched c.args.desks _ _

pub returns-in-Err-NoMemory-clause-err : goal.returns-in-Err-NoMemory-clause-err
returns-in-Err-NoMemory-clause-err g c =
    let small : c.args.desks ≤ 255 = omega arith in fails_at_once c.args.desks _ _ small

pub returns-in_err-do_lines-clause-err : goal.returns-in_err-do_lines-clause-err
returns-in_err-do_lines-clause-err g c =
    let small : c.args.desks ≤ 255 = omega arith in
    let f = c.in_err-do_lines.ensures.err in
    let same : c.from_residual.result ≡ Err c.in_err-do_lines.field-0.0 = search rules in
    rw same (f.0, f.1, fails_among c.in_err-do_lines.field-0.0 c.args.desks f.0 _ _ _ small f.2)

pub returns-clause-err : goal.returns-clause-err
returns-clause-err g c =
    let small : c.args.desks ≤ 255 = omega arith in
    let f = c.in_ok-do_lines.ensures.ok in
    if_unwritten c.write_logs.result (λ e stopped part. (
      f.0,
      f.1,
      fails_behind e c.args.desks _ f.0 _ _ _ _ small stopped f.2 part,
    )) c.write_logs.ensures.fault c.write_logs.ensures.err

pub returns-clause-ok : goal.returns-clause-ok
returns-clause-ok g c =
    let small : c.args.desks ≤ 255 = omega arith in
    let f = c.in_ok-do_lines.ensures.ok in
    if_written c.write_logs.result
    (λ last. (f.0, f.1, runs c.args.desks _ f.0 _ _ _ _ small f.2 last)) c.write_logs.ensures.ok
