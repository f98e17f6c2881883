use Rattle.std.proofs.Common.{rules}
use Rattle.exports.proofs.Whole.{fails_by, same_fault, same_meet}
use Rattle.exports.specs.Logs.{IsNoMeet}
use Rattle.exports.specs.declared.logs.LogFault.TheVariants as log
use Rattle.exports.proofs.logs.lines_meet.Goals as goal

pub returns-in_err-meet-clause-err : goal.returns-in_err-meet-clause-err
returns-in_err-meet-clause-err c =
    fails_by (IsNoMeet c.args.bytes.now) c.from_residual.result log.NoMemory (search rules) tt

pub returns-in_err-apply_lines-clause-err : goal.returns-in_err-apply_lines-clause-err
returns-in_err-apply_lines-clause-err c =
    let f = c.in_err-apply_lines.ensures.err in
    fails_by (IsNoMeet c.args.bytes.now) c.from_residual-in_err-apply_lines.result
    c.in_err-apply_lines.field-0.0 (search rules) (same_fault _ _ _ f.1 f.2)

pub returns-clause-ok : goal.returns-clause-ok
returns-clause-ok c =
    let all = c.in_ok-apply_lines.ensures.ok in same_meet _ _ _ all.1 all.2
