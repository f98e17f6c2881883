use Rattle.std.proofs.Common.{arith}
use Rattle.answers.proofs.SheetsOf.{sheet_there, none_there}
use Rattle.answers.proofs.transcript.sheet_of.Goals as goal

pub returns-clause-sheet : goal.returns-clause-sheet
returns-clause-sheet c =
    sheet_there c.args.style c.args.log.now.entries c.args.position c.args.event c.args.round
    c.in-Ok.first.meet c.in-Ok.ensures.meet c.sheet_in.result c.sheet_in.ensures.sheet

pub returns-clause-none : goal.returns-clause-none
returns-clause-none c =
    none_there c.args.style c.args.log.now.entries c.args.position c.args.event c.args.round
    c.in-Ok.first.meet c.in-Ok.ensures.meet c.sheet_in.result
    (omega (arith, c.if-position-len.false, c.len.ensures.len)) c.sheet_in.ensures.none
