use Rattle.std.proofs.Common.{◌≡◌, length, arith}
use Rattle.answers.proofs.{SheetsOf.sheet_there, SheetsOf.none_there, Transcripts.meet_is}
use Rattle.answers.proofs.transcript.Transcript.sheet_at.Goals as goal

pub returns-clause-sheet : goal.returns-clause-sheet
returns-clause-sheet c =
    let log = c.args.log.now.entries in
    let all : c.args.position ≡ length c.args.self.now.answers = omega arith in
    sheet_there c.args.style log c.args.position c.args.event c.args.round c.args.self.now.meet
    (meet_is c.args.self.now log c.args.position c.requires all)
    c.sheet_in.result c.sheet_in.ensures.sheet

pub returns-clause-none : goal.returns-clause-none
returns-clause-none c =
    let log = c.args.log.now.entries in
    let all : c.args.position ≡ length c.args.self.now.answers = omega arith in
    none_there c.args.style log c.args.position c.args.event c.args.round c.args.self.now.meet
    (meet_is c.args.self.now log c.args.position c.requires all)
    c.sheet_in.result (omega (arith, all, c.requires.few)) c.sheet_in.ensures.none
