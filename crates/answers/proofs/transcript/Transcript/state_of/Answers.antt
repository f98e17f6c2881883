use Rattle.std.proofs.Common.{sym}
use Rattle.answers.proofs.States.{done_by_front}
use Rattle.answers.proofs.transcript.Transcript.state_of.Goals as goal

pub returns-in-Some-answer : goal.returns-in-Some-answer
returns-in-Some-answer c =
    done_by_front c.args.self.now c.args.log.now.entries c.args.queue.now c.args.id c.in-Some.pos
    c.in-Some-answer.answer c.requires (sym c.in-Some.ensures) (sym c.in-Some-answer.ensures)
