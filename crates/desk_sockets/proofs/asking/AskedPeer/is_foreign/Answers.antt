use Rattle.std.proofs.Common.{◌∙◌, sym}
use Rattle.desk_sockets.proofs.Answering.{foreign_frame, foreign_hall, same_hall}
use Rattle.desk_sockets.proofs.asking.AskedPeer.is_foreign.Goals as goal

pub returns-then-hall-self-clause-is : goal.returns-then-hall-self-clause-is
returns-then-hall-self-clause-is c =
    sym (foreign_hall c.args.self c.args.front.now c.from_be_bytes-hall.result
    c.from_be_bytes-hall.ensures c.if-hall-self.true)

pub returns-else-hall-self-clause-is : goal.returns-else-hall-self-clause-is
returns-else-hall-self-clause-is c =
    sym (same_hall c.args.self c.args.front.now c.from_be_bytes-hall.result
    c.from_be_bytes-hall.ensures c.if-hall-self.false)

pub returns-then-hall-self-clause-frames : goal.returns-then-hall-self-clause-frames
returns-then-hall-self-clause-frames c = λ f rest fits is.
    sym (foreign_hall c.args.self c.args.front.now c.from_be_bytes-hall.result
    c.from_be_bytes-hall.ensures c.if-hall-self.true)
    ∙ foreign_frame c.args.self f rest c.args.front.now fits is

pub returns-else-hall-self-clause-frames : goal.returns-else-hall-self-clause-frames
returns-else-hall-self-clause-frames c = λ f rest fits is.
    sym (same_hall c.args.self c.args.front.now c.from_be_bytes-hall.result
    c.from_be_bytes-hall.ensures c.if-hall-self.false)
    ∙ foreign_frame c.args.self f rest c.args.front.now fits is
