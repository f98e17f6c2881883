use Rattle.std.proofs.Common.{true, false, subst, ◌∙◌}
use Rattle.http_server.specs.{Connection.config_of, Connection.history, History.Rests}
use Rattle.pages.{specs.Asking.AsksAnswer, specs.Musts.Turns, proofs.Asked.asks_both}
use Rattle.pages.{specs.Asking.AsksMove, proofs.Moving.Moved-goes, proofs.Moving.Moved-then}
use Rattle.pages.proofs.Turning.{turn_answered, turn_over, turn_waits}
use Rattle.pages.specs.declared.waiting.TurnOutcome.TheVariants as turn
use Rattle.pages.proofs.turns.take_turn.Goals as goal

pub returns-in-Over-clause-moved : goal.returns-in-Over-clause-moved
returns-in-Over-clause-moved g c =
    Moved-then c.args.number false _ _ _ _ _ _ c.if-not-move_bytes.ensures.moved
    c.in-Over.ensures.moved

pub returns-in-Answered-clause-moved : goal.returns-in-Answered-clause-moved
returns-in-Answered-clause-moved g c =
    Moved-goes c.args.number _ _ _ _ _ (Moved-then c.args.number true _ _ _ _ _ _
    c.if-not-move_bytes.ensures.moved c.in-Answered.ensures.moved)

pub returns-in-Waits-clause-moved : goal.returns-in-Waits-clause-moved
returns-in-Waits-clause-moved g c =
    Moved-goes c.args.number _ _ _ _ _ (Moved-then c.args.number true _ _ _ _ _ _
    c.if-not-move_bytes.ensures.moved c.in-Waits.ensures.moved)

pub returns-in-Over-clause-asks : goal.returns-in-Over-clause-asks
returns-in-Over-clause-asks g c =
    let k = c.args.number in
    let config = config_of c.args.connection.now in
    let old = history c.args.connection.now in
    let new = history c.answer.new.connection in
    asks_both g.C.Sockets.requests c.args.sockets.now c.move_bytes.new.sockets c.answer.new.sockets
    (AsksMove k old true) (AsksAnswer k (config_of c.answer.new.connection) new turn.Over)
    (Turns k config old new turn.Over) (λ xs ys h o. turn_over k config old new xs ys h o)
    c.if-not-move_bytes.ensures.asks c.in-Over.ensures.asks

pub returns-in-Answered-clause-asks : goal.returns-in-Answered-clause-asks
returns-in-Answered-clause-asks g c =
    let k = c.args.number in
    let config = config_of c.args.connection.now in
    let old = history c.args.connection.now in
    let new = history c.answer.new.connection in
    let same = c.in-Answered.ensures.config ∙ c.if-not-move_bytes.ensures.config in
    asks_both g.C.Sockets.requests c.args.sockets.now c.move_bytes.new.sockets c.answer.new.sockets
    (AsksMove k old true) (AsksAnswer k (config_of c.answer.new.connection) new turn.Answered)
    (Turns k config old new c.turned.result) (λ xs ys h o. turn_answered k config old new xs ys
    c.turned.result h o.0 (subst (λ z. Rests z new) same o.1) c.turned.ensures)
    c.if-not-move_bytes.ensures.asks c.in-Answered.ensures.asks

pub returns-in-Waits-clause-asks : goal.returns-in-Waits-clause-asks
returns-in-Waits-clause-asks g c =
    let k = c.args.number in
    let config = config_of c.args.connection.now in
    let old = history c.args.connection.now in
    let new = history c.answer.new.connection in
    let same = c.in-Waits.ensures.config ∙ c.if-not-move_bytes.ensures.config in
    asks_both g.C.Sockets.requests c.args.sockets.now c.move_bytes.new.sockets c.answer.new.sockets
    (AsksMove k old true) (AsksAnswer k (config_of c.answer.new.connection) new turn.Waits)
    (Turns k config old new c.turned-in-Waits.result) (λ xs ys h o. turn_waits k config old new xs
    ys c.wants_write-was_sending.result c.turned-in-Waits.result h o.0
    c.wants_write-was_sending.ensures o.1 (subst (λ z. Rests z new) same o.2)
    c.turned-in-Waits.ensures) c.if-not-move_bytes.ensures.asks c.in-Waits.ensures.asks
