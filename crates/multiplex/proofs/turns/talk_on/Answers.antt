use Rattle.std.proofs.Common.{refl, inl, inr, true, false, None, Some}
use Rattle.multiplex.specs.model.{Ticks.desks, Visiting.beside, Visiting.spot}
use Rattle.multiplex.proofs.{Asked.begins_alone, Asked.begins_then, Heard.settles_at}
use Rattle.multiplex.proofs.Walking.{not_done, serves_beside, serves_sent, settled_so, talk_done}
use Rattle.multiplex.proofs.Walking.{talk_moved, talk_served, talk_unsettled}
use Rattle.multiplex.specs.declared.ends.EndReason.TheVariants as why
use Rattle.multiplex.proofs.turns.talk_on.Goals as goal

pub returns-in-Some-clause-talks : goal.returns-in-Some-clause-talks
returns-in-Some-clause-talks g c = (
  desks c.args.node.now c.args.links.now,
  true,
  talk_moved g.D.Desk g.L.Peers g.C.Sockets.happened _ c.args.time _
      (beside c.args.dear.now.spent c.args.guest.now.notes c.args.differs.now) _ _ _ _ _ _
      c.in-Some.ensures.moves,
  settled_so true (Some c.in-Some.why) refl c.in-Some.ensures.going,
  inr (refl, refl),
)

pub returns-then-not-settle-clause-talks : goal.returns-then-not-settle-clause-talks
returns-then-not-settle-clause-talks g c =
    let was = beside c.args.dear.now.spent c.args.guest.now.notes c.args.differs.now in
    let at = beside c.serve_next-served.new.dear.spent c.serve_next-served.new.notes
    c.serve_next-served.new.differs in (
      desks c.serve_next-served.new.node c.serve_next-served.new.peers,
      false,
      talk_unsettled g.D.Desk g.L.Peers g.C.Sockets.happened _ c.args.time _ was at _ _ _ _ _ _ _
          c.in_default.ensures.moves
          (serves_beside g.D.Desk g.L.Peers g.C.Sockets.happened c.args.guest.now.number c.args.time
          c.serve_next-served.result was at c.args.node.now c.serve_next-served.new.node
          c.args.links.now c.serve_next-served.new.peers c.move_bytes.new.clients
          c.move_bytes.new.talk c.serve_next-served.new.talk c.serve_next-served.ensures.served),
      (λ _. refl, λ _. refl),
      inl (settles_at _ _ _ _ _ _ _ c.serve_next-served.ensures.node
          c.if-not-settle.ensures.settles),
    )

pub returns-then-not-answer-clause-talks : goal.returns-then-not-answer-clause-talks
returns-then-not-answer-clause-talks g c =
    let was = beside c.args.dear.now.spent c.args.guest.now.notes c.args.differs.now in
    let at = beside c.serve_next-served.new.dear.spent c.serve_next-served.new.notes
    c.serve_next-served.new.differs in
    let served = serves_beside g.D.Desk g.L.Peers g.C.Sockets.happened c.args.guest.now.number
    c.args.time c.serve_next-served.result was at c.args.node.now c.serve_next-served.new.node
    c.args.links.now c.serve_next-served.new.peers c.move_bytes.new.clients c.move_bytes.new.talk
    c.serve_next-served.new.talk c.serve_next-served.ensures.served in (
      desks c.serve_next-served.new.node c.serve_next-served.new.peers,
      true,
      talk_served g.D.Desk g.L.Peers g.C.Sockets.happened _ c.args.time (Some why.Broke) _ was at _
          _ _ _ _ _ _ c.in_default.ensures.moves (serves_sent g.D.Desk g.L.Peers
          g.C.Sockets.happened c.args.guest.now.number c.args.time false c.serve_next-served.result
          was at
          (spot c.args.node.now c.args.links.now c.move_bytes.new.clients c.move_bytes.new.talk)
          c.serve_next-served.new.node c.serve_next-served.new.peers c.move_bytes.new.clients
          c.answer.new.clients c.serve_next-served.new.talk c.answer.new.talk served
          c.if-not-answer.ensures.sends c.if-not-answer.ensures.rests) tt,
      settled_so true (Some why.Broke) refl (λ n. absurd cc),
      inl (settles_at _ _ _ _ _ _ _ c.serve_next-served.ensures.node
          c.if-not-settle.ensures.settles),
    )

pub returns-then-is_done-clause-talks : goal.returns-then-is_done-clause-talks
returns-then-is_done-clause-talks g c =
    let was = beside c.args.dear.now.spent c.args.guest.now.notes c.args.differs.now in
    let at = beside c.serve_next-served.new.dear.spent c.serve_next-served.new.notes
    c.serve_next-served.new.differs in
    let served = serves_beside g.D.Desk g.L.Peers g.C.Sockets.happened c.args.guest.now.number
    c.args.time c.serve_next-served.result was at c.args.node.now c.serve_next-served.new.node
    c.args.links.now c.serve_next-served.new.peers c.move_bytes.new.clients c.move_bytes.new.talk
    c.serve_next-served.new.talk c.serve_next-served.ensures.served in (
      desks c.serve_next-served.new.node c.serve_next-served.new.peers,
      true,
      talk_done g.D.Desk g.L.Peers g.C.Sockets.happened _ c.args.time _ was at _ _ _ _ _ _ _
          c.in_default.ensures.moves (serves_sent g.D.Desk g.L.Peers g.C.Sockets.happened
          c.args.guest.now.number c.args.time true c.serve_next-served.result was at
          (spot c.args.node.now c.args.links.now c.move_bytes.new.clients c.move_bytes.new.talk)
          c.serve_next-served.new.node c.serve_next-served.new.peers c.move_bytes.new.clients
          c.answer.new.clients c.serve_next-served.new.talk c.answer.new.talk served
          c.if-not-answer.ensures.sends c.if-not-answer.ensures.rests)
          (c.is_done.ensures.0 c.if-is_done.true),
      settled_so true (Some why.Done) refl (λ n. absurd cc),
      inl (settles_at _ _ _ _ _ _ _ c.serve_next-served.ensures.node
          c.if-not-settle.ensures.settles),
    )

pub returns-else-is_done-clause-talks : goal.returns-else-is_done-clause-talks
returns-else-is_done-clause-talks g c =
    let was = beside c.args.dear.now.spent c.args.guest.now.notes c.args.differs.now in
    let at = beside c.serve_next-served.new.dear.spent c.serve_next-served.new.notes
    c.serve_next-served.new.differs in
    let served = serves_beside g.D.Desk g.L.Peers g.C.Sockets.happened c.args.guest.now.number
    c.args.time c.serve_next-served.result was at c.args.node.now c.serve_next-served.new.node
    c.args.links.now c.serve_next-served.new.peers c.move_bytes.new.clients c.move_bytes.new.talk
    c.serve_next-served.new.talk c.serve_next-served.ensures.served in (
      desks c.serve_next-served.new.node c.serve_next-served.new.peers,
      true,
      talk_served g.D.Desk g.L.Peers g.C.Sockets.happened _ c.args.time None _ was at _ _ _ _ _ _ _
          c.in_default.ensures.moves (serves_sent g.D.Desk g.L.Peers g.C.Sockets.happened
          c.args.guest.now.number c.args.time true c.serve_next-served.result was at
          (spot c.args.node.now c.args.links.now c.move_bytes.new.clients c.move_bytes.new.talk)
          c.serve_next-served.new.node c.serve_next-served.new.peers c.move_bytes.new.clients
          c.answer.new.clients c.serve_next-served.new.talk c.answer.new.talk served
          c.if-not-answer.ensures.sends c.if-not-answer.ensures.rests)
          (not_done _ c.is_done.result c.is_done.ensures c.if-is_done.false),
      settled_so true None refl (λ n. absurd cc),
      inl (settles_at _ _ _ _ _ _ _ c.serve_next-served.ensures.node
          c.if-not-settle.ensures.settles),
    )

pub returns-in-Some-clause-asks : goal.returns-in-Some-clause-asks
returns-in-Some-clause-asks g c =
    begins_alone g.C.Sockets.requests c.args.clients.now c.move_bytes.new.clients
    c.args.guest.now.number c.args.guest.now.talk c.in-Some.ensures.asks

pub returns-then-not-settle-clause-asks : goal.returns-then-not-settle-clause-asks
returns-then-not-settle-clause-asks g c =
    begins_alone g.C.Sockets.requests c.args.clients.now c.move_bytes.new.clients
    c.args.guest.now.number c.args.guest.now.talk c.in_default.ensures.asks

pub returns-then-not-answer-clause-asks : goal.returns-then-not-answer-clause-asks
returns-then-not-answer-clause-asks g c =
    begins_then g.C.Sockets.requests c.args.clients.now c.move_bytes.new.clients
    c.answer.new.clients c.args.guest.now.number c.args.guest.now.talk
    c.in_default.ensures.asks c.if-not-answer.ensures.asks

pub returns-then-is_done-clause-asks : goal.returns-then-is_done-clause-asks
returns-then-is_done-clause-asks g c =
    begins_then g.C.Sockets.requests c.args.clients.now c.move_bytes.new.clients
    c.answer.new.clients c.args.guest.now.number c.args.guest.now.talk
    c.in_default.ensures.asks c.if-not-answer.ensures.asks

pub returns-else-is_done-clause-asks : goal.returns-else-is_done-clause-asks
returns-else-is_done-clause-asks g c =
    begins_then g.C.Sockets.requests c.args.clients.now c.move_bytes.new.clients
    c.answer.new.clients c.args.guest.now.number c.args.guest.now.talk
    c.in_default.ensures.asks c.if-not-answer.ensures.asks

pub returns-then-not-settle-clause-settled : goal.returns-then-not-settle-clause-settled
returns-then-not-settle-clause-settled g c other so = absurd (other refl)

pub returns-then-not-answer-clause-settled : goal.returns-then-not-answer-clause-settled
returns-then-not-answer-clause-settled g c other so = c.if-not-settle.ensures.settled refl

pub returns-then-is_done-clause-settled : goal.returns-then-is_done-clause-settled
returns-then-is_done-clause-settled g c other so = c.if-not-settle.ensures.settled refl

pub returns-else-is_done-clause-settled : goal.returns-else-is_done-clause-settled
returns-else-is_done-clause-settled g c other so = c.if-not-settle.ensures.settled refl
