use Rattle.std.proofs.Common.{subst, sym, ap, ◌∙◌, eqb, None, Some, refl, inl, inr, arith}
use Rattle.multiplex.specs.{Musts.Musts, Musts.stand, Scenes.scene}
use Rattle.polled.{specs.Requests.Asks, proofs.Telling.Tells-nil}
use Rattle.multiplex.specs.model.{Scenes.Does, Tables.AreKept}
use Rattle.multiplex.proofs.Stepping.{does_both, does_stop, is_empty}
use Rattle.multiplex.proofs.Asked.{steps_more, until_here, until_step}
use Rattle.multiplex.specs.declared.ends.ServingEnd.TheVariants as over
use Rattle.multiplex.proofs.serving_each.serve_rounds.Goals as goal

pub returns-then-table-terms-clause-does : goal.returns-then-table-terms-clause-does
returns-then-table-terms-clause-does g c =
    let d = g.D.Desk in
    let happened = g.C.Sockets.happened in
    let at = c.loop-step in
    let home = d.home_of c.args.node.now in
    let none = is_empty at.table.guests.items
    (c.if-is_empty.ensures ∙ ap (λ n. eqb n 0) at.table.guests.ok.0) in
    does_both d g.L.Peers happened home c.args.terms (Some over.All) c.args.table.now at.table
    at.table (scene c.args.node.now c.args.links.now c.args.clients.now)
    (scene at.node at.links at.clients) (scene at.node at.links at.clients) at.invariant.does
    (does_stop d g.L.Peers happened home c.args.terms over.All at.table at.node at.links at.clients
    at.clients (none, c.if-table-terms.true) (Tells-nil (happened at.clients)))

pub returns-in-Some-clause-does : goal.returns-in-Some-clause-does
returns-in-Some-clause-does g c =
    let d = g.D.Desk in
    let happened = g.C.Sockets.happened in
    let at = c.loop-step in
    does_both d g.L.Peers happened (d.home_of c.args.node.now) c.args.terms (Some c.in-Some.over)
    c.args.table.now at.table c.step.new.table
    (scene c.args.node.now c.args.links.now c.args.clients.now) (scene at.node at.links at.clients)
    (scene c.step.new.node c.step.new.links c.step.new.clients) at.invariant.does
    (subst (λ h. Does d g.L.Peers happened h c.args.terms (Some c.in-Some.over) at.table
    c.step.new.table (scene at.node at.links at.clients)
    (scene c.step.new.node c.step.new.links c.step.new.clients)) at.invariant.home
    c.in-Some.ensures.does)

pub loop-step-preserved : goal.loop-step-preserved
loop-step-preserved g c =
    let d = g.D.Desk in
    let happened = g.C.Sockets.happened in
    let at = c.loop-step in
    record {
      does =
          does_both d g.L.Peers happened (d.home_of c.args.node.now) c.args.terms None
          c.args.table.now at.table c.step.new.table
          (scene c.args.node.now c.args.links.now c.args.clients.now)
          (scene at.node at.links at.clients)
          (scene c.step.new.node c.step.new.links c.step.new.clients) at.invariant.does
          (subst (λ h. Does d g.L.Peers happened h c.args.terms None at.table c.step.new.table
          (scene at.node at.links at.clients)
          (scene c.step.new.node c.step.new.links c.step.new.clients)) at.invariant.home
          c.in_default.ensures.does);
      kept =
          subst (λ h. AreKept h c.args.terms.wire c.step.new.table)
          (sym c.step.ensures.home) c.step.ensures.kept;
      few = c.step.ensures.few;
      home = c.step.ensures.home ∙ at.invariant.home;
      asks =
          steps_more g.C.Sockets.requests g.L.PeerLinks.due g.L.PeerLinks.kept c.args.terms
          (d.home_of c.args.node.now) at._step
          (stand c.args.table.now c.args.links.now (d.seen c.args.node.now))
          (stand at.table at.links (d.seen at.node))
          (stand c.step.new.table c.step.new.links (d.seen c.step.new.node)) c.args.clients.now
          at.clients c.step.new.clients at.invariant.asks (subst (λ h. Asks g.C.Sockets.requests
          at.clients c.step.new.clients (Musts g.L.PeerLinks.due g.L.PeerLinks.kept c.args.terms h
          (d.seen c.step.new.node) None at.table c.step.new.table at.links c.step.new.links))
          at.invariant.home c.in_default.ensures.asks);
    }

pub returns-clause-does : goal.returns-clause-does
returns-clause-does g c =
    let d = g.D.Desk in
    let happened = g.C.Sockets.happened in
    let at = c.loop-step in
    let home = d.home_of c.args.node.now in
    does_both d g.L.Peers happened home c.args.terms (Some over.Tired) c.args.table.now at.table
    at.table (scene c.args.node.now c.args.links.now c.args.clients.now)
    (scene at.node at.links at.clients) (scene at.node at.links at.clients) at.invariant.does
    (does_stop d g.L.Peers happened home c.args.terms over.Tired at.table at.node at.links
    at.clients at.clients tt (Tells-nil (happened at.clients)))

pub returns-then-table-terms-clause-asks : goal.returns-then-table-terms-clause-asks
returns-then-table-terms-clause-asks g c =
    let d = g.D.Desk in
    let at = c.loop-step in
    let none = is_empty at.table.guests.items
    (c.if-is_empty.ensures ∙ ap (λ n. eqb n 0) at.table.guests.ok.0) in
    until_here g.C.Sockets.requests g.L.PeerLinks.due g.L.PeerLinks.kept c.args.terms
    (d.home_of c.args.node.now) over.All at._step
    (stand c.args.table.now c.args.links.now (d.seen c.args.node.now))
    (stand at.table at.links (d.seen at.node)) c.args.clients.now at.clients at.invariant.asks
    (inl (refl, none, c.if-table-terms.true, refl, refl))

pub returns-in-Some-clause-asks : goal.returns-in-Some-clause-asks
returns-in-Some-clause-asks g c =
    let d = g.D.Desk in
    let at = c.loop-step in
    until_step g.C.Sockets.requests g.L.PeerLinks.due g.L.PeerLinks.kept c.args.terms
    (d.home_of c.args.node.now) c.in-Some.over at._step
    (stand c.args.table.now c.args.links.now (d.seen c.args.node.now))
    (stand at.table at.links (d.seen at.node))
    (stand c.step.new.table c.step.new.links (d.seen c.step.new.node)) c.args.clients.now at.clients
    c.step.new.clients at.invariant.asks (subst (λ h. Asks g.C.Sockets.requests at.clients
    c.step.new.clients (Musts g.L.PeerLinks.due g.L.PeerLinks.kept c.args.terms h
    (d.seen c.step.new.node) (Some c.in-Some.over) at.table c.step.new.table at.links
    c.step.new.links)) at.invariant.home c.in-Some.ensures.asks)

pub returns-clause-asks : goal.returns-clause-asks
returns-clause-asks g c =
    let d = g.D.Desk in
    let at = c.loop-step in
    until_here g.C.Sockets.requests g.L.PeerLinks.due g.L.PeerLinks.kept c.args.terms
    (d.home_of c.args.node.now) over.Tired at._step
    (stand c.args.table.now c.args.links.now (d.seen c.args.node.now))
    (stand at.table at.links (d.seen at.node)) c.args.clients.now at.clients at.invariant.asks (inr
    (inl (refl, omega (arith, c.loop-step-test.false, c.loop-step.auto._step-end), refl, refl)))
