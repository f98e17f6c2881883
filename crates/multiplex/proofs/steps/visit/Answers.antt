use Rattle.std.proofs.Common.{◌≡◌, refl, sym, ap, ◌∙◌, None, Some, true, inr}
use Rattle.multiplex.specs.{Musts.Attends, Passing.Lobby, Scenes.scene, model.Ticks.desks}
use Rattle.multiplex.specs.model.Asking.{AsksHosted, ClosesAt}
use Rattle.multiplex.proofs.Visits.{answers_leave, answers_nobody, answers_stay, leave_keeps, met}
use Rattle.multiplex.proofs.Visits.{leaving, over_on, stay_keeps, visited}
use Rattle.multiplex.proofs.Asked.{asks_as, asks_both, asks_none, attends_leave, attends_nobody}
use Rattle.multiplex.proofs.Asked.{attends_stay}
use Rattle.multiplex.specs.declared.ends.EndReason.TheVariants as why
use Rattle.multiplex.proofs.steps.visit.Goals as goal

pub returns-in_default-clause-answers : goal.returns-in_default-clause-answers
returns-in_default-clause-answers g c = (
  desks c.args.node.now c.args.links.now,
  true,
  None,
  answers_nobody g.D.Desk g.L.Peers g.C.Sockets.happened (g.D.Desk.home_of c.args.node.now)
      c.args.terms c.args.number c.args.table.now
      (scene c.args.node.now c.args.links.now c.args.clients.now)
      (sym c.place_of.ensures ∙ c.in_default.is),
  refl,
  inr (refl, refl),
)

pub returns-in-None-clause-answers : goal.returns-in-None-clause-answers
returns-in-None-clause-answers g c =
    let home = g.D.Desk.home_of c.args.node.now in
    let table = c.args.table.now in
    let place = c.in-Some.place in
    let old = c.index_mut-guest.result.now in
    let new = c.host.new.guest in
    let at = met home c.args.terms.wire c.args.number table place old new
    (sym c.place_of.ensures ∙ c.in-Some.is) c.index_mut-guest.ensures.value c.requires.kept in
    let h = c.in-None.ensures.hosts in (
      h.0,
      h.1,
      None,
      answers_stay g.D.Desk g.L.Peers g.C.Sockets.happened home c.args.terms c.args.number place
          table (visited table place new c.host.new.dear c.host.new.differs) old new at.before
          at.after (scene c.args.node.now c.args.links.now c.args.clients.now)
          (scene h.0.node h.0.peers c.host.new.clients) at.split at.number at.same refl refl refl
          refl h.2,
      over_on h.1 h.3,
      h.4,
    )

pub returns-in-None-clause-kept : goal.returns-in-None-clause-kept
returns-in-None-clause-kept g c =
    let home = g.D.Desk.home_of c.args.node.now in
    let table = c.args.table.now in
    let place = c.in-Some.place in
    let old = c.index_mut-guest.result.now in
    let new = c.host.new.guest in
    let at = met home c.args.terms.wire c.args.number table place old new
    (sym c.place_of.ensures ∙ c.in-Some.is) c.index_mut-guest.ensures.value c.requires.kept in
    let h = c.in-None.ensures.hosts in
    stay_keeps g.D.Desk g.L.Peers g.C.Sockets.happened home c.args.terms.wire place table
    (visited table place new c.host.new.dear c.host.new.differs) old new at.before at.after
    (scene c.args.node.now c.args.links.now c.args.clients.now)
    (scene h.0.node h.0.peers c.host.new.clients) at.split refl
    h.2 c.host.ensures.noted c.requires.kept

pub returns-in-Some-host-clause-answers : goal.returns-in-Some-host-clause-answers
returns-in-Some-host-clause-answers g c =
    let home = g.D.Desk.home_of c.args.node.now in
    let table = c.args.table.now in
    let place = c.in-Some.place in
    let old = c.index_mut-guest.result.now in
    let new = c.host.new.guest in
    let at = met home c.args.terms.wire c.args.number table place old new
    (sym c.place_of.ensures ∙ c.in-Some.is) c.index_mut-guest.ensures.value c.requires.kept in
    let h = c.in-Some-host.ensures.hosts in (
      h.0,
      h.1,
      c.shut-over.result,
      answers_leave g.D.Desk g.L.Peers g.C.Sockets.happened home c.args.terms c.args.number
          c.in-Some-host.why place c.shut-over.result table
          (visited table place new c.host.new.dear c.host.new.differs) c.shut-over.new.table old new
          at.before at.after (scene c.args.node.now c.args.links.now c.args.clients.now) h.0.node
          h.0.peers c.host.new.clients c.shut-over.new.clients at.split at.number at.same refl
          refl refl refl h.2 c.shut-over.ensures.shut,
      c.over_for.ensures.settled h.1 h.3,
      h.4,
    )

pub returns-in-Some-host-clause-kept : goal.returns-in-Some-host-clause-kept
returns-in-Some-host-clause-kept g c =
    let home = g.D.Desk.home_of c.args.node.now in
    let table = c.args.table.now in
    let place = c.in-Some.place in
    let old = c.index_mut-guest.result.now in
    let new = c.host.new.guest in
    let at = met home c.args.terms.wire c.args.number table place old new
    (sym c.place_of.ensures ∙ c.in-Some.is) c.index_mut-guest.ensures.value c.requires.kept in
    leave_keeps g.C.Sockets.happened home c.args.terms.wire place c.shut-over.result table
    (visited table place new c.host.new.dear c.host.new.differs) c.shut-over.new.table old new
    at.before at.after c.host.new.clients c.shut-over.new.clients at.split refl refl refl refl
    c.shut-over.ensures.shut c.host.ensures.noted.1 c.requires.kept

pub returns-in_default-clause-asks : goal.returns-in_default-clause-asks
returns-in_default-clause-asks g c =
    let guests = c.args.table.now.guests.items in
    asks_none g.C.Sockets.requests c.args.clients.now (Attends c.args.number guests guests)
    (attends_nobody c.args.number guests (sym c.place_of.ensures ∙ c.in_default.is))

pub returns-in-None-clause-asks : goal.returns-in-None-clause-asks
returns-in-None-clause-asks g c =
    let home = g.D.Desk.home_of c.args.node.now in
    let table = c.args.table.now in
    let place = c.in-Some.place in
    let old = c.index_mut-guest.result.now in
    let new = c.host.new.guest in
    let at = met home c.args.terms.wire c.args.number table place old new
    (sym c.place_of.ensures ∙ c.in-Some.is) c.index_mut-guest.ensures.value c.requires.kept in
    let items = (visited table place new c.host.new.dear c.host.new.differs).guests.items in
    asks_as g.C.Sockets.requests c.args.clients.now c.host.new.clients
    (AsksHosted old.number old new None) (Attends c.args.number table.guests.items items)
    (λ xs h. attends_stay c.args.number place table items old new at.before at.after xs at.split
    at.number refl h) c.in-None.ensures.asks

pub returns-in-Some-host-clause-asks : goal.returns-in-Some-host-clause-asks
returns-in-Some-host-clause-asks g c =
    let home = g.D.Desk.home_of c.args.node.now in
    let table = c.args.table.now in
    let place = c.in-Some.place in
    let old = c.index_mut-guest.result.now in
    let new = c.host.new.guest in
    let at = met home c.args.terms.wire c.args.number table place old new
    (sym c.place_of.ensures ∙ c.in-Some.is) c.index_mut-guest.ensures.value c.requires.kept in
    let w = c.in-Some-host.why in
    let mid = visited table place new c.host.new.dear c.host.new.differs in
    let left = leaving g.C.Sockets.happened place c.shut-over.result table mid c.shut-over.new.table
    old new at.before at.after c.host.new.clients c.shut-over.new.clients at.split refl refl refl
    refl c.shut-over.ensures.shut in
    asks_both g.C.Sockets.requests c.args.clients.now c.host.new.clients c.shut-over.new.clients
    (AsksHosted old.number old new (Some w)) (ClosesAt place mid.guests.items)
    (Attends c.args.number table.guests.items c.shut-over.new.table.guests.items)
    (λ xs ys h k. attends_leave c.args.number place w table mid c.shut-over.new.table.guests.items
    old new at.before at.after xs ys at.split at.number c.in-Some-host.ensures.hosts.2.0.number refl
    (ap (λ (l : Lobby). l.guests) left.left) h k) c.in-Some-host.ensures.asks
    c.shut-over.ensures.asks

pub returns-in-None-clause-settled : goal.returns-in-None-clause-settled
returns-in-None-clause-settled g c none so = c.in-None.ensures.settled (λ n. absurd cc) so

pub returns-in-Some-host-clause-settled : goal.returns-in-Some-host-clause-settled
returns-in-Some-host-clause-settled g c none so =
    c.in-Some-host.ensures.settled
    (λ e. let down : c.in-Some-host.why ≡ why.Over = cc in c.over_for.ensures.goes_on none down) so
