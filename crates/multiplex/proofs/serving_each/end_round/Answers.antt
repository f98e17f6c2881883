use Rattle.std.proofs.Common.{refl, subst, sym, ◌∙◌, ◌++◌, true, false, None, Some}
use Rattle.multiplex.specs.{Musts.EndsRound, Musts.WereKeptAt, Scenes.scene, Dear.renewed}
use Rattle.polled.specs.Requests.{Asks}
use Rattle.multiplex.specs.model.{Ticks.desks, Visiting.HearsThenSettles}
use Rattle.store.specs.declared.home.Home.{Home}
use Rattle.multiplex.specs.model.Asking.{AsksSome, WakesAll}
use Rattle.multiplex.proofs.Asked.{all_woken_more, asks_both, asks_none}
use Rattle.multiplex.proofs.{Heard.settles_at, Looking.none_of, Looking.some_of}
use Rattle.multiplex.proofs.{Shutting.alters_both, Shutting.spent_same, Stepping.settled_then}
use Rattle.multiplex.proofs.Stepping.{does_both, does_changes, does_round, round_settles, timed}
use Rattle.multiplex.specs.declared.ends.ServingEnd.TheVariants as over_is
use Rattle.multiplex.proofs.serving_each.end_round.Goals as goal

pub returns-then-is_some-clause-does : goal.returns-then-is_some-clause-does
returns-then-is_some-clause-does g c before told =
    does_round g.D.Desk g.L.Peers g.C.Sockets.happened c.args.terms c.args.now
    c.tick_if_due-over.result c.args.table.now c.tick_if_due-over.new.self c.renew.new.self
    c.args.table.now.said c.args.node.now c.tick_if_due-over.new.node c.args.links.now
    c.tick_if_due-over.new.peers c.tick_if_due-over.new.peers before c.args.clients.now
    (spent_same c.renew.new.self (renewed c.args.table.now.time c.args.now c.args.table.now.dear)
    c.renew.ensures) refl told c.tick_if_due-over.ensures.ticks

pub returns-then-not-settle_and_keep-clause-does : goal.returns-then-not-settle_and_keep-clause-does
returns-then-not-settle_and_keep-clause-does g c before told =
    round_settles g.D.Desk g.L.Peers g.C.Sockets.happened c.args.terms c.args.now false
    c.tick_if_due-over.result c.args.table.now c.tick_if_due-over.new.self c.renew.new.self
    c.args.node.now c.tick_if_due-over.new.node c.settle_and_keep.new.node c.args.links.now
    c.tick_if_due-over.new.peers c.settle_and_keep.new.links before c.args.clients.now
    (none_of c.tick_if_due-over.result c.is_some.result c.is_some.ensures c.if-is_some.false)
    (spent_same c.renew.new.self (renewed c.args.table.now.time c.args.now c.args.table.now.dear)
    c.renew.ensures) told c.tick_if_due-over.ensures.ticks (settles_at _ _ _ _ _ _ _
    c.tick_if_due-over.ensures.home c.if-not-settle_and_keep.ensures.settles)

pub returns-then-not-settle_and_keep-2-clause-does :
    goal.returns-then-not-settle_and_keep-2-clause-does
returns-then-not-settle_and_keep-2-clause-does g c before told =
    let d = g.D.Desk in
    let happened = g.C.Sockets.happened in
    let table = c.args.table.now in
    let mid = timed table c.args.now c.tick_if_due-over.new.self c.renew.new.self table.said in
    let first = c.settle_and_keep.new.node in
    let links = c.settle_and_keep.new.links in
    does_both d g.L.Peers happened (d.home_of c.args.node.now) c.args.terms (Some over_is.Down)
    table mid mid (scene c.args.node.now c.args.links.now before)
    (scene first links c.args.clients.now)
    (scene c.settle_and_keep-2.new.node c.settle_and_keep-2.new.links c.args.clients.now)
    (round_settles d g.L.Peers happened c.args.terms c.args.now true c.tick_if_due-over.result table
    c.tick_if_due-over.new.self c.renew.new.self c.args.node.now c.tick_if_due-over.new.node first
    c.args.links.now c.tick_if_due-over.new.peers links before c.args.clients.now
    (none_of c.tick_if_due-over.result c.is_some.result c.is_some.ensures c.if-is_some.false)
    (spent_same c.renew.new.self (renewed table.time c.args.now table.dear) c.renew.ensures) told
    c.tick_if_due-over.ensures.ticks (settles_at _ _ _ _ _ _ _ c.tick_if_due-over.ensures.home
    c.if-not-settle_and_keep.ensures.settles)) (settled_then d g.L.Peers happened
    (d.home_of c.args.node.now) c.args.terms false mid mid first c.settle_and_keep-2.new.node links
    c.settle_and_keep-2.new.links c.settle_and_keep-2.new.links c.args.clients.now refl refl
    (settles_at _ _ _ _ _ _ _ (c.settle_and_keep.ensures.home ∙ c.tick_if_due-over.ensures.home)
    c.if-not-settle_and_keep-2.ensures.settles))

pub returns-clause-does : goal.returns-clause-does
returns-clause-does g c before told =
    let d = g.D.Desk in
    let happened = g.C.Sockets.happened in
    let table = c.args.table.now in
    let home = d.home_of c.args.node.now in
    let mid = timed table c.args.now c.tick_if_due-over.new.self c.renew.new.self table.said in
    let last = timed table c.args.now c.tick_if_due-over.new.self c.renew.new.self c.say.new.said in
    let here = scene c.args.node.now c.args.links.now before in
    let first = c.settle_and_keep.new.node in
    let links = c.settle_and_keep.new.links in
    let node = c.settle_and_keep-2.new.node in
    let there = scene node c.say.new.links c.args.clients.now in
    does_both d g.L.Peers happened home c.args.terms c.let_go.result table last c.let_go.new.table
    here there (scene node c.say.new.links c.let_go.new.clients) (does_both d g.L.Peers happened
    home c.args.terms None table mid last here (scene first links c.args.clients.now) there
    (round_settles d g.L.Peers happened c.args.terms c.args.now true c.tick_if_due-over.result table
    c.tick_if_due-over.new.self c.renew.new.self c.args.node.now c.tick_if_due-over.new.node first
    c.args.links.now c.tick_if_due-over.new.peers links before c.args.clients.now
    (none_of c.tick_if_due-over.result c.is_some.result c.is_some.ensures c.if-is_some.false)
    (spent_same c.renew.new.self (renewed table.time c.args.now table.dear) c.renew.ensures) told
    c.tick_if_due-over.ensures.ticks (settles_at _ _ _ _ _ _ _ c.tick_if_due-over.ensures.home
    c.if-not-settle_and_keep.ensures.settles)) (settled_then d g.L.Peers happened home c.args.terms
    true mid last first node links c.settle_and_keep-2.new.links c.say.new.links c.args.clients.now
    refl c.say.ensures.handed (settles_at _ _ _ _ _ _ _
    (c.settle_and_keep.ensures.home ∙ c.tick_if_due-over.ensures.home)
    c.if-not-settle_and_keep-2.ensures.settles))) (does_changes d g.L.Peers happened home
    c.args.terms c.let_go.result last c.let_go.new.table node c.say.new.links c.args.clients.now
    c.let_go.new.clients (alters_both happened home c.args.terms c.let_go.result last last
    c.let_go.new.table c.args.clients.now c.wake.new.clients c.let_go.new.clients
    (c.wake.ensures.told home c.args.terms) (c.let_go.ensures.alters home c.args.terms refl)))

pub returns-then-is_some-clause-ends : goal.returns-then-is_some-clause-ends
returns-then-is_some-clause-ends g c =
    let over = c.tick_if_due-over.result in
    let goes_on = some_of over c.is_some.result c.is_some.ensures c.if-is_some.true in
    asks_none g.C.Sockets.requests c.args.clients.now (EndsRound c.args.terms
    (g.D.Desk.home_of c.args.node.now) c.args.now over (g.D.Desk.seen c.tick_if_due-over.new.node)
    (timed c.args.table.now c.args.now c.tick_if_due-over.new.self c.renew.new.self
    c.args.table.now.said) (g.L.PeerLinks.kept c.tick_if_due-over.new.peers)) (record {
      time = refl;
      links = λ none. absurd (goes_on none);
      woken = λ none. absurd (goes_on none);
      silent = λ none. absurd (goes_on none);
    })

pub returns-then-not-settle_and_keep-clause-ends : goal.returns-then-not-settle_and_keep-clause-ends
returns-then-not-settle_and_keep-clause-ends g c =
    asks_none g.C.Sockets.requests c.args.clients.now
    (EndsRound c.args.terms (g.D.Desk.home_of c.args.node.now) c.args.now (Some over_is.Down)
    (g.D.Desk.seen c.settle_and_keep.new.node)
    (timed c.args.table.now c.args.now c.tick_if_due-over.new.self c.renew.new.self
    c.args.table.now.said) (g.L.PeerLinks.kept c.settle_and_keep.new.links)) (record {
      time = refl;
      links = λ none. absurd cc;
      woken = λ none. absurd cc;
      silent = λ none. absurd cc;
    })

pub returns-then-not-settle_and_keep-2-clause-ends :
    goal.returns-then-not-settle_and_keep-2-clause-ends
returns-then-not-settle_and_keep-2-clause-ends g c =
    asks_none g.C.Sockets.requests c.args.clients.now
    (EndsRound c.args.terms (g.D.Desk.home_of c.args.node.now) c.args.now (Some over_is.Down)
    (g.D.Desk.seen c.settle_and_keep-2.new.node)
    (timed c.args.table.now c.args.now c.tick_if_due-over.new.self c.renew.new.self
    c.args.table.now.said) (g.L.PeerLinks.kept c.settle_and_keep-2.new.links)) (record {
      time = refl;
      links = λ none. absurd cc;
      woken = λ none. absurd cc;
      silent = λ none. absurd cc;
    })

pub returns-clause-ends : goal.returns-clause-ends
returns-clause-ends g c =
    let d = g.D.Desk in
    let home = d.home_of c.args.node.now in
    let x = d.seen c.settle_and_keep-2.new.node in
    let guests = c.args.table.now.guests.items in
    let requests = g.C.Sockets.requests in
    asks_both requests c.args.clients.now c.wake.new.clients c.let_go.new.clients
    (WakesAll home x c.args.now guests) AsksSome (EndsRound c.args.terms home c.args.now
    c.let_go.result x c.let_go.new.table (g.L.PeerLinks.kept c.say.new.links))
    (λ xs ys h some. record {
      time = c.let_go.ensures.time;
      links = λ none.
          subst (λ z. WereKeptAt c.args.now z) (sym c.say.ensures.kept)
          (c.if-not-settle_and_keep-2.ensures.kept refl);
      woken = λ none.
          c.let_go.ensures.woken home x c.args.now (xs ++ ys)
          (all_woken_more home x c.args.now guests xs ys h);
      silent = c.let_go.ensures.silent;
    }) (subst
    (λ h. Asks requests c.args.clients.now c.wake.new.clients (WakesAll h x c.args.now guests))
    (c.settle_and_keep-2.ensures.home ∙ c.settle_and_keep.ensures.home
    ∙ c.tick_if_due-over.ensures.home) c.wake.ensures.asks) c.let_go.ensures.asks

pub returns-then-not-settle_and_keep-clause-kept : goal.returns-then-not-settle_and_keep-clause-kept
returns-then-not-settle_and_keep-clause-kept g c home wire h =
    record { guests = h.guests; differs = h.differs }

pub returns-then-not-settle_and_keep-2-clause-kept :
    goal.returns-then-not-settle_and_keep-2-clause-kept
returns-then-not-settle_and_keep-2-clause-kept g c home wire h =
    record { guests = h.guests; differs = h.differs }

pub returns-then-is_some-clause-kept : goal.returns-then-is_some-clause-kept
returns-then-is_some-clause-kept g c home wire h =
    record { guests = h.guests; differs = h.differs }

pub returns-clause-kept : goal.returns-clause-kept
returns-clause-kept g c home wire h =
    c.let_go.ensures.kept home wire (record { guests = h.guests; differs = h.differs })

pub returns-then-is_some-clause-settled : goal.returns-then-is_some-clause-settled
returns-then-is_some-clause-settled g c none =
    absurd
    (some_of c.tick_if_due-over.result c.is_some.result c.is_some.ensures c.if-is_some.true none)

pub returns-clause-settled : goal.returns-clause-settled
returns-clause-settled g c none = c.if-not-settle_and_keep-2.ensures.settled refl

pub returns-then-is_some-clause-heard : goal.returns-then-is_some-clause-heard
returns-then-is_some-clause-heard g c none =
    absurd
    (some_of c.tick_if_due-over.result c.is_some.result c.is_some.ensures c.if-is_some.true none)

pub returns-clause-heard : goal.returns-clause-heard
returns-clause-heard g c none =
    let a = desks c.settle_and_keep.new.node c.settle_and_keep.new.links in (
      a,
      subst (λ (z : Home). HearsThenSettles g.D.Desk g.L.Peers g.L.OwnLinks.waiting true
          c.args.terms.wire z true a c.settle_and_keep-2.new.node)
          (c.settle_and_keep.ensures.home ∙ c.tick_if_due-over.ensures.home)
          c.if-not-settle_and_keep-2.ensures.heard,
    )
