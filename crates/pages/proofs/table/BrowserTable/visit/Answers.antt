use Rattle.std.proofs.Common.{List, ap, inr, nat_eq, refl, subst, sym, ◌∙◌}
use Rattle.http_server.specs.Connection.{config_of, history}
use Rattle.indexmap.specs.IndexMap.{get}
use Rattle.pages.specs.{Asking.SettlesBy, Kept.Holds, Kept.places_of, Turns.Moved, Waiting.goes_on}
use Rattle.pages.specs.{Musts.Attends, Musts.Turns, Musts.turned_as, Turns.Answers, Turns.Turn}
use Rattle.pages.proofs.{Answering.Answers-same, Answering.Answers-turn, Placing.without}
use Rattle.pages.proofs.{Asked.asks_both, Keeping.AreKept-fewer, Placing.placed, Placing.settles_as}
use Rattle.pages.proofs.Tables.{fewer_places, no_place, same_places, visited}
use Rattle.pages.proofs.table.BrowserTable.visit.Goals as goal

pub returns-in_default-clause-kept : goal.returns-in_default-clause-kept
returns-in_default-clause-kept g c = λ held.
    let t = c.args.self.now in
    AreKept-fewer t.terms.config (g.C.Sockets.happened t.sockets) (places_of t)
    (λ q. get nat_eq c.swap_remove.new.self q) t.next t.turns.items
    (same_places t.browsers c.swap_remove.new.self c.in_default.ensures.unchanged) held

pub returns-in_default-clause-answers : goal.returns-in_default-clause-answers
returns-in_default-clause-answers g c = λ held.
    let t = c.args.self.now in
    Answers-same g.S.Service.answers c.args.service.now c.args.service.now t.turns.items
    t.turns.items refl refl

pub returns-clause-kept : goal.returns-clause-kept
returns-clause-kept g c = λ held.
    let t = c.args.self.now in
    let m = c.swap_remove.new.self in
    let k = c.args.number in
    let b = c.in-Some.browser in
    let turn = c.take_turn-turned in
    let happened = g.C.Sockets.happened in
    let updates = c.in-Some.ensures.updates in
    let moved = subst (λ goes. Moved k goes (happened t.sockets) (happened turn.new.sockets)
    (history b.connection) (history turn.new.connection)) (sym c.goes_on.ensures) turn.ensures.moved
    in
    visited t.terms.config (happened t.sockets) (happened turn.new.sockets) (places_of t)
    (λ q. get nat_eq m q) t.next t.turns.items k b turn.new.connection (sym c.in-Some.ensures.value)
    (fewer_places t.browsers m k updates) (no_place t.browsers m k updates) turn.ensures.config held
    (Holds happened c.settle.new.self) c.and-self.result.items c.and-self.ensures c.goes_on.result
    moved c.settle.ensures.kept c.settle.ensures.closed

pub returns-clause-answers : goal.returns-clause-answers
returns-clause-answers g c = λ held.
    let t = c.args.self.now in
    let k = c.args.number in
    let b = c.in-Some.browser in
    let turn = c.take_turn-turned in
    let answers = g.S.Service.answers in
    let s = c.args.service.now in
    subst (λ (z : List Turn). Answers answers s turn.new.service t.turns.items z)
    (sym (ap (λ log. log.items) c.settle.ensures.same.turns ∙ c.and-self.ensures))
    (Answers-turn answers k t.turns.items b.connection turn.new.connection s turn.new.service
    (held.each k b (sym c.in-Some.ensures.value)).at turn.ensures.calls)

pub returns-clause-asks : goal.returns-clause-asks
returns-clause-asks g c =
    let t = c.args.self.now in
    let m = c.swap_remove.new.self in
    let k = c.args.number in
    let b = c.in-Some.browser in
    let turn = c.take_turn-turned in
    let later = turn.new.connection in
    let new = c.settle.new.self in
    let mid =
    record t { sockets = turn.new.sockets; browsers = m; turns = c.and-self.result } in
    let gone = without t.browsers m k c.in-Some.ensures.updates in
    let stood = placed later c.after-browser.result in
    let after = turned_as b later turn.result t.now in
    asks_both g.C.Sockets.requests t.sockets turn.new.sockets new.sockets
    (Turns k (config_of b.connection) (history b.connection) (history later) turn.result)
    (SettlesBy k stood c.goes_on.result mid new) (Attends k t new) (λ xs ys h s. inr (record {
      one = b;
      found = sym c.in-Some.ensures.value;
      later = later;
      came = turn.result;
      moves = xs;
      turns = h;
      limits = turn.ensures.config;
      last = ys;
      settles =
          settles_as k after t mid new gone.0 gone.1 turn.result ys
          (subst (λ w. SettlesBy k (placed later w) (goes_on turn.result) mid new ys)
          c.after-browser.ensures
          (subst (λ goes. SettlesBy k stood goes mid new ys) c.goes_on.ensures s));
      all = refl;
    })) turn.ensures.asks c.settle.ensures.asks
