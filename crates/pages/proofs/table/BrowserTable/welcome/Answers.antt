use Rattle.std.proofs.Common.{[], ◌+◌, false, inl, nat_eq, refl}
use Rattle.indexmap.specs.IndexMap.{get}
use Rattle.pages.specs.{Kept.places_of, Musts.GivesPlace, declared.table.Browser.Browser}
use Rattle.pages.proofs.{Asked.asks_none, Tables.other_places, Tables.same_places}
use Rattle.pages.proofs.Keeping.{AreKept-came, AreKept-fewer, AreKept-more, IsOpen-new}
use Rattle.polled.specs.declared.answers.AcceptedPeer.TheVariants as accepted_is
use Rattle.pages.proofs.table.BrowserTable.welcome.Goals as goal

pub returns-in-Ok-clause-kept : goal.returns-in-Ok-clause-kept
returns-in-Ok-clause-kept g c = λ held.
    let t = c.args.self.now in
    let m = c.insert.new.self in
    let a = g.C.Sockets.happened t.sockets in
    let config = t.terms.config in
    let connection = c.new-connection.result in
    let updates = c.in-Ok.ensures.updates in
    AreKept-more config a (places_of t) (λ q. get nat_eq m q) (t.next + 1) t.turns.items t.next
    (record { connection = connection; waiting = record { since = t.now; is_idle = false } })
    updates.1 (other_places t.browsers m t.next _ updates) (IsOpen-new config a (places_of t) t.next
    t.turns.items connection c.new-connection.ensures.history c.new-connection.ensures.config held)
    (AreKept-came config a (places_of t) t.next t.turns.items held)

pub returns-clause-kept : goal.returns-clause-kept
returns-clause-kept g c = λ held.
    let t = c.args.self.now in
    let m = c.insert.new.self in
    let a = g.C.Sockets.happened t.sockets in
    let config = t.terms.config in
    c.close.ensures.kept (AreKept-fewer config a (places_of t) (λ q. get nat_eq m q) (t.next + 1)
    t.turns.items (same_places t.browsers m c.in-Err.ensures.err)
    (AreKept-came config a (places_of t) t.next t.turns.items held))

pub returns-in-Ok-clause-asks : goal.returns-in-Ok-clause-asks
returns-in-Ok-clause-asks g c =
    let t = c.args.self.now in
    let updates = c.in-Ok.ensures.updates in
    let b : Browser = record {
      connection = c.new-connection.result;
      waiting = record { since = t.now; is_idle = false };
    } in
    asks_none g.C.Sockets.requests t.sockets (GivesPlace (accepted_is.Came []) t
    (record t { next = t.next + 1; browsers = c.insert.new.self })) (
      refl,
      inl (
        refl,
        (
          b,
          (c.new-connection.ensures.history, c.new-connection.ensures.config, refl),
          (updates.1, other_places t.browsers c.insert.new.self t.next b updates),
        ),
      ),
    )
