use Rattle.std.proofs.Common.{[], ◌∷◌, ap, nat_eq, refl, ◌∙◌}
use Rattle.http_server.specs.Connection.{history}
use Rattle.indexmap.specs.IndexMap.{get}
use Rattle.pages.specs.{Kept.places_of, Musts.has_more}
use Rattle.polled.specs.{Requests.Watching, Happenings.watched}
use Rattle.pages.proofs.Keeping.{AreKept-fewer, AreKept-more, IsOpen-same}
use Rattle.pages.proofs.Placing.{has_some_is, unchanged}
use Rattle.pages.proofs.Tables.{holds_on, other_places, quiet_watched, same_places}
use Rattle.pages.proofs.table.BrowserTable.keep_on.Goals as goal

pub returns-then-not-watch-clause-kept : goal.returns-then-not-watch-clause-kept
returns-then-not-watch-clause-kept g c = λ own held.
    let k = c.args.number in
    holds_on g.C.Sockets.happened c.args.self.now c.watch.new.self (watched k c.watch.result)
    c.watch.ensures.told (quiet_watched k c.watch.result) held

pub returns-in-Ok-clause-kept : goal.returns-in-Ok-clause-kept
returns-in-Ok-clause-kept g c = λ own held.
    let t = c.args.self.now in
    let a = g.C.Sockets.happened t.sockets in
    let b = g.C.Sockets.happened c.watch.new.self in
    let config = t.terms.config in
    let number = c.args.number in
    let browser = c.args.browser in
    let updates = c.in-Ok.ensures.updates in
    AreKept-more config b (places_of t) (λ q. get nat_eq c.insert.new.self q) t.next t.turns.items
    number browser updates.1 (other_places t.browsers c.insert.new.self number browser updates)
    (IsOpen-same config a b (watched number c.watch.result) t.next t.turns.items number
    browser.connection c.watch.ensures.told (quiet_watched number c.watch.result) own)
    (holds_on g.C.Sockets.happened t c.watch.new.self (watched number c.watch.result)
    c.watch.ensures.told (quiet_watched number c.watch.result) held)

pub returns-clause-kept : goal.returns-clause-kept
returns-clause-kept g c = λ own held.
    let t = c.args.self.now in
    let b = g.C.Sockets.happened c.watch.new.self in
    let k = c.args.number in
    AreKept-fewer t.terms.config b (places_of t) (λ q. get nat_eq c.insert.new.self q) t.next
    t.turns.items (same_places t.browsers c.insert.new.self c.in-Err.ensures.err)
    (holds_on g.C.Sockets.happened t c.watch.new.self (watched k c.watch.result)
    c.watch.ensures.told (quiet_watched k c.watch.result) held)

pub returns-then-not-watch-clause-asks : goal.returns-then-not-watch-clause-asks
returns-then-not-watch-clause-asks g c =
    let k = c.args.number in
    let is = has_some_is (history c.args.browser.connection).pending c.wants_write-writes.result
    c.wants_write-writes.ensures in (
      Watching k c.wants_write-writes.result c.watch.result ∷ [],
      c.watch.ensures.requests,
      ((c.watch.result, ap (λ b. Watching k b c.watch.result ∷ []) is), λ j. refl),
    )

pub returns-in-Ok-clause-asks : goal.returns-in-Ok-clause-asks
returns-in-Ok-clause-asks g c =
    let t = c.args.self.now in
    let k = c.args.number in
    let updates = c.in-Ok.ensures.updates in
    let is = has_some_is (history c.args.browser.connection).pending c.wants_write-writes.result
    c.wants_write-writes.ensures in (
      Watching k c.wants_write-writes.result c.watch.result ∷ [],
      c.watch.ensures.requests,
      (
        ap (λ b. Watching k b c.watch.result ∷ []) is
            ∙ ap (λ b. Watching k (has_more c.args.browser.connection) b ∷ []) c.if-not-watch.false,
        (updates.1, other_places t.browsers c.insert.new.self k c.args.browser updates),
      ),
    )

pub returns-clause-asks : goal.returns-clause-asks
returns-clause-asks g c =
    let t = c.args.self.now in
    let k = c.args.number in
    let is = has_some_is (history c.args.browser.connection).pending c.wants_write-writes.result
    c.wants_write-writes.ensures in (
      Watching k c.wants_write-writes.result c.watch.result ∷ [],
      c.watch.ensures.requests,
      (
        (c.watch.result, ap (λ b. Watching k b c.watch.result ∷ []) is),
        unchanged t.browsers c.insert.new.self c.in-Err.ensures.err,
      ),
    )
