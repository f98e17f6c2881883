use Rattle.std.proofs.Common.{◌≡◌, ◌+◌, [], ◌∷◌, inr, ap, sym, ◌∙◌, nat_eq}
use Rattle.indexmap.specs.IndexMap.{get, index_map_len}
use Rattle.pages.{specs.Asking.LetsGo, specs.Kept.places_of, proofs.Tables.same_places}
use Rattle.polled.specs.Requests.{Closing}
use Rattle.pages.proofs.{Asked.asks_as, Keeping.AreKept-fewer, Placing.without, Tables.fewer_places}
use Rattle.pages.proofs.table.BrowserTable.let_go.Goals as goal

pub returns-in_default-clause-kept : goal.returns-in_default-clause-kept
returns-in_default-clause-kept g c = λ held.
    let t = c.args.self.now in
    AreKept-fewer t.terms.config (g.C.Sockets.happened t.sockets) (places_of t)
    (λ q. get nat_eq c.swap_remove.new.self q) t.next t.turns.items
    (same_places t.browsers c.swap_remove.new.self c.in_default.ensures.unchanged) held

pub returns-clause-kept : goal.returns-clause-kept
returns-clause-kept g c = λ held.
    let t = c.args.self.now in
    let m = c.swap_remove.new.self in
    c.close.ensures.kept (AreKept-fewer t.terms.config (g.C.Sockets.happened t.sockets)
    (places_of t) (λ q. get nat_eq m q) t.next t.turns.items
    (fewer_places t.browsers m c.args.number c.in-Some.ensures.updates) held)

pub returns-clause-asks : goal.returns-clause-asks
returns-clause-asks g c =
    let t = c.args.self.now in
    let m = c.swap_remove.new.self in
    let k = c.args.number in
    let b = c.in-Some._browser in
    let gone = without t.browsers m k c.in-Some.ensures.updates in
    let rest = c.close.ensures.rest in
    asks_as g.C.Sockets.requests t.sockets c.close.new.self.sockets
    (λ asked. asked ≡ Closing k ∷ []) (LetsGo k t c.close.new.self) (λ xs is. inr (
      (b, sym c.in-Some.ensures.value),
      is,
      (
        ap (λ z. get nat_eq z.browsers k) rest ∙ gone.0,
        λ q apart. ap (λ z. get nat_eq z.browsers q) rest ∙ gone.1 q apart,
      ),
      ap (λ z. index_map_len z.browsers + 1) rest ∙ c.in-Some.ensures.len,
    ))
    c.close.ensures.asks
