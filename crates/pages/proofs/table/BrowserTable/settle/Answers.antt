use Rattle.std.proofs.Common.{◌≡◌, [], ◌∷◌, ◌++◌, List, false, inr, ap, subst, sym, ◌∙◌, nat_eq}
use Rattle.indexmap.specs.IndexMap.{get}
use Rattle.pages.specs.Asking.{KeepsOn, SettlesBy}
use Rattle.pages.{specs.Musts.has_more, proofs.Asked.asks_both}
use Rattle.polled.specs.Requests.{Closing, Request, Watching}
use Rattle.pages.proofs.table.BrowserTable.settle.Goals as goal

pub returns-clause-kept : goal.returns-clause-kept
returns-clause-kept g c = λ goes own held. c.close-2.ensures.kept (c.keep_on.ensures.kept own held)

pub returns-clause-asks : goal.returns-clause-asks
returns-clause-asks g c =
    let k = c.args.number in
    let b = c.args.browser in
    let t = c.args.self.now in
    let mid = c.keep_on.new.self in
    let new = c.close-2.new.self in
    asks_both g.C.Sockets.requests t.sockets mid.sockets new.sockets (KeepsOn k b false t mid)
    (λ asked. asked ≡ Closing k ∷ []) (SettlesBy k b c.args.goes_on t new)
    (λ xs ys h is. subst (λ goes. SettlesBy k b goes t new (xs ++ ys)) (sym c.if-not-goes_on.false)
    (inr (
      (
        h.0.0,
        ap (λ (z : List Request). z ++ ys) h.0.1
            ∙ ap (λ (z : List Request). Watching k (has_more b.connection) h.0.0 ∷ z) is,
      ),
      λ j. ap (λ z. get nat_eq z.browsers j) c.close-2.ensures.rest ∙ h.1 j,
    )))
    c.if-keep_on.ensures.asks c.close-2.ensures.asks
