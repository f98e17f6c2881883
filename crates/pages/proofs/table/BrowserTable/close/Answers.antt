use Rattle.polled.specs.Happenings.{closed}
use Rattle.pages.{specs.Kept.places_of, proofs.Keeping.AreKept-same, proofs.Tables.quiet_closed}
use Rattle.pages.proofs.table.BrowserTable.close.Goals as goal

pub returns-clause-kept : goal.returns-clause-kept
returns-clause-kept g c = λ held.
    let t = c.args.self.now in
    let happened = g.C.Sockets.happened in
    AreKept-same t.terms.config (happened t.sockets) (happened c.close.new.self)
    (closed c.args.number) (places_of t) t.next t.turns.items c.close.ensures.told
    (quiet_closed c.args.number) held
