use Rattle.std.proofs.Common.{subst, sym}
use Rattle.pages.specs.{Browsers.IsUntold, Kept.places_of}
use Rattle.pages.proofs.Tables.{AreKept-first, no_entry}
use Rattle.pages.proofs.browsers.Browsers.new.Goals as goal

pub invariant_of-browsers : goal.invariant_of-browsers
invariant_of-browsers g c =
    let t = c.in_ok-table.table in
    let first = c.in_ok-table.ensures in
    let happened = g.C.Sockets.happened in
    record {
      kept = ∣ AreKept-first t.terms.config (places_of t) t.next t.turns.items
          (no_entry t.browsers first.none) first.turns (happened t.sockets)
          (subst (λ s. IsUntold (happened s)) (sym first.sockets) c.requires) ∣₁;
    }
