use Rattle.std.proofs.Common.{◌+◌, arith, subst, sym}
use Rattle.pages.proofs.Finding.{IsLongestBelow, LongestBelow, longest_next, longest_of_all}
use Rattle.pages.proofs.table.BrowserTable.longest_waiting.Goals as goal

pub loop-place-preserved : goal.loop-place-preserved
loop-place-preserved g c =
    let t = c.args.self.now in
    let at = c.loop-place in
    let one = c.in-Some in
    subst (λ f. IsLongestBelow t (at.place + 1) f) (sym c.longer.ensures)
    (longest_next t at.place one.number.now one.browser.now at.found
    (sym one.ensures.entry) one.ensures.value at.invariant)

pub returns-in-Some-found : goal.returns-in-Some-found
returns-in-Some-found g c =
    longest_of_all c.args.self.now c.loop-place.place c.in-Some-found.one
    (omega (arith, c.loop-place-test.false, c.len-place-end.ensures.len))
    (subst (λ f. LongestBelow c.args.self.now c.loop-place.place f) c.in-Some-found.is
    c.loop-place.invariant)
