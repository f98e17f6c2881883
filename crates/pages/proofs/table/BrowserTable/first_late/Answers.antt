use Rattle.std.proofs.Common.{arith, sym, ◌∙◌}
use Rattle.pages.proofs.Finding.{IsTimely, each_place}
use Rattle.pages.proofs.table.BrowserTable.first_late.Goals as goal

pub returns-in-loop-place : goal.returns-in-loop-place
returns-in-loop-place g c =
    (c.in-Some.browser.now, c.in-Some.ensures.value, sym c.is_late.ensures ∙ c.if-is_late.true)

pub returns : goal.returns
returns g c =
    let t = c.args.self.now in
    let at = c.loop-place in
    λ k b is. each_place t at.place (IsTimely t)
    (omega (arith, c.loop-place-test.false, c.len-place-end.ensures.len)) at.invariant k b is
