use Rattle.std.proofs.Common.{◌≡◌, ◌+◌, arith, drop, min, rules, subst, sym, ℕ}
use Rattle.desk_talks.specs.KeptConnections.{wait_of}
use Rattle.hall_survey.specs.Halls.{least_of, waits_of}
use Rattle.hall_survey.proofs.Waits.{ends_at, goes_on}
use Rattle.hall_survey.proofs.asked.soonest.Goals as goal

pub loop-one-preserved : goal.loop-one-preserved
loop-one-preserved c =
    let asked = c.args.asked.now in
    let place = c.loop-one.one-index in
    let one = c.one-item.result in
    let earlier : c.min-wait.result ≡ min (wait_of one.survey.line c.args.now) c.loop-one.wait =
    search rules in
    subst (λ (w : ℕ). least_of w (waits_of (drop (place + 1) asked) c.args.now)
    ≡ least_of 1000 (waits_of asked c.args.now)) (sym earlier)
    (goes_on asked c.args.now place c.loop-one.wait _ one c.loop-one-test.true c.one-item.is
    c.loop-one.invariant)

pub returns : goal.returns
returns c =
    ends_at c.args.asked.now c.args.now c.loop-one.one-index c.loop-one.wait _
    (omega (arith, c.loop-one-test.false)) c.loop-one.invariant
