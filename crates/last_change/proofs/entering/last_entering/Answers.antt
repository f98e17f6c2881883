use Rattle.std.proofs.Common.{◌≡◌, ◌<◌, ◌+◌, ◌-◌, ◌∙◌, ℕ, ap, arith, length, map, subst}
use Rattle.last_change.specs.Entering.{all_last, enters_in, places}
use Rattle.last_change.proofs.Found.{AreLastFrom, all_more}
use Rattle.last_change.proofs.entering.last_entering.Goals as goal

pub loop-later-preserved : goal.loop-later-preserved
loop-later-preserved c =
    let log = c.args.mirror.now in
    let round = c.args.round in
    let number = c.args.number in
    let later = c.loop-later.later in
    let last = c.loop-later.last in
    let enters = c.in_ok-enters.enters in
    let from = length log - (later + 1) in
    let within : later < length log =
    omega (arith, c.loop-later-test.true, c.len-count.ensures.len) in
    let at : c.len-count.result - 1 - later ≡ from = omega (arith, c.len-count.ensures.len) in
    let before : length log - later ≡ from + 1 = omega (arith, within) in
    let are : enters ≡ map (λ place. enters_in log round number place from) places =
    c.in_ok-enters.ensures
    ∙ ap (λ (k : ℕ). map (λ place. enters_in log round number place k) places) at in
    let is : c.all_last-last.result ≡ all_last last enters from =
    c.all_last-last.ensures ∙ ap (λ (k : ℕ). all_last last enters k) at in (
      ap length is,
      all_more log round number from last c.all_last-last.result enters are is
          (omega (arith, within))
          (subst (λ (k : ℕ). AreLastFrom log round number k last) before c.loop-later.invariant.1),
    )
