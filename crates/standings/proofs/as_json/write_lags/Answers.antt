use Rattle.std.proofs.Common.{refl, ◌∷◌, []}
use Rattle.json.specs.Token.{end_array}
use Rattle.standings.{specs.AsJson.lag_of, proofs.Left.lists_left, proofs.Left.none_left}
use Rattle.standings.proofs.Adding.{one_more, on_ok, same, then, wrote, wrote_last, whole}
use Rattle.standings.proofs.MeaningTokens.{lags_tokens, past_five, within_five}
use Rattle.standings.proofs.as_json.write_lags.Goals as goal

pub loop-desk-preserved : goal.loop-desk-preserved
loop-desk-preserved c =
    one_more _ _
    (lists_left (lag_of c.args.polled.now) c.every_desk-desks.result c.loop-desk.desk-index _ _
    (within_five c.every_desk-desks.result c.loop-desk.desk-index c.every_desk-desks.ensures
    c.loop-desk-test.true) refl) c.loop-desk.invariant c.in_ok-write_lag_of.ensures

pub returns : goal.returns
returns c =
    on_ok c.end_array.result (λ last.
    same (lags_tokens c.args.polled.now c.every_desk-desks.result c.every_desk-desks.ensures)
    (then (wrote c.in_ok-begin_array.ensures) (whole (end_array ∷ [])
    (none_left (lag_of c.args.polled.now) c.every_desk-desks.result c.loop-desk.desk-index
    (past_five c.every_desk-desks.result c.loop-desk.desk-index c.every_desk-desks.ensures
    c.loop-desk-test.false)) c.loop-desk.invariant last)))
    (wrote_last c.end_array.result c.end_array.ensures)
