use Rattle.std.proofs.Common.{◌≡◌, length, arith, sym, ◌∙◌, ap}
use Rattle.commands.specs.model.Cards.{scrambles_of, lacks_in}
use Rattle.commands.proofs.CardSteps.{outcome_passed, outcome_found, outcome_past}
use Rattle.commands.proofs.index.Index.lacks_scramble.Goals as goal

pub loop-at-preserved : goal.loop-at-preserved
loop-at-preserved c =
    let long : length c.as_slice-at-end.result.now ≡ length c.args.card.now.now =
    ap length c.as_slice-at-end.ensures in
    c.loop-at.invariant
    ∙ outcome_passed (lacks_in (scrambles_of c.args.accepted.now c.args.card.now.id)) c.loop-at.at
    c.args.card.now.now (omega arith) (sym c.lacks_at.ensures ∙ c.if-lacks_at.false)

pub returns-then-lacks_at : goal.returns-then-lacks_at
returns-then-lacks_at c =
    let long : length c.as_slice-at-end.result.now ≡ length c.args.card.now.now =
    ap length c.as_slice-at-end.ensures in
    sym (c.loop-at.invariant
    ∙ outcome_found (lacks_in (scrambles_of c.args.accepted.now c.args.card.now.id)) c.loop-at.at
    c.args.card.now.now (omega arith) (sym c.lacks_at.ensures ∙ c.if-lacks_at.true))

pub returns : goal.returns
returns c =
    let long : length c.as_slice-at-end.result.now ≡ length c.args.card.now.now =
    ap length c.as_slice-at-end.ensures in
    sym (c.loop-at.invariant
    ∙ outcome_past (lacks_in (scrambles_of c.args.accepted.now c.args.card.now.id)) _ c.loop-at.at
    c.args.card.now.now (omega arith))
