use Rattle.std.proofs.Common.{◌+◌, ◌∙◌, arith, get_or, None, sym}
use Rattle.commands.specs.{Accepted.lacks_scramble, Accepted.scramble_of, model.Cards.lacks_in}
use Rattle.commands.proofs.CardSteps.{outcome_found, outcome_passed, outcome_past}
use Rattle.table_service.proofs.Mirrored.{same_enters}
use Rattle.table_service.proofs.refusing.lacks_some.Goals as goal

pub loop-at-preserved : goal.loop-at-preserved
loop-at-preserved c =
    let scrambles = scramble_of c.args.meet.now.accepted c.args.id.event c.args.id.round in
    let at = c.loop-at.at in
    c.loop-at.invariant
    ∙ outcome_passed (lacks_in scrambles) at c.args.now.now (omega arith)
    (same_enters (lacks_scramble (scrambles (at + 1))) (get_or c.args.now.now at None)
    ∙ sym c.lacks_at.ensures ∙ c.if-lacks_at.false)

pub returns-then-lacks_at : goal.returns-then-lacks_at
returns-then-lacks_at c =
    let scrambles = scramble_of c.args.meet.now.accepted c.args.id.event c.args.id.round in
    let at = c.loop-at.at in
    sym (c.loop-at.invariant
    ∙ outcome_found (lacks_in scrambles) at c.args.now.now (omega arith)
    (same_enters (lacks_scramble (scrambles (at + 1))) (get_or c.args.now.now at None)
    ∙ sym c.lacks_at.ensures ∙ c.if-lacks_at.true))

pub returns : goal.returns
returns c =
    let scrambles = scramble_of c.args.meet.now.accepted c.args.id.event c.args.id.round in
    sym (c.loop-at.invariant
    ∙ outcome_past (lacks_in scrambles) _ c.loop-at.at c.args.now.now (omega arith))
