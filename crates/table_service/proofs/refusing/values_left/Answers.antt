use Rattle.std.proofs.Common.{◌≡◌, ◌∙◌, ◌++◌, List, ap, append-nil, arith, length, sym}
use Rattle.attempts.specs.declared.Value.{Value}
use Rattle.commands.specs.Accepted.{counts_in, scramble_of}
use Rattle.commands.proofs.CardSteps.{values_past}
use Rattle.table_service.proofs.Mirrored.{left_more}
use Rattle.table_service.proofs.refusing.values_left.Goals as goal

pub loop-at-preserved : goal.loop-at-preserved
loop-at-preserved c =
    let id = c.args.card.now.id in
    let long : length c.as_slice-at-end.result.now ≡ length c.args.card.now.now =
    ap length c.as_slice-at-end.ensures in
    left_more (counts_in c.args.settings (scramble_of c.args.meet.now.accepted id.event id.round))
    c.loop-at.at c.args.card.now.now c.args.card.now.was c.loop-at.values.items _ _ (omega arith)
    c.in_ok-push_left.ensures c.loop-at.invariant

pub returns : goal.returns
returns c =
    let id = c.args.card.now.id in
    let long : length c.as_slice-at-end.result.now ≡ length c.args.card.now.now =
    ap length c.as_slice-at-end.ensures in
    sym (append-nil c.loop-at.values.items)
    ∙ ap (λ (vs : List Value). c.loop-at.values.items ++ vs) (sym (values_past
    (counts_in c.args.settings (scramble_of c.args.meet.now.accepted id.event id.round)) _
    c.loop-at.at c.args.card.now.now _ (omega arith)))
    ∙ c.loop-at.invariant
