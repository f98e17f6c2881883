use Rattle.std.proofs.Common.{◌≡◌, ◌+◌, ◌++◌, suc, length, drop, List, arith, sym, ◌∙◌, ap}
use Rattle.std.proofs.Common.{append-nil}
use Rattle.attempts.specs.declared.Value.{Value}
use Rattle.commands.specs.{Accepted.counts_in, Accepted.values_now, model.Cards.scrambles_of}
use Rattle.commands.proofs.CardSteps.{values_more, values_past}
use Rattle.attempts.specs.declared.Value.TheVariants as value
use Rattle.commands.proofs.index.Index.card_values.Goals as goal

pub loop-at-preserved : goal.loop-at-preserved
loop-at-preserved c =
    let counts = counts_in c.args.settings (scrambles_of c.args.accepted.now c.args.card.now.id) in
    let now = c.args.card.now.now in
    let long : length c.as_slice-count.result.now ≡ length c.args.card.now.now =
    c.loop-at.invariant.count in
    record {
      count = c.loop-at.invariant.count;
      values =
          c.loop-at.invariant.values
          ∙ values_more counts c.loop-at.at c.args.card.now.now c.args.card.now.was value.Dns
          c.loop-at.values.items c.value_at.result c.requires.card.stands (omega arith)
          c.value_at.ensures
          ∙ ap (λ (vs : List Value).
          vs
          ++ values_now counts (suc (c.loop-at.at + 1)) (drop (c.loop-at.at + 1) now)
          (drop (c.loop-at.at + 1) c.args.card.now.was)) (sym c.in_ok-push.ensures.items);
    }

pub returns : goal.returns
returns c =
    let long : length c.as_slice-count.result.now ≡ length c.args.card.now.now =
    c.loop-at.invariant.count in
    sym (c.loop-at.invariant.values
    ∙ ap (λ (vs : List Value). c.loop-at.values.items ++ vs) (values_past
    (counts_in c.args.settings (scrambles_of c.args.accepted.now c.args.card.now.id)) _ c.loop-at.at
    c.args.card.now.now _ (omega arith))
    ∙ append-nil c.loop-at.values.items)
