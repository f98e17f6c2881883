use Rattle.std.proofs.Common.{◌≡◌, sym, ◌∙◌, subst}
use Rattle.rounds.specs.Rows.{AreValues}
use Rattle.commands.proofs.CardSteps.{same_values}
use Rattle.commands.proofs.cards.seen_refusal.Goals as goal

pub returns-then-are_values-clause-seen : goal.returns-then-are_values-clause-seen
returns-then-are_values-clause-seen c =
    let same : c.as_slice.result.now ≡ c.in-Some.stand.now =
    same_values c.as_slice.result.now c.in-Some.stand.now
    (sym c.are_values.ensures ∙ c.if-are_values.true) in
    subst (AreValues c.args.table.now c.args.card.now.number)
    (sym same ∙ c.as_slice.ensures) c.in-Some.ensures
