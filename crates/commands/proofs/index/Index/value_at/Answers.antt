use Rattle.std.proofs.Common.{◌≡◌, ◌<◌, ◌+◌, length, None, get_or, Option, List, sym, ◌∙◌, ap}
use Rattle.std.proofs.Common.{arith}
use Rattle.attempts.specs.declared.Value.{Value}
use Rattle.texts.specs.declared.command.Entered.{Entered}
use Rattle.commands.specs.{Accepted.counts_in, model.Cards.scrambles_of, model.Cards.value_at}
use Rattle.commands.proofs.CardSteps.{nothing_at, any_default}
use Rattle.attempts.specs.declared.Value.TheVariants as value
use Rattle.commands.proofs.index.Index.value_at.Goals as goal

pub bounds-as_slice-at-in-None : goal.bounds-as_slice-at-in-None
bounds-as_slice-at-in-None c =
    let within : c.args.at < length c.args.card.now.was =
    c.requires.card.stands c.args.at c.requires.within
    (nothing_at c.args.card.now.now c.as_slice.result.now c.args.at c.index-as_slice-at.result
    c.as_slice.ensures c.index-as_slice-at.is c.in-None.is) in
    let long : length c.as_slice-in-None.result.now ≡ length c.args.card.now.was =
    ap length c.as_slice-in-None.ensures in
    omega arith

pub returns-in-None : goal.returns-in-None
returns-in-None c =
    let none : get_or c.args.card.now.now c.args.at None ≡ None =
    nothing_at c.args.card.now.now c.as_slice.result.now c.args.at c.index-as_slice-at.result
    c.as_slice.ensures c.index-as_slice-at.is c.in-None.is in
    ap (λ (vs : List Value). get_or vs c.args.at (value.Number 0)) c.as_slice-in-None.ensures
    ∙ any_default c.args.card.now.was c.args.at (value.Number 0) value.Dns
    (c.requires.card.stands c.args.at c.requires.within none)
    ∙ ap (λ (o : Option Entered).
    value_at (counts_in c.args.settings (scrambles_of c.args.accepted.now c.args.card.now.id)
    (c.args.at + 1)) o (get_or c.args.card.now.was c.args.at value.Dns)) (sym none)
