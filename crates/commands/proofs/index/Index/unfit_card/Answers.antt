use Rattle.std.proofs.Common.{◌≡◌, true, false, refl, sym, ◌∙◌}
use Rattle.std.specs.List.{list_any}
use Rattle.formats.specs.Events.{unit_of}
use Rattle.commands.{specs.Accepted.is_wrong, proofs.CardSteps.unfit_is}
use Rattle.commands.specs.model.Cards.{scrambles_of, enters}
use Rattle.commands.proofs.index.Index.unfit_card.Goals as goal

pub returns-then-has_wrong : goal.returns-then-has_wrong
returns-then-has_wrong c =
    let wrong : true
    ≡ list_any (enters (is_wrong (unit_of c.args.card.now.id.event))) c.args.card.now.now =
    rw (← c.unit_of.ensures, ← c.as_slice.ensures) (sym c.if-has_wrong.true ∙ c.has_wrong.ensures)
    in
    unfit_is c.args.card.now.id.event (scrambles_of c.args.accepted.now c.args.card.now.id)
    c.args.card.now.now true _ wrong refl

pub returns-then-lacks_scramble : goal.returns-then-lacks_scramble
returns-then-lacks_scramble c =
    let right : false
    ≡ list_any (enters (is_wrong (unit_of c.args.card.now.id.event))) c.args.card.now.now =
    rw (← c.unit_of.ensures, ← c.as_slice.ensures) (sym c.if-has_wrong.false ∙ c.has_wrong.ensures)
    in
    unfit_is c.args.card.now.id.event (scrambles_of c.args.accepted.now c.args.card.now.id)
    c.args.card.now.now false true right (sym c.if-lacks_scramble.true ∙ c.lacks_scramble.ensures)

pub returns : goal.returns
returns c =
    let right : false
    ≡ list_any (enters (is_wrong (unit_of c.args.card.now.id.event))) c.args.card.now.now =
    rw (← c.unit_of.ensures, ← c.as_slice.ensures) (sym c.if-has_wrong.false ∙ c.has_wrong.ensures)
    in
    unfit_is c.args.card.now.id.event (scrambles_of c.args.accepted.now c.args.card.now.id)
    c.args.card.now.now false false right (sym c.if-lacks_scramble.false ∙ c.lacks_scramble.ensures)
