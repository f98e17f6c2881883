use Rattle.std.proofs.Common.{◌∙◌, true, false, ap, sym}
use Rattle.commands.specs.Accepted.{card_values, scramble_of, unfit_card_refusal}
use Rattle.table_service.proofs.Mirrored.{fits_by, format_is, refused_last}
use Rattle.table_service.proofs.refusing.refusal_in.Goals as goal

pub returns-then-has_more : goal.returns-then-has_more
returns-then-has_more c =
    let card = c.args.card.now in
    let table = c.args.round.table.now in
    let settings = c.args.round.settings in
    let scrambles = scramble_of c.args.meet.now.accepted card.id.event card.id.round in
    refused_last card.id.event scrambles card settings table false
    (c.in_default.ensures ∙ ap (unfit_card_refusal card.id.event scrambles) c.as_slice.ensures)
    (sym c.is_closed.ensures ∙ c.if-is_closed.false) c.in_default-seen_refusal.ensures
    (fits_by true c.has_more.result settings.format table.format c.cutoff.result table.cutoff
    c.deref.result.now (card_values scrambles card settings) c.has_more.ensures c.if-has_more.true
    (format_is card.id.event card.id.round c.args.meet.now.accepted (settings, table)
    c.requires.opened) c.cutoff.ensures.value (c.deref.ensures.value ∙ c.in_ok-values.ensures))

pub returns : goal.returns
returns c =
    let card = c.args.card.now in
    let table = c.args.round.table.now in
    let settings = c.args.round.settings in
    let scrambles = scramble_of c.args.meet.now.accepted card.id.event card.id.round in
    refused_last card.id.event scrambles card settings table true
    (c.in_default.ensures ∙ ap (unfit_card_refusal card.id.event scrambles) c.as_slice.ensures)
    (sym c.is_closed.ensures ∙ c.if-is_closed.false) c.in_default-seen_refusal.ensures
    (fits_by false c.has_more.result settings.format table.format c.cutoff.result table.cutoff
    c.deref.result.now (card_values scrambles card settings) c.has_more.ensures c.if-has_more.false
    (format_is card.id.event card.id.round c.args.meet.now.accepted (settings, table)
    c.requires.opened) c.cutoff.ensures.value (c.deref.ensures.value ∙ c.in_ok-values.ensures))
