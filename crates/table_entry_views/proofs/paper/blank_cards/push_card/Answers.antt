use Rattle.std.proofs.Common.{◌++◌, ◌∙◌, ap, flat_map}
use Rattle.markup.proofs.board_page.Steps.{six_parts, three_parts}
use Rattle.round_counts.specs.Counts.{numbers_in}
use Rattle.round_words.specs.Words.{round_words, settings_words}
use Rattle.table_entry_views.specs.declared.paper.blank_cards.TheConstants.{CARD_TABLE}
use Rattle.table_entry_views.specs.declared.paper.blank_cards.TheConstants.{CARD_TABLE_END}
use Rattle.table_entry_views.specs.paper.Scorecards.{attempt_row, blank_card, card_start}
use Rattle.table_entry_views.proofs.paper.blank_cards.push_card.Goals as goal

pub returns : goal.returns
unfolding blank_card
returns c =
    let out = c.args.out.now.items in
    let start = card_start c.args.hall.now in
    let words = round_words c.args.id c.args.settings.advance in
    let row = attempt_row c.args.settings.cutoff in
    let rows = flat_map row (numbers_in c.args.settings.format) in
    three_parts out
    (start ++ words ++ c.args.who.now ++ CARD_TABLE.now ++ rows ++ CARD_TABLE_END.now)
    (settings_words c.args.id.event c.args.settings) c.args.foot.now _ _ _
    (six_parts out start words c.args.who.now CARD_TABLE.now rows CARD_TABLE_END.now _ _ _ _ _ _
    c.in_ok-push_card_start.ensures c.in_ok-push_round_words.ensures
    c.in_ok-extend_from_slice.ensures.items c.in_ok-extend_from_slice-2.ensures.items
    (c.in_ok-push_attempts.ensures
    ∙ ap (λ ks. c.extend_from_slice-2.new.self.items ++ flat_map row ks) c.numbers_in.ensures)
    c.in_ok-extend_from_slice-3.ensures.items)
    c.in_ok-push_settings.ensures c.in_ok-extend_from_slice-4.ensures.items
