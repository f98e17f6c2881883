use Rattle.std.proofs.Common.{codes}
use Rattle.markup.proofs.board_page.Steps.{five_parts}
use Rattle.round_words.specs.Words.{round_words, settings_words}
use Rattle.table_entry_views.proofs.card.push_head.Goals as goal

pub returns : goal.returns
returns c =
    five_parts c.args.out.now.items (codes "<section id=\"card\"><h1>")
    (round_words c.args.id c.args.settings.advance) (codes "</h1>\n<p class=\"rules\">")
    (settings_words c.args.id.event c.args.settings) (codes "</p>\n") _ _ _ _ _
    c.in_ok-extend_from_slice.ensures.items c.in_ok-push_round_words.ensures
    c.in_ok-extend_from_slice-2.ensures.items c.in_ok-push_settings.ensures
    c.in_ok-extend_from_slice-3.ensures.items
