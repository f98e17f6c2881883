use Rattle.std.proofs.Common.{codes}
use Rattle.markup.proofs.board_page.Steps.{three_parts}
use Rattle.round_words.specs.Words.{round_name}
use Rattle.table_entry_views.specs.Card.{round_value}
use Rattle.table_entry_views.proofs.card.push_round_value.Goals as goal

pub returns : goal.returns
unfolding round_value
returns c =
    three_parts c.args.out.now.items (codes "<input type=\"hidden\" name=\"round\" value=\"")
    (round_name c.args.id) (codes "\">\n") _ _ _ c.in_ok-extend_from_slice.ensures.items
    c.in_ok-push_round_name.ensures c.in_ok-extend_from_slice-2.ensures.items
