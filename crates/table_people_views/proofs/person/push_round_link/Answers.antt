use Rattle.std.proofs.{Common.codes, lemmas.Result.on_ok_weaker}
use Rattle.markup.proofs.board_page.Steps.{five_parts, when_ok}
use Rattle.round_words.specs.Words.{round_name}
use Rattle.table_people_views.specs.Person.{number_part, round_link}
use Rattle.table_people_views.proofs.person.push_round_link.Goals as goal

pub returns : goal.returns
unfolding round_link
returns c =
    let name = round_name c.args.id in
    on_ok_weaker c.extend_from_slice-2.result
    (five_parts c.args.out.now.items (codes " <a href=\"/card/") name (number_part c.args.number)
    name (codes "</a>") _ _ _ _ _ c.in_ok-extend_from_slice.ensures.items
    c.in_ok-push_round_name.ensures c.in_ok-fill.ensures c.in_ok-push_round_name-2.ensures)
    (when_ok _ _ _ _ c.extend_from_slice-2.ensures.items)
