use Rattle.std.proofs.Common.{codes}
use Rattle.markup.proofs.board_page.Steps.{five_parts}
use Rattle.board_rounds.specs.Persons.{round_cell}
use Rattle.round_words.specs.Words.{round_name, round_words}
use Rattle.board_rounds.proofs.persons.push_round_cell.Goals as goal

pub returns : goal.returns
unfolding round_cell
returns c =
    five_parts c.args.out.now.items (codes "<tr><th scope=\"row\"><a href=\"/")
    (round_name c.args.id) (codes "\">") (round_words c.args.id c.args.advance) (codes "</a></th>")
    _ _ _ _ _ c.in_ok-extend_from_slice.ensures.items c.in_ok-push_round_name.ensures
    c.in_ok-extend_from_slice-2.ensures.items c.in_ok-push_round_words.ensures
    c.in_ok-extend_from_slice-3.ensures.items
