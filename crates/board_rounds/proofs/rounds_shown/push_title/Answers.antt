use Rattle.std.proofs.Common.{codes}
use Rattle.markup.proofs.board_page.Steps.{five_parts}
use Rattle.board_rounds.specs.Rounds.{title}
use Rattle.round_words.specs.Words.{round_name, round_words}
use Rattle.board_rounds.proofs.rounds_shown.push_title.Goals as goal

pub returns : goal.returns
unfolding title
returns c =
    five_parts c.args.out.now.items (codes "<section id=\"") (round_name c.args.id)
    (codes "\"><table><caption><h2>") (round_words c.args.id c.args.advance) (codes "</h2>\n")
    _ _ _ _ _ c.in_ok-extend_from_slice.ensures.items c.in_ok-push_round_name.ensures
    c.in_ok-extend_from_slice-2.ensures.items c.in_ok-push_round_words.ensures
    c.in_ok-extend_from_slice-3.ensures.items
