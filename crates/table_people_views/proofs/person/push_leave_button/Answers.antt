use Rattle.std.proofs.{Common.codes, lemmas.Result.on_ok_weaker}
use Rattle.markup.proofs.board_page.Steps.{five_parts, when_ok}
use Rattle.round_words.specs.Words.{round_name, round_words}
use Rattle.table_people_views.specs.Person.{leave_button}
use Rattle.table_people_views.proofs.person.push_leave_button.Goals as goal

pub returns : goal.returns
unfolding leave_button
returns c =
    let out = c.args.out.now.items in
    on_ok_weaker c.extend_from_slice-3.result
    (five_parts out (codes "<button name=\"round\" value=\"") (round_name c.args.id)
    (codes "\">Withdraw from ") (round_words c.args.id c.args.advance) (codes "</button>\n") _ _ _ _
    _ c.in_ok-extend_from_slice.ensures.items c.in_ok-push_round_name.ensures
    c.in_ok-extend_from_slice-2.ensures.items c.in_ok-push_round_words.ensures)
    (when_ok _ _ _ _ c.extend_from_slice-3.ensures.items)
