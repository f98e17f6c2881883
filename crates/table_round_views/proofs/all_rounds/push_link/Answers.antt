use Rattle.std.proofs.Common.{codes, ◌++◌}
use Rattle.std.proofs.lemmas.Result.{on_ok_weaker}
use Rattle.markup.proofs.board_page.Steps.{three_parts, two_parts}
use Rattle.round_words.specs.Words.{round_name}
use Rattle.table_round_views.specs.Overview.{link_cell, link_end}
use Rattle.table_round_views.proofs.all_rounds.push_link.Goals as goal

pub returns : goal.returns
unfolding link_cell
returns c =
    let out = c.args.out.now.items in
    on_ok_weaker c.fill.result
    (two_parts out (codes "<td><a href=\"" ++ c.args.path.now ++ round_name c.args.id)
    (link_end c.args.words.now) _ _
    (three_parts out (codes "<td><a href=\"") c.args.path.now (round_name c.args.id) _ _ _
    c.in_ok-extend_from_slice.ensures.items c.in_ok-extend_from_slice-2.ensures.items
    c.in_ok-push_round_name.ensures)) c.fill.ensures
