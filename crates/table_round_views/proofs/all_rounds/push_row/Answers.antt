use Rattle.std.proofs.Common.{ap, codes, ◌++◌, ◌∙◌}
use Rattle.std.proofs.lemmas.Result.{on_ok_weaker}
use Rattle.markup.proofs.board_page.Steps.{five_parts, six_parts, two_parts, when_ok}
use Rattle.round_counts.specs.Counts.{counts}
use Rattle.round_words.specs.Words.{round_name, round_words}
use Rattle.table_round_views.specs.Overview.{count_cells, link_cell, round_line, row_head, state_cell}
use Rattle.table_round_views.proofs.all_rounds.push_row.Goals as goal

pub returns : goal.returns
unfolding round_line row_head
returns c =
    let out = c.args.out.now.items in
    let id = c.args.id in
    let format = c.args.round.settings.format in
    let t = c.args.round.table.now in
    on_ok_weaker c.extend_from_slice-4.result (two_parts out
    (row_head id c.args.round.settings.advance ++ state_cell t.is_closed
    ++ count_cells (counts format t)
    ++ link_cell (codes "/rounds?round=") id (codes "open and close")
    ++ link_cell (codes "/wall/") id (codes "sheet for the wall")
    ++ link_cell (codes "/scorecards/") id (codes "scorecards")) (codes "</tr>\n") _ _
    (six_parts out (row_head id c.args.round.settings.advance) (state_cell t.is_closed)
    (count_cells (counts format t)) (link_cell (codes "/rounds?round=") id (codes "open and close"))
    (link_cell (codes "/wall/") id (codes "sheet for the wall"))
    (link_cell (codes "/scorecards/") id (codes "scorecards")) _ _ _ _ _ _
    (five_parts out (codes "<tr><th scope=\"row\"><a href=\"/card/") (round_name id) (codes "\">")
    (round_words id c.args.round.settings.advance) (codes "</a></th>") _ _ _ _ _
    c.in_ok-extend_from_slice.ensures.items c.in_ok-push_round_name.ensures
    c.in_ok-extend_from_slice-2.ensures.items c.in_ok-push_round_words.ensures
    c.in_ok-extend_from_slice-3.ensures.items) (c.in_ok-push_state.ensures
    ∙ ap (λ closed. c.extend_from_slice-3.new.self.items ++ state_cell closed) c.is_closed.ensures)
    (c.in_ok-fill.ensures
    ∙ ap (λ counted. c.push_state.new.out.items ++ count_cells counted) c.in_ok-counts.ensures)
    c.in_ok-push_link.ensures c.in_ok-push_link-2.ensures c.in_ok-push_link-3.ensures))
    (when_ok _ _ _ _ c.extend_from_slice-4.ensures.items)
