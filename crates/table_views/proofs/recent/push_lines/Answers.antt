use Rattle.std.proofs.Common.{◌++◌, ◌∙◌, ap}
use Rattle.markup.proofs.board_page.Steps.{one_field_more}
use Rattle.table_views.specs.Recent.{recent_line}
use Rattle.table_views.proofs.recent.push_lines.Goals as goal

pub loop-recent-preserved : goal.loop-recent-preserved
loop-recent-preserved c =
    let shown = recent_line c.args.around.now c.args.newest in
    one_field_more shown c.args.recents.now c.loop-recent.recent-index _ c.loop-recent.out.items
    c.push_line.new.out.items _ c.loop-recent-test.true c.loop-recent.invariant
    (c.in_ok-push_line.ensures ∙ ap (λ r. c.loop-recent.out.items ++ shown r) c.recent-item.is)
