use Rattle.markup.proofs.board_page.Steps.{one_field_more}
use Rattle.table_entry_views.specs.paper.Scorecards.{attempt_row}
use Rattle.table_entry_views.proofs.paper.blank_cards.push_attempts.Goals as goal

pub loop-attempt-preserved : goal.loop-attempt-preserved
loop-attempt-preserved c =
    one_field_more (attempt_row c.args.cutoff) c.args.attempts.now c.loop-attempt.attempt-index 0
    c.loop-attempt.out.items c.push_attempt.new.out.items _ c.loop-attempt-test.true
    c.loop-attempt.invariant c.in_ok-push_attempt.ensures
