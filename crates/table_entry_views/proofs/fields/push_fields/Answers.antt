use Rattle.markup.proofs.board_page.Steps.{one_field_more}
use Rattle.table_entry_views.specs.Fields.{field}
use Rattle.table_entry_views.proofs.fields.push_fields.Goals as goal

pub loop-attempt-preserved : goal.loop-attempt-preserved
loop-attempt-preserved c =
    one_field_more (field c.args.draft c.args.unit c.args.values.now c.args.texts.now)
    c.args.attempts.now c.loop-attempt.attempt-index 0 c.loop-attempt.out.items
    c.push_field.new.out.items _
    c.loop-attempt-test.true c.loop-attempt.invariant c.in_ok-push_field.ensures
