use Rattle.std.proofs.Common.{◌∙◌, sym, zero-add}
use Rattle.sheets.{specs.Sheet.attempt_text, proofs.Ranges.field_more}
use Rattle.sheets.proofs.as_table.push_attempts.Goals as goal

pub loop-place-preserved : goal.loop-place-preserved
loop-place-preserved c =
    let added = c.in_ok-push_field.ensures in (
      field_more
          (attempt_text c.args.unit c.args.values.now) 0 c.loop-place.place c.loop-place.place _ _ _
          _ c.loop-place.invariant.0 added.0 (c.deref.ensures.value ∙ c.in_ok-text.ensures)
          (sym (zero-add c.loop-place.place)),
      added.1,
    )
