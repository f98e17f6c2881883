use Rattle.std.proofs.Common.{◌∙◌, ◌+◌, decimal, add_comm, ap}
use Rattle.sheets.proofs.Ranges.{field_more}
use Rattle.sheets.proofs.as_table.push_attempt_names.Goals as goal

pub loop-place-preserved : goal.loop-place-preserved
loop-place-preserved c =
    let added = c.in_ok-push_field.ensures in (
      field_more decimal 1 c.loop-place.place
          (c.loop-place.place + 1) _ _ _ _ c.loop-place.invariant.0 added.0 (c.deref.ensures.value
          ∙ c.in_ok-digits.ensures ∙ ap (λ n. decimal (n + 1)) c.from.ensures)
          (add_comm c.loop-place.place 1),
      added.1,
    )
