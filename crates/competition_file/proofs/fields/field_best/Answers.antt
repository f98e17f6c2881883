use Rattle.std.proofs.Common.{ap, ◌∙◌, arith}
use Rattle.competition_file.specs.Fields.{lesser, single_in_field}
use Rattle.competition_file.proofs.Leasts.{least_more}
use Rattle.competition_file.proofs.fields.field_best.Goals as goal

pub loop-person-preserved : goal.loop-person-preserved
loop-person-preserved c =
    c.lesser-least.ensures
    ∙ ap (λ b. lesser b c.single_in_field.result) c.loop-person.invariant
    ∙ least_more (single_in_field c.args.event c.args.table.now) c.args.persons.now
    c.loop-person.person-index c.person-item.result c.single_in_field.result (omega arith)
    c.person-item.is c.single_in_field.ensures
