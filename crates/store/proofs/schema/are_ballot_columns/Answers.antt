use Rattle.std.proofs.Common.{◌∙◌, ap, ap₂, ◌∷◌, []}
use Rattle.store.proofs.Patterns.{three}
use Rattle.store.proofs.schema.are_ballot_columns.Goals as goal

pub returns-then-has_number-clause-is : goal.returns-then-has_number-clause-is
returns-then-has_number-clause-is c h =
    three c.args.columns.now c.pos-item.result c.number-item.result c.desk-item.result
    c.in-len3.len_at_least c.in-len3.len_below c.pos-item.is c.number-item.is c.desk-item.is
    ∙ ap₂ ◌∷◌ (c.is_column-has_pos.ensures.is c.if-has_number.true.0)
    (ap₂ ◌∷◌ (c.is_column-has_number.ensures.is c.if-has_number.true.1)
    (ap (λ v. v ∷ []) (c.is_column-has_desk.ensures.is h)))
