use Rattle.std.proofs.Common.{◌∙◌, ap, ap₂, ◌∷◌, sym, subst, drop}
use Rattle.store.{specs.Layout.HasNoKey, proofs.Patterns.two_and_more, proofs.Patterns.rest}
use Rattle.store.proofs.schema.is_ours.Goals as goal

pub returns-then-has_entries-clause-is : goal.returns-then-has_entries-clause-is
returns-then-has_entries-clause-is c h =
    let all = c.as_slice.result.now in
    let alone = c.have_no_key-is_alone.ensures.is h in
    let tables = sym c.as_slice.ensures ∙ two_and_more all c.desk-item.result c.entries-item.result
    c.in-len2-up.len_at_least c.desk-item.is c.entries-item.is
    ∙ ap₂ (λ a b. a ∷ b ∷ drop 2 all) (c.is_desk_table-has_desk.ensures.is c.if-has_entries.true.0)
    (c.is_entries_table-has_entries.ensures.is c.if-has_entries.true.1) in
    record {
      others = drop 2 all;
      indexes = c.args.schema.now.indexes;
      views = c.args.schema.now.views;
      is = ap (λ ts. record c.args.schema.now { tables = ts }) tables;
      unkeyed = subst HasNoKey (rest all) alone;
    }
