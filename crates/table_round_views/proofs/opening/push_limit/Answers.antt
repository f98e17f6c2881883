use Rattle.std.proofs.Common.{List, ap, codes, sym, ℕ, ◌++◌, ◌∙◌}
use Rattle.table_views.{proofs.Tails.same_after, specs.Forms.unit_field}
use Rattle.table_round_views.proofs.opening.push_limit.Goals as goal

pub returns-in-Time : goal.returns-in-Time
returns-in-Time c =
    rw (sym c.unit_of.ensures ∙ c.in-Time.is) (same_after c.push_unit_field.result _ _ _ (ap
    (λ (limit : List ℕ). c.args.out.now.items ++ unit_field (codes "limit")
    (codes "Time limit (minutes and seconds as on a card: 10 is 0.10)") (codes "time") limit)
    (c.deref.ensures.value ∙ c.in_ok-limit.ensures)) c.push_unit_field.ensures)
