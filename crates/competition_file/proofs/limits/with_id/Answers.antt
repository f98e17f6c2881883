use Rattle.std.proofs.Common.{◌∙◌, ◌+◌, Some, sym, ap, arith, map, drop, cond}
use Rattle.std.specs.Prelude.{find}
use Rattle.serde_json.specs.View.{view}
use Rattle.wcif.specs.Persons.{has_id}
use Rattle.competition_file.proofs.Firsts.{found_at}
use Rattle.competition_file.proofs.limits.with_id.Goals as goal

pub loop-item-preserved : goal.loop-item-preserved
loop-item-preserved c =
    sym
    (found_at (has_id c.args.id.now) c.args.items.now c.loop-item.item-index c.item-item.result
    (omega arith) c.item-item.is
    ∙ ap
    (λ b. cond b (Some (view c.item-item.result)) (find (has_id c.args.id.now)
    (map view (drop (c.loop-item.item-index + 1) c.args.items.now))))
    (sym c.has_id.ensures ∙ c.if-has_id.false))
    ∙ c.loop-item.invariant

pub returns-then-has_id : goal.returns-then-has_id
returns-then-has_id c =
    sym
    (sym c.loop-item.invariant
    ∙ found_at (has_id c.args.id.now) c.args.items.now c.loop-item.item-index c.item-item.result
    (omega arith) c.item-item.is
    ∙ ap
    (λ b. cond b (Some (view c.item-item.result)) (find (has_id c.args.id.now)
    (map view (drop (c.loop-item.item-index + 1) c.args.items.now))))
    (sym c.has_id.ensures ∙ c.if-has_id.true))
