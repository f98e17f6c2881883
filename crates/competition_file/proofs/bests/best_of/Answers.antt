use Rattle.std.proofs.Common.{◌∙◌, sym, ap, arith}
use Rattle.std.specs.Prelude.{filter_map, slice_get}
use Rattle.competition_file.proofs.Firsts.{found_first, passed}
use Rattle.competition_file.specs.Bests.{best_in, best_of}
use Rattle.serde_json.specs.View.{view}
use Rattle.competition_file.proofs.bests.best_of.Goals as goal

pub loop-best-preserved : goal.loop-best-preserved
loop-best-preserved c =
    passed view (best_in c.args.event c.args.kind) c.items_under-bests.result.now c.loop-best.best-index
    c.best-item.result c.best_in-found.result (omega arith) c.best-item.is c.best_in-found.ensures
    (sym c.is_some.ensures ∙ c.if-is_some.false)
    ∙ c.loop-best.invariant

pub returns-then-is_some : goal.returns-then-is_some
unfolding best_of
returns-then-is_some c =
    found_first view (best_in c.args.event c.args.kind) c.items_under-bests.result.now c.loop-best.best-index
    c.best-item.result c.best_in-found.result (omega arith) c.best-item.is c.best_in-found.ensures
    (sym c.is_some.ensures ∙ c.if-is_some.true)
    ∙ c.loop-best.invariant
    ∙ ap (λ ds. slice_get (filter_map (best_in c.args.event c.args.kind) ds) 0) c.items_under-bests.ensures
