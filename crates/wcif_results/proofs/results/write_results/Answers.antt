use Rattle.std.proofs.Common.{refl, ◌∷◌, [], ◌∙◌}
use Rattle.json.specs.Token.{end_array}
use Rattle.wcif_results.{specs.Results.result_of, proofs.Lines.results_tokens}
use Rattle.wcif_results.proofs.Adding.{one_more, on_ok, same, then, wrote, wrote_last, whole}
use Rattle.wcif_results.proofs.Adding.{lists_left, none_left}
use Rattle.wcif_results.proofs.results.write_results.Goals as goal

pub loop-number-preserved : goal.loop-number-preserved
loop-number-preserved c =
    one_more _ _ (lists_left (result_of c.args.table.now) _ c.loop-number.number-index _ _
    c.loop-number-test.true refl) c.loop-number.invariant c.in_ok-write_entrant.ensures

pub returns : goal.returns
returns c =
    on_ok c.end_array.result (λ last. same (results_tokens c.args.table.now _
    (c.deref-number-items.ensures.value ∙ c.in_ok-numbers.ensures.order))
    (then (wrote c.in_ok-begin_array.ensures) (whole (end_array ∷ [])
    (none_left (result_of c.args.table.now) _ c.loop-number.number-index c.loop-number-test.false)
    c.loop-number.invariant last))) (wrote_last c.end_array.result c.end_array.ensures)
