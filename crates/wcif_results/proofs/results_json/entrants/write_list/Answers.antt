use Rattle.std.proofs.Common.{refl, ◌∷◌, []}
use Rattle.json.specs.Token.{end_array}
use Rattle.wcif_results.specs.{model.Marks.marks_of, results_json.Entrants.entrant_list}
use Rattle.wcif_results.proofs.Adding.{one_more, on_ok, same, then, wrote, wrote_last, whole}
use Rattle.wcif_results.proofs.Adding.{lists_left, none_left}
use Rattle.wcif_results.proofs.results_json.Joined.{entrants_tokens}
use Rattle.wcif_results.proofs.results_json.entrants.write_list.Goals as goal

pub loop-number-preserved : goal.loop-number-preserved
loop-number-preserved c =
    let r = c.args.round in
    one_more _ _ (lists_left (entrant_list r.meet.now.accepted r.settings r.table.now (marks_of r))
    c.args.numbers.now c.loop-number.number-index _ _ c.loop-number-test.true refl)
    c.loop-number.invariant c.in_ok-write_entrant.ensures

pub returns : goal.returns
returns c =
    let r = c.args.round in
    on_ok c.end_array.result (λ last. same (entrants_tokens r.meet.now.accepted r.settings
    r.table.now (marks_of r) c.args.numbers.now c.requires.order) (then
    (wrote c.in_ok-begin_array.ensures) (whole (end_array ∷ []) (none_left
    (entrant_list r.meet.now.accepted r.settings r.table.now (marks_of r)) c.args.numbers.now
    c.loop-number.number-index c.loop-number-test.false) c.loop-number.invariant last)))
    (wrote_last c.end_array.result c.end_array.ensures)
