use Rattle.std.proofs.Common.{refl, ◌∷◌, []}
use Rattle.json.specs.Token.{end_array}
use Rattle.wcif_results.specs.results_json.Meets.{event_list, rounds_json}
use Rattle.wcif_results.proofs.Adding.{one_more, on_ok, then, wrote, wrote_last, whole}
use Rattle.wcif_results.proofs.Adding.{lists_left, none_left}
use Rattle.wcif_results.proofs.results_json.meets.write_rounds.Goals as goal

pub loop-event-preserved : goal.loop-event-preserved
loop-event-preserved c =
    one_more _ _ (lists_left (event_list c.args.meet.now.accepted) _ c.loop-event.event-index _ _
    c.loop-event-test.true refl) c.loop-event.invariant c.in_ok-write_event.ensures

pub returns : goal.returns
unfolding rounds_json
returns c =
    on_ok c.end_array.result (λ last. then (wrote c.in_ok-begin_array.ensures)
    (whole (end_array ∷ []) (none_left (event_list c.args.meet.now.accepted) _
    c.loop-event.event-index c.loop-event-test.false) c.loop-event.invariant last))
    (wrote_last c.end_array.result c.end_array.ensures)
