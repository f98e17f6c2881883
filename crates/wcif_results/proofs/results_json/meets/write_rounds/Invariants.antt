use Rattle.std.proofs.Common.{flat_map, drop}
use Rattle.json.specs.{Tree.items_tokens, Value.items_of}
use Rattle.wcif_results.{specs.results_json.Meets.event_list, proofs.Adding.Leads}
use Rattle.wcif_results.proofs.results_json.meets.write_rounds.Given as goal

abbrev pub invariant-loop-event : goal.invariant-loop-event
invariant-loop-event l =
    Leads l.initial.out l.out (items_tokens
    (items_of (flat_map (event_list l.meet.accepted) (drop l.event-index l.event-items))))
    (items_tokens (items_of (flat_map (event_list l.meet.accepted) l.event-items)))
