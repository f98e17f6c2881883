use Rattle.std.proofs.Common.{map, drop}
use Rattle.json.specs.{Tree.items_tokens, Value.items_of}
use Rattle.wcif_results.{specs.results_json.Values.value_json, proofs.Adding.Leads}
use Rattle.wcif_results.proofs.results_json.values.write_values.Given as goal

abbrev pub invariant-loop-value : goal.invariant-loop-value
invariant-loop-value l =
    Leads l.initial.out l.out
    (items_tokens (items_of (map value_json (drop l.value-index l.values))))
    (items_tokens (items_of (map value_json l.values)))
