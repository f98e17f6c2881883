use Rattle.std.proofs.Common.{flat_map, drop}
use Rattle.json.specs.{Tree.items_tokens, Value.items_of}
use Rattle.wcif_results.{specs.Results.result_of, proofs.Adding.Leads}
use Rattle.wcif_results.proofs.results.write_results.Given as goal

abbrev pub invariant-loop-number : goal.invariant-loop-number
invariant-loop-number l =
    Leads l.initial.out l.out
    (items_tokens (items_of (flat_map (result_of l.table) (drop l.number-index l.number-items))))
    (items_tokens (items_of (flat_map (result_of l.table) l.number-items)))
