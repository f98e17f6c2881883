use Rattle.std.proofs.Common.{map, drop}
use Rattle.json.specs.{Tree.items_tokens, Value.items_of}
use Rattle.wcif_results.{specs.Results.attempt_json, proofs.Adding.Leads}
use Rattle.wcif_results.proofs.results.write_attempts.Given as goal

abbrev pub invariant-loop-value : goal.invariant-loop-value
invariant-loop-value l =
    Leads l.initial.out l.out (items_tokens (items_of (map attempt_json (drop l.value-index
    l.values)))) (items_tokens (items_of (map attempt_json l.values)))
