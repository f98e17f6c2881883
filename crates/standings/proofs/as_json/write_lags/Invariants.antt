use Rattle.std.proofs.Common.{flat_map, drop}
use Rattle.json.specs.{Tree.items_tokens, Value.items_of}
use Rattle.standings.{specs.AsJson.lag_of, proofs.Adding.Leads}
use Rattle.standings.proofs.as_json.write_lags.Given as goal

abbrev pub invariant-loop-desk : goal.invariant-loop-desk
invariant-loop-desk l =
    Leads l.initial.out l.out (items_tokens (items_of (flat_map (lag_of l.polled) (drop l.desk-index
    l.desk-items)))) (items_tokens (items_of (flat_map (lag_of l.polled) l.desk-items)))
