use Rattle.std.proofs.Common.{map, drop}
use Rattle.json.specs.{Tree.items_tokens, Value.items_of}
use Rattle.standings.{specs.AsJson.polled_json, proofs.Adding.Leads}
use Rattle.standings.proofs.as_json.write_desks.Given as goal

abbrev pub invariant-loop-one : goal.invariant-loop-one
invariant-loop-one l =
    Leads l.initial.out l.out (items_tokens (items_of (map polled_json (drop l.one-index
    l.polled)))) (items_tokens (items_of (map polled_json l.polled)))
