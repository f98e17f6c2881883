use Rattle.std.proofs.Common.{map, drop}
use Rattle.json.specs.{Tree.items_tokens, Value.items_of}
use Rattle.standings.{specs.AsJson.natural, proofs.Adding.Leads}
use Rattle.standings.proofs.as_json.write_told.Given as goal

abbrev pub invariant-loop-length : goal.invariant-loop-length
invariant-loop-length l =
    Leads l.initial.out l.out (items_tokens (items_of (map natural (drop l.length-index
    l.length-items)))) (items_tokens (items_of (map natural l.length-items)))
