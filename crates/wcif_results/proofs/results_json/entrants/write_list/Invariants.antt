use Rattle.std.proofs.Common.{flat_map, drop}
use Rattle.json.specs.{Tree.items_tokens, Value.items_of}
use Rattle.wcif_results.specs.{model.Marks.marks_of, results_json.Entrants.entrant_list}
use Rattle.wcif_results.proofs.Adding.{Leads}
use Rattle.wcif_results.proofs.results_json.entrants.write_list.Given as goal

abbrev pub invariant-loop-number : goal.invariant-loop-number
invariant-loop-number l =
    let list = entrant_list l.round.meet.now.accepted l.round.settings l.round.table.now
    (marks_of l.round) in
    Leads l.initial.out l.out
    (items_tokens (items_of (flat_map list (drop l.number-index l.numbers))))
    (items_tokens (items_of (flat_map list l.numbers)))
