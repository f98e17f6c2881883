use Rattle.std.proofs.Common.{◌∙◌}
use Rattle.wcif_results.proofs.results_json.entrants.write_entrants.Goals as goal

pub write_list-requires-clause-who : goal.write_list-requires-clause-who
write_list-requires-clause-who c =
    c.in_ok-going_on.ensures (c.args.round.settings, c.args.round.table.now) c.requires

pub write_list-requires-clause-order : goal.write_list-requires-clause-order
write_list-requires-clause-order c = c.deref.ensures.value ∙ c.in_ok-numbers.ensures.order
