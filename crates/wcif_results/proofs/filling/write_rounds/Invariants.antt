use Rattle.std.proofs.Common.{map, drop}
use Rattle.json.specs.{Tree.items_tokens, Tree.ItemsHaveNumbers, Value.items_view}
use Rattle.wcif_results.specs.Filled.{items_with, filled_round}
use Rattle.wcif_results.{specs.model.Opened.round_view, proofs.Adding.Leads}
use Rattle.wcif_results.proofs.filling.write_rounds.Given as goal

abbrev pub invariant-loop-item : goal.invariant-loop-item
invariant-loop-item l =
    Leads l.initial.out l.out (items_tokens (items_with (filled_round (map round_view l.rounds))
    (items_view (drop l.item-index l.item-items))))
    (items_tokens (items_with (filled_round (map round_view l.rounds)) (items_view l.item-items)))
    × ItemsHaveNumbers (items_view (drop l.item-index l.item-items))
