use Rattle.std.proofs.Common.{◌≡◌, ◌++◌, flat_map, map, take}
use Rattle.serde_json.specs.View.{view}
use Rattle.record_views.specs.Together.{round_id_words}
use Rattle.record_views.proofs.together.push_round_ids.Given as goal

abbrev pub invariant-loop-id : goal.invariant-loop-id
invariant-loop-id l =
    l.out.items
    ≡ l.initial.out.items ++ flat_map round_id_words (map view (take l.id-index l.ids))
