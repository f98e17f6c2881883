use Rattle.std.proofs.Common.{◌∙◌, ◌++◌, ◌∷◌, [], ◌-◌, List, sym, ap, append_assoc, arith, map}
use Rattle.std.proofs.Common.{flat_map}
use Rattle.std.proofs.lemmas.List.{take_all}
use Rattle.serde_json.specs.{Data.Data, View.view}
use Rattle.serde_json.specs.declared.value.Value.{Value}
use Rattle.schedule_views.specs.Spots.{Spot, seen, spot, spots_down}
use Rattle.schedule_views.proofs.Down.{one_down}
use Rattle.schedule_views.proofs.spots.+push_down.Goals as goal

pub returns : goal.returns
returns t c =
    let venue = view c.args.venue.now in
    let room = view c.args.room.now in
    let round = view c.args.round.now in
    let d = view c.args.activity.now in
    let old = map seen c.args.spots.now.items in
    let one = map seen c.push_one.new.spots.items in
    let f = spots_down venue room round (c.args.level - 1) in
    let below = flat_map f (map view c.items_under-children.result.now) in
    c.loop-child.invariant
    ∙ ap (λ (vs : List Value). one ++ flat_map f (map view vs))
    (take_all c.loop-child.child-index c.items_under-children.result.now (omega arith))
    ∙ ap (λ (ss : List Spot). ss ++ below) c.in_ok-push_one.ensures
    ∙ append_assoc old (spot venue room round d ∷ []) below
    ∙ ap (λ (ds : List Data). old ++ spot venue room round d ∷ flat_map f ds)
    c.items_under-children.ensures
    ∙ ap (λ (ss : List Spot). old ++ ss)
    (sym (one_down venue room round c.args.level d c.if-level-eq0.false))
