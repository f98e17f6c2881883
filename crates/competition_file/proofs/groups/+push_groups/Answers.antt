use Rattle.std.proofs.Common.{◌∙◌, ◌++◌, ◌-◌, sym, ap, arith, map, flat_map}
use Rattle.std.proofs.lemmas.List.{take_all}
use Rattle.serde_json.specs.View.{view}
use Rattle.competition_file.specs.Groups.{groups_down}
use Rattle.competition_file.specs.Items.{items_under}
use Rattle.competition_file.proofs.Firsts.{one_down}
use Rattle.competition_file.proofs.groups.+push_groups.Goals as goal

pub returns : goal.returns
returns t c =
    let before = c.args.groups.now.items in
    let f = groups_down c.args.front.now (c.args.level - 1) in
    let d = view c.args.value.now in
    c.loop-item.invariant
    ∙ ap (λ vs. before ++ flat_map f (map view vs))
    (take_all c.loop-item.item-index c.items_under-items.result.now (omega arith))
    ∙ ap (λ ds. before ++ flat_map f ds) c.items_under-items.ensures
    ∙ ap (λ name. before ++ flat_map f (items_under name d)) c.level_name.ensures
    ∙ ap (λ gs. before ++ gs)
    (sym (one_down c.args.front.now c.args.level d c.if-level-eq0.false))
