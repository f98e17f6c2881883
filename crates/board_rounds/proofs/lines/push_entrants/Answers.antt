use Rattle.std.proofs.Common.{◌≡◌, ◌++◌, ◌∙◌, List, ℕ, OnOk, flat_map, subst}
use Rattle.board_rounds.specs.model.Shown.{listed_shown}
use Rattle.board_rounds.proofs.lines.push_entrants.Goals as goal

pub push_lines-requires : goal.push_lines-requires
push_lines-requires c =
    c.in_ok-going_on.ensures (c.args.shown.settings, c.args.shown.table.now) c.requires

pub returns : goal.returns
returns c =
    subst (λ (ns : List ℕ). OnOk c.push_lines.result (c.push_lines.new.out.items
    ≡ c.args.out.now.items ++ flat_map (listed_shown c.args.podium c.args.shown) ns))
    (c.deref.ensures.value ∙ c.in_ok-numbers.ensures.order) c.push_lines.ensures
