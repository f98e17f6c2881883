use Rattle.std.proofs.Common.{◌≡◌, ◌++◌, ◌∙◌, List, ℕ, OnOk, flat_map, subst}
use Rattle.table_entry_views.specs.Beside.{line}
use Rattle.table_entry_views.proofs.beside.push_entrants.Goals as goal

pub push_lines-requires : goal.push_lines-requires
push_lines-requires c =
    c.in_ok-going_on.ensures (c.args.round.settings, c.args.round.table.now) c.requires

pub returns : goal.returns
returns c =
    subst (λ (ns : List ℕ). OnOk c.push_lines.result (c.push_lines.new.out.items
    ≡ c.args.out.now.items
    ++ flat_map (line c.args.meet.now.accepted c.args.id
    (c.args.round.settings, c.args.round.table.now)) ns))
    (c.deref.ensures.value ∙ c.in_ok-numbers.ensures.order) c.push_lines.ensures
