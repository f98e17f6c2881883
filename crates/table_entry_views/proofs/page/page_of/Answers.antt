use Rattle.std.proofs.Common.{◌∙◌, ap}
use Rattle.commands.specs.{Accepted.round_by, History.History}
use Rattle.table_entry_views.proofs.page.page_of.Goals as goal

pub push_round-requires : goal.push_round-requires
push_round-requires c =
    ap (λ (h : History). round_by h.accepted c.args.id) c.meet.ensures ∙ c.requires
