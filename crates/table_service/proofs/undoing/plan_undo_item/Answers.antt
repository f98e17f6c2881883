use Rattle.std.proofs.Common.{◌∙◌, sym}
use Rattle.table_service.proofs.Fitting.{card_fits}
use Rattle.table_service.proofs.undoing.plan_undo_item.Goals as goal

pub undone_entry-requires : goal.undone_entry-requires
undone_entry-requires c =
    card_fits c.text.result.now c.in-Some.card (sym c.in_ok-card.ensures ∙ c.in-Some.is)
