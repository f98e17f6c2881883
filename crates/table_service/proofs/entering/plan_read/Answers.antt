use Rattle.std.proofs.Common.{◌∙◌, sym}
use Rattle.table_service.proofs.Fitting.{card_fits}
use Rattle.table_service.proofs.entering.plan_read.Goals as goal

pub plan_fit-requires : goal.plan_fit-requires
plan_fit-requires c =
    card_fits c.text.result.now c.in-Some-2.card (sym c.in_ok-card.ensures ∙ c.in-Some-2.is)
