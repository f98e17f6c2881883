use Rattle.std.proofs.Common.{◌≡◌, ◌∙◌, ℕ, Bool, false, List, Option, Result, Ok, Err, ap, codes}
use Rattle.std.proofs.Common.{subst, sym}
use Rattle.std.specs.{Prelude.IfOk, Option.option_copied, declared.alloc.AllocError.AllocError}
use Rattle.card_forms.specs.declared.pairs.Pair.{Pair}
use Rattle.commands.specs.History.{History}
use Rattle.outbox.specs.Items.{ItemsOf}
use Rattle.table_views.specs.{declared.around.PageContext.PageContext, Editions.is_latest}
use Rattle.table_views.specs.Logs.{accepted_in}
use Rattle.texts.specs.declared.command.Command.{Command}
use Rattle.table_service.specs.declared.plan.RequestPlan.{RequestPlan}
use Rattle.table_service.specs.Plans.{PlansCard, PlansCardIf, RefusesWith, earlier_words}
use Rattle.table_service.proofs.entering.plan_card.Goals as goal

module _ (around : PageContext) (file : Option (List ℕ)) (q : ItemsOf) (pairs : List Pair) where
  earlier : (accepted : List Command) → accepted ≡ accepted_in around.mirror.now
      → is_latest accepted ≡ false → (r : Result RequestPlan AllocError)
      → IfOk r (RefusesWith around (codes "/") earlier_words)
      → IfOk r (PlansCard around file q pairs)
  earlier accepted same not-so (Ok plan) refuses =
      subst (λ (b : Bool). PlansCardIf b around file q pairs plan)
      (sym (ap is_latest (sym same) ∙ not-so)) refuses
  earlier accepted same not-so (Err error) refuses = tt

pub returns-then-not-is_latest : goal.returns-then-not-is_latest
returns-then-not-is_latest c =
    earlier c.args.around.now (option_copied c.args.competition) c.args.outbox.now.list
    c.args.pairs.now c.meet.result.now.accepted
    (ap (λ (h : History). h.accepted) c.meet.ensures)
    (sym c.is_latest.ensures ∙ c.if-not-is_latest.true) c.refuse.result c.refuse.ensures
