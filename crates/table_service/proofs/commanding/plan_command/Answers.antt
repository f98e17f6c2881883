use Rattle.std.proofs.Common.{◌≡◌, ◌∷◌, [], ℕ, List, Some, Result, Ok, Err, codes, inr, subst}
use Rattle.std.specs.{Prelude.IfOk, declared.alloc.AllocError.AllocError}
use Rattle.card_forms.specs.{declared.pairs.Pair.Pair, Cards.form_id_of, Entries.entry_with}
use Rattle.card_forms.specs.{Asking.Asks, Asking.IsCommandText, Pairs.value_of, Remarks.noted}
use Rattle.outbox.specs.Items.{ItemsOf}
use Rattle.table_views.specs.declared.around.PageContext.{PageContext}
use Rattle.table_service.specs.{declared.plan.RequestPlan.RequestPlan, Taking.PlansEntries}
use Rattle.table_service.specs.Plans.{PlansCommand, page_after, remark_in}
use Rattle.table_service.proofs.commanding.plan_command.Goals as goal

module _ (around : PageContext) (q : ItemsOf) (pairs : List Pair) (id : ℕ) (text : List ℕ)
    (named : form_id_of (value_of (codes "id") pairs) ≡ Some id) (fit : IsCommandText text)
    (asks : Asks pairs text) (back : List ℕ) (is : back ≡ page_after pairs) where
  asked : (r : Result RequestPlan AllocError)
      → IfOk r (PlansEntries q around back (entry_with id (noted (remark_in around) text) ∷ []))
      → IfOk r (PlansCommand around q pairs)
  asked (Ok plan) plans = inr (inr record {
    id = id;
    text = text;
    named = named;
    fit = fit;
    asks = asks;
    plans = subst
        (λ (b : List ℕ).
        PlansEntries q around b (entry_with id (noted (remark_in around) text) ∷ []) plan) is plans;
  })
  asked (Err error) plans = tt

pub returns-in-Ok : goal.returns-in-Ok
returns-in-Ok c =
    asked c.args.around.now c.args.outbox.now.list c.args.pairs.now c.in-Ok.form.id
    c.in-Ok.form.text c.in-Ok.ensures.id c.in-Ok.ensures.command c.in-Ok.ensures.asks
    c.page_after.result.now c.page_after.ensures c.plan_text.result c.plan_text.ensures
