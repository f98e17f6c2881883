use Rattle.std.proofs.Common.{◌≡◌, ◌∙◌, List, ℕ, Option, Some, Result, Ok, Err, ap, subst}
use Rattle.std.specs.{Prelude.IfOk, declared.alloc.AllocError.AllocError}
use Rattle.acceptor.specs.declared.entry.Entry.{Entry}
use Rattle.table_people_views.specs.Refused.{faults_page}
use Rattle.outbox.specs.Items.{ItemsOf}
use Rattle.table_views.specs.declared.around.PageContext.{PageContext}
use Rattle.table_service.specs.{declared.plan.RequestPlan.RequestPlan, Replying.ShowsPage}
use Rattle.table_service.specs.Taking.{PlansEntries, PlansOther, both_words, other_in}
use Rattle.table_service.specs.declared.plan.PageStatus.TheVariants as shown
use Rattle.table_service.proofs.entries.plan_entries.Goals as goal

module _ (q : ItemsOf) (around : PageContext) (place : List ℕ) (entries : List Entry)
    (known sent : List ℕ) (is : Some (known, sent) ≡ other_in q entries) where
  told : (back lines : List ℕ) → back ≡ place → lines ≡ both_words known sent
      → (r : Result RequestPlan AllocError)
      → IfOk r (ShowsPage shown.Wrong (faults_page around back lines))
      → IfOk r (PlansEntries q around place entries)
  told back lines at says (Ok plan) shows =
      subst (λ (o : Option (List ℕ × List ℕ)). PlansOther o q around place entries plan) is (subst
      (λ (b : List ℕ).
      ShowsPage shown.Wrong (faults_page around b (both_words known sent)) plan) at (subst
      (λ (ls : List ℕ). ShowsPage shown.Wrong (faults_page around back ls) plan) says shows))
  told back lines at says (Err error) shows = tt

pub returns-in-Some : goal.returns-in-Some
returns-in-Some c =
    told c.args.outbox.now.list c.args.around.now c.args.back.items c.args.entries.items
    c.in-Some.known.now c.in-Some.sent.now (c.in-Some.ensures
    ∙ ap (λ (es : List Entry). other_in c.args.outbox.now.list es) c.deref.ensures.value)
    c.deref-in-Some.result.now c.deref-in-Some-2.result.now c.deref-in-Some.ensures.value
    (c.deref-in-Some-2.ensures.value ∙ c.in_ok-words.ensures) c.tell.result c.tell.ensures
