use Rattle.std.proofs.Common.{◌≡◌, ℕ, List, Result, Ok, Err, codes, subst}
use Rattle.std.specs.{Prelude.IfOk, declared.alloc.AllocError.AllocError}
use Rattle.card_forms.specs.Pairs.{value_of}
use Rattle.table_views.specs.declared.around.PageContext.{PageContext}
use Rattle.table_service.specs.{declared.plan.RequestPlan.RequestPlan, Lists.LooksAt}
use Rattle.table_service.specs.Plans.{page_after}
use Rattle.table_service.proofs.posting.look_back.Goals as goal

-- the same lines, from the same page
same_looked : (around : PageContext) (back place : List ℕ) → back ≡ place → (lines texts : List ℕ)
    → lines ≡ texts → (r : Result RequestPlan AllocError) → IfOk r (LooksAt around back lines)
    → IfOk r (LooksAt around place texts)
same_looked around back place there lines texts are (Ok plan) looks =
    subst (λ (at : List ℕ). LooksAt around at texts plan) there
    (subst (λ (said : List ℕ). LooksAt around back said plan) are looks)
same_looked around back place there lines texts are (Err error) looks = tt

pub returns : goal.returns
returns c =
    same_looked c.args.around.now c.page_after.result.now (page_after c.args.pairs.now)
    c.page_after.ensures c.value.result.now (value_of (codes "lines") c.args.pairs.now)
    c.value.ensures c.look.result c.look.ensures
