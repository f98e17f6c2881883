-- What is planned for a request, by what is around a page.
use Rattle.std.proofs.Common.{◌≡◌, ◌∙◌, Bool, true, false, ℕ, List, Option, None, Some, Result, Ok}
use Rattle.std.proofs.Common.{Err, IfOk, String, ap, map, slice_get, string_bytes, subst, sym}
use Rattle.std.specs.declared.alloc.AllocError.{AllocError}
use Rattle.acceptor.specs.declared.entry.Entry.{Entry}
use Rattle.http.specs.declared.request.Request.{Request}
use Rattle.outbox.specs.Items.{ItemsOf}
use Rattle.table_views.specs.declared.around.{PageContext.PageContext, Recent.Recent}
use Rattle.table_service.specs.{declared.plan.RequestPlan.RequestPlan, Gate.is_own, Sent.PlansOwn}
use Rattle.table_service.specs.{Recents.AreRecent, Replying.refuses, Services.ServiceOf}
use Rattle.table_service.specs.Services.{IsAround, Plans, PlansAround, PlansIf, PlansWith}
use Rattle.table_service.specs.declared.plan.Problem.TheVariants as problem

pub own_seen : {Z : Type 0} (hosts seen : List (String Z)) → hosts ≡ seen → (s : ServiceOf)
    → map string_bytes seen ≡ s.hosts → (request : Request (List ℕ)) (asked own : Bool)
    → asked ≡ is_own (map string_bytes hosts) request → asked ≡ own → is_own s.hosts request ≡ own
own_seen hosts seen same s is request asked own answers so =
    sym (answers
    ∙ ap (λ (hs : List (List ℕ)). is_own hs request) (ap (map string_bytes) same ∙ is))
    ∙ so

pub foreign_planned : (s : ServiceOf) (request : Request (List ℕ)) (plan : RequestPlan)
    → is_own s.hosts request ≡ false → plan ≡ refuses problem.Foreign → Plans s request plan
foreign_planned s request plan not-so is =
    subst (λ (b : Bool). PlansIf s request b plan) (sym not-so) is

module _ (s : ServiceOf) (request : Request (List ℕ)) (so : is_own s.hosts request ≡ true) where
  pub busy_planned : (plan : RequestPlan) → slice_get s.ids 0 ≡ None → plan ≡ refuses problem.Busy
      → Plans s request plan
  busy_planned plan none is =
      subst (λ (b : Bool). PlansIf s request b plan) (sym so)
      (subst (λ (o : Option (List ℕ)). PlansWith s request o plan) (sym none) is)

  own_planned : (set : List ℕ) → slice_get s.ids 0 ≡ Some set → (plan : RequestPlan)
      → PlansAround s set request plan → Plans s request plan
  own_planned set some plan is =
      subst (λ (b : Bool). PlansIf s request b plan) (sym so)
      (subst (λ (o : Option (List ℕ)). PlansWith s request o plan) (sym some) is)

  pub all_planned : (set : List ℕ) → slice_get s.ids 0 ≡ Some set
      → (r : Result RequestPlan AllocError) → IfOk r (PlansAround s set request)
      → IfOk r (Plans s request)
  all_planned set some (Ok plan) is = own_planned set some plan is
  all_planned set some (Err error) is = tt

pub recent_seen : (log held : List Entry) (q list : ItemsOf) (recents shown : List Recent)
    → log ≡ held → q ≡ list → shown ≡ recents → AreRecent log q recents → AreRecent held list shown
recent_seen log held q list recents shown same_log same_list same are =
    subst (λ (l : List Entry). AreRecent l list shown) same_log
    (subst (λ (p : ItemsOf). AreRecent log p shown) same_list
    (subst (λ (rs : List Recent). AreRecent log q rs) (sym same) are))

pub around_planned : (s : ServiceOf) (set : List ℕ) (request : Request (List ℕ))
    (around : PageContext)
    (title : List ℕ) (competition : Option (List ℕ)) (q : ItemsOf)
    (r : Result RequestPlan AllocError)
    → IfOk r (PlansOwn around title competition q request) → IsAround s set request around
    → title ≡ s.title → competition ≡ s.competition → q ≡ s.outbox.list
    → IfOk r (PlansAround s set request)
around_planned s set request around title file q (Ok plan) plans is named told same = record {
  around = around;
  is = is;
  plans = subst (λ (t : List ℕ). PlansOwn around t s.competition s.outbox.list request plan) named
      (subst (λ (o : Option (List ℕ)). PlansOwn around title o s.outbox.list request plan) told
      (subst (λ (z : ItemsOf). PlansOwn around title file z request plan) same plans));
}
around_planned s set request around title file q (Err error) plans is named told same = tt
