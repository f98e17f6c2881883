-- The steps of a desk, as its code plans them.
use Rattle.std.proofs.Common.{◌≡◌, ℕ, Bool, true, false, if◌then◌else◌, ◌↔◌, length, ◌∙◌, List, []}
use Rattle.std.proofs.Common.{◌∷◌, Result, Ok, Err, IfOk, subst, refl, sym, ap}
use Rattle.acceptor.specs.declared.{entry.Entry.Entry, message.Message.Message}
use Rattle.proposer.specs.declared.fault.{Refusal.Refusal, StepFault.StepFault}
use Rattle.proposer.specs.{declared.plan.Plan.Plan, Proposing.start, Refusals.RefusesAs}
use Rattle.proposer.specs.{Plans.Passing, Plans.queue_after, Plans.only_say, Proposing.tick}
use Rattle.learner.specs.Desks.{Desk, passing}
use Rattle.learner.specs.Steps.{Done, done, idle, planned, passed, is_heeded, on_body, step}
use Rattle.learner.specs.declared.event.DeskEvent.TheVariants.{Start, Tick, Deliver}
use Rattle.replica.specs.roles.model.RunningDesks.{RunningDesk, IsStep, delivery}

queue_stays : (es : List Entry) → queue_after es false ≡ es
queue_stays [] = refl
queue_stays (e ∷ es) = refl

-- a plan that neither changes nor sends anything leaves the desk as it is
idle_done : (x : Desk) → idle x ≡ done x (only_say (passing x) [])
idle_done x =
    ap (λ (q : List Entry).
    record {
      desk =
          record { stored = x.stored; log = x.log; role = x.role; queue = q; seen = x.seen };
      messages = [];
    }) (sym (queue_stays x.queue))

-- a message is met by its plan
pub delivery_step : (x : RunningDesk) (m : Message)
    → step x.desks x.number x.desk (Deliver m) ≡ Ok (done x.desk (delivery x m))
delivery_step x m = go (is_heeded x.desks x.number m)
  where
    met : Bool → Result Done Refusal
    met t =
        if t then Ok (done x.desk (on_body x.desks x.number x.desk m.from m.body))
        else Ok (idle x.desk)

    planned_so : Bool → Plan
    planned_so t =
        if t then on_body x.desks x.number x.desk m.from m.body else only_say (passing x.desk) []

    go : (t : Bool) → met t ≡ Ok (done x.desk (planned_so t))
    go true = refl
    go false = ap (λ (r : Done). Ok r) (idle_done x.desk)

-- a plan that is refused is a step that is refused, and the other way number
pub planned_refused : (x : Desk) (r : Result Plan Refusal) (why : Refusal)
    → (r ≡ Err why) ↔ (planned x r ≡ Err why)
planned_refused x (Ok p) why = (λ e. absurd cc, λ e. absurd cc)
planned_refused x (Err other) why = (
  λ e. let same : other ≡ why = cc in ap (λ w. Err w) same,
  λ e. let same : other ≡ why = cc in
      ap (λ w. Err w) same,
)

pub passed_refused : (x : Desk) (r : Result Passing Refusal) (why : Refusal)
    → (r ≡ Err why) ↔ (passed x r ≡ Err why)
passed_refused x (Ok p) why = (λ e. absurd cc, λ e. absurd cc)
passed_refused x (Err other) why = (
  λ e. let same : other ≡ why = cc in ap (λ w. Err w) same,
  λ e. let same : other ≡ why = cc in
      ap (λ w. Err w) same,
)

-- a call that refuses as the plan does refuses as the step does
pub refuses_planned : {A : Type 0} (x : Desk) (result : Result A StepFault)
    (r : Result Plan Refusal) → RefusesAs result r → RefusesAs result (planned x r)
refuses_planned x result r h why =
    let p = planned_refused x r why in let k = h why in (λ e. p.0 (k.0 e), λ e. k.1 (p.1 e))

pub refuses_passed : {A : Type 0} (x : Desk) (result : Result A StepFault)
    (r : Result Passing Refusal) → RefusesAs result r → RefusesAs result (passed x r)
refuses_passed x result r h why =
    let p = passed_refused x r why in let k = h why in (λ e. p.0 (k.0 e), λ e. k.1 (p.1 e))

pub start_is_step : (x : RunningDesk) (len : ℕ) (p : Plan) → len ≡ length x.desk.log
    → start x.desks x.number x.desk.stored len (passing x.desk) ≡ Ok p → IsStep x p
start_is_step x len p same e = (
  Start,
  ap (λ r. planned x.desk r)
      (subst (λ k. start x.desks x.number x.desk.stored k (passing x.desk) ≡ Ok p) same e),
)

pub tick_is_step : (x : RunningDesk) (len : ℕ) (p : Plan) → len ≡ length x.desk.log
    → tick x.desks x.number x.desk.stored len (passing x.desk) ≡ Ok p → IsStep x p
tick_is_step x len p same e = (
  Tick,
  ap (λ r. planned x.desk r)
      (subst (λ k. tick x.desks x.number x.desk.stored k (passing x.desk) ≡ Ok p) same e),
)

pub delivery_is_step : (x : RunningDesk) (m : Message) (p : Plan) → p ≡ delivery x m
    → step x.desks x.number x.desk (Deliver m) ≡ Ok (done x.desk p)
delivery_is_step x m p e = delivery_step x m ∙ ap (λ q. Ok (done x.desk q)) (sym e)

pub if_ok_map : {A E : Type 0} {P Q : A → Type 0} (r : Result A E) → ((a : A) → P a → Q a)
    → IfOk r P → IfOk r Q
if_ok_map (Ok a) f h = f a h
if_ok_map (Err e) f h = h

pub start_refuses : {A : Type 0} (x y : RunningDesk) (len : ℕ) (result : Result A StepFault) → x ≡ y
    → len ≡ length x.desk.log
    → RefusesAs result (start x.desks x.number x.desk.stored len (passing x.desk))
    → RefusesAs result (step y.desks y.number y.desk Start)
start_refuses x y len result view same h =
    subst (λ (z : RunningDesk). RefusesAs result (step z.desks z.number z.desk Start)) view
    (refuses_planned x.desk result
    (start x.desks x.number x.desk.stored (length x.desk.log) (passing x.desk))
    (subst (λ k. RefusesAs result (start x.desks x.number x.desk.stored k (passing x.desk))) same
    h))

pub tick_refuses : {A : Type 0} (x y : RunningDesk) (len : ℕ) (result : Result A StepFault) → x ≡ y
    → len ≡ length x.desk.log
    → RefusesAs result (tick x.desks x.number x.desk.stored len (passing x.desk))
    → RefusesAs result (step y.desks y.number y.desk Tick)
tick_refuses x y len result view same h =
    subst (λ (z : RunningDesk). RefusesAs result (step z.desks z.number z.desk Tick)) view
    (refuses_planned x.desk result
    (tick x.desks x.number x.desk.stored (length x.desk.log) (passing x.desk))
    (subst (λ k. RefusesAs result (tick x.desks x.number x.desk.stored k (passing x.desk))) same h))
