-- What an event is answered, from the plan of its step.
use Rattle.std.proofs.Common.{◌≡◌, ℕ, ◌↔◌, List, Result, Ok, Err, refl, sym, ap, subst}
use Rattle.acceptor.specs.declared.{entry.Entry.Entry, message.Message.Message}
use Rattle.acceptor.specs.declared.stored.Stored.{Stored}
use Rattle.proposer.specs.declared.fault.{Refusal.Refusal, StepFault.StepFault}
use Rattle.proposer.specs.declared.fault.Refusal.TheVariants.{Busy, LogFull, BallotsSpent}
use Rattle.proposer.specs.declared.fault.StepFault.TheVariants.{Refused, NoMemory}
use Rattle.proposer.specs.declared.plan.Plan.{Plan}
use Rattle.learner.specs.{Desks.Desk, Steps.Done, Steps.done}
use Rattle.replica.specs.{declared.roles.fault.NodeFault.NodeFault, Handles.Takes}
use Rattle.replica.specs.{roles.Faults.refused_as, roles.Faults.fault_of, model.Planning.IsPlanned}
use Rattle.replica.specs.{roles.model.RunningDesks.RunningDesk, Stores.HoldsBeforeOrAfter}
use Rattle.replica.specs.declared.roles.fault.NodeFault.TheVariants as fault

same_refusal : (a b : Refusal) → refused_as a ≡ refused_as b → a ≡ b
same_refusal Busy Busy e = refl
same_refusal Busy LogFull e = absurd cc
same_refusal Busy BallotsSpent e = absurd cc
same_refusal LogFull Busy e = absurd cc
same_refusal LogFull LogFull e = refl
same_refusal LogFull BallotsSpent e = absurd cc
same_refusal BallotsSpent Busy e = absurd cc
same_refusal BallotsSpent LogFull e = absurd cc
same_refusal BallotsSpent BallotsSpent e = refl

memory_is_no_refusal : (b : Refusal) → fault.NoMemory ≡ refused_as b → ⊥
memory_is_no_refusal Busy e = absurd cc
memory_is_no_refusal _ e = absurd cc

-- an answer that is a fault
abbrev answered : NodeFault → Result (List Message) NodeFault
answered f = Err f

-- a call that is refused
abbrev pub refused_call : (A : Type 0) → StepFault → Result A StepFault
refused_call A f = Err f

err_of : (a b : NodeFault) → answered a ≡ answered b → a ≡ b
err_of a b e = cc

step_err_of : (A : Type 0) (a b : StepFault) → refused_call A a ≡ refused_call A b → a ≡ b
step_err_of A a b e = cc

refused_of : (a b : Refusal) → Refused a ≡ Refused b → a ≡ b
refused_of a b e = cc

-- a step that is refused is refused for the same reason
refused_same : (A : Type 0) (s : Result Done Refusal) (why : StepFault)
    (answer : Result (List Message) NodeFault) → answer ≡ Err (fault_of why)
    → ((r : Refusal) → (refused_call A why ≡ refused_call A (Refused r)) ↔ (s ≡ Err r))
    → (r : Refusal) → (answer ≡ Err (refused_as r)) ↔ (s ≡ Err r)
refused_same A s (Refused a) answer e h r =
    let there : answer ≡ Err (refused_as r) → s ≡ Err r =
    λ k.
    let bare : answered (refused_as a) ≡ answered (refused_as r) = cc in
    let same : a ≡ r = same_refusal a r (err_of (refused_as a) (refused_as r) bare) in
    (h r).0 (ap (λ (w : Refusal). refused_call A (Refused w)) same) in
    let back : s ≡ Err r → answer ≡ Err (refused_as r) =
    λ k.
    let same : a ≡ r = refused_of a r (step_err_of A (Refused a) (Refused r) ((h r).1 k)) in
    subst (λ (w : Refusal). answer ≡ Err (refused_as w)) same e in
    (there, back)
refused_same A s NoMemory answer e h r =
    let there : answer ≡ Err (refused_as r) → s ≡ Err r =
    λ k.
    let bare : answered fault.NoMemory ≡ answered (refused_as r) = cc in
    absurd (memory_is_no_refusal r (err_of fault.NoMemory (refused_as r) bare)) in
    let back : s ≡ Err r → answer ≡ Err (refused_as r) = λ k. let other : NoMemory ≡ Refused r =
    step_err_of A NoMemory (Refused r) ((h r).1 k) in
    absurd cc in
    (there, back)

-- a refusal leaves the desk as it was
pub takes_refused : (A : Type 0) (s : Result Done Refusal) (n d : ℕ) (x y : Desk) (why : StepFault)
    (answer : NodeFault) → y ≡ x → answer ≡ fault_of why
    → ((r : Refusal) → (refused_call A why ≡ refused_call A (Refused r)) ↔ (s ≡ Err r))
    → Takes s n d x y (Err answer)
takes_refused A s n d x y why answer same is h =
    record {
      ok = tt;
      range = tt;
      refused = refused_same A s why (Err answer) (ap (λ (f : NodeFault). Err f) is) h;
      err = same;
    }

-- what holds of the desk once room is made for its plan holds of the desk before
pub takes_as : (a b : RunningDesk) (p : Result Plan StepFault) (s : Result Done Refusal) (y : Desk)
    (answer : Result (List Message) NodeFault) → b ≡ record a { room = b.room }
    → IsPlanned a.desk p s
    → ((t : Result Done Refusal) → IsPlanned b.desk p t → Takes t b.desks b.number b.desk y answer)
    → Takes s a.desks a.number a.desk y answer
takes_as a b p s y answer same planned h =
    let desk : b.desk ≡ a.desk = ap (λ (r : RunningDesk). r.desk) same in
    let desks : b.desks ≡ a.desks = ap (λ (r : RunningDesk). r.desks) same in
    let number : b.number ≡ a.number = ap (λ (r : RunningDesk). r.number) same in
    subst (λ (k : ℕ). Takes s k a.number a.desk y answer) desks
    (subst (λ (k : ℕ). Takes s b.desks k a.desk y answer) number
    (subst (λ (x : Desk). Takes s b.desks b.number x y answer) desk
    (h s (subst (λ (x : Desk). IsPlanned x p s) (sym desk) planned))))

pub left_as : (a b : RunningDesk) (p : Result Plan StepFault) (s : Result Done Refusal)
    (may_hold : Stored → List Entry → Type 0) (may_break : Type 0) → b ≡ record a { room = b.room }
    → IsPlanned a.desk p s → ((t : Result Done Refusal) → IsPlanned b.desk p t
    → HoldsBeforeOrAfter may_hold may_break b.desk t)
    → HoldsBeforeOrAfter may_hold may_break a.desk s
left_as a b p s may_hold may_break same planned h =
    let desk : b.desk ≡ a.desk = ap (λ (r : RunningDesk). r.desk) same in
    subst (λ (x : Desk). HoldsBeforeOrAfter may_hold may_break x s) desk
    (h s (subst (λ (x : Desk). IsPlanned x p s) (sym desk) planned))

-- a plan is that of the step that does what it plans
pub planned_ok : (x : Desk) (p : Plan) (s : Result Done Refusal) → s ≡ Ok (done x p)
    → IsPlanned x (Ok p) s
planned_ok x p s is = record { plan = is; refused = λ r. (λ k. absurd cc, λ k. absurd cc) }
