-- A desk's log only grows.
use Rattle.std.proofs.Common.{◌≡◌, ℕ, Bool, true, false, if◌then◌else◌, List, [], ◌∷◌, Option, Some}
use Rattle.std.proofs.Common.{None, Result, Ok, Err, length, refl, subst}
use Rattle.std.proofs.lemmas.List.{append-nil}
use Rattle.acceptor.specs.declared.{entry.Entry.Entry, message.Message.Message}
use Rattle.acceptor.specs.{declared.stored.Change.Change, Storing.log_after}
use Rattle.acceptor.specs.declared.stored.Change.TheVariants.{Promised, Voted, Tried, Appended}
use Rattle.proposer.specs.{declared.fault.Refusal.Refusal, declared.plan.Plan.Plan, Plans.Passing}
use Rattle.proposer.specs.Proposing.{submit, start, tick}
use Rattle.learner.specs.{declared.event.DeskEvent.DeskEvent, Laws.IsPrefix, Steps.step}
use Rattle.learner.specs.declared.event.DeskEvent.TheVariants.{Submit, Start, Tick, Deliver}
use Rattle.learner.specs.Desks.{Desk, passing}
use Rattle.learner.specs.Steps.{Done as DoneStep, done, idle, is_heeded, on_body, passed, planned}
use Rattle.replica.specs.{Handles.Handles, Nodes.NodeValue}
use Rattle.replica.specs.declared.roles.fault.NodeFault.{NodeFault, TheVariants.Down}
use Rattle.store.specs.declared.keeper.Keeper.{Ghosts}

changed : (log : List Entry) (change : Option Change) → IsPrefix log (log_after log change)
changed log None = ([], append-nil log)
changed log (Some (Promised b)) = ([], append-nil log)
changed log (Some (Voted v)) = ([], append-nil log)
changed log (Some (Tried r)) = ([], append-nil log)
changed log (Some (Appended e)) = (e ∷ [], refl)

planned_grows : (x : Desk) (p : Result Plan Refusal) (r : DoneStep) → planned x p ≡ Ok r
    → IsPrefix x.log r.desk.log
planned_grows x (Ok p) r h =
    let same : done x p ≡ r = cc in
    subst (λ (y : DoneStep). IsPrefix x.log y.desk.log) same (changed x.log p.change)
planned_grows x (Err why) r h = absurd cc

passed_grows : (x : Desk) (p : Result Passing Refusal) (r : DoneStep) → passed x p ≡ Ok r
    → IsPrefix x.log r.desk.log
passed_grows x (Ok p) r h =
    let after : DoneStep =
    record {
      desk =
          record {
            stored = x.stored;
            log = x.log;
            role = p.role;
            queue = p.queue;
            seen = p.seen;
          };
      messages = [];
    } in
    let same : after ≡ r = cc in
    subst (λ (y : DoneStep). IsPrefix x.log y.desk.log) same ([], append-nil x.log)
passed_grows x (Err why) r h = absurd cc

-- what a message leaves, heeded or not
abbrev met : Desk → Plan → Bool → Result DoneStep Refusal
met x p b = if b then Ok (done x p) else Ok (idle x)

heeded_grows : (x : Desk) (p : Plan) (b : Bool) (r : DoneStep) → met x p b ≡ Ok r
    → IsPrefix x.log r.desk.log
heeded_grows x p true r h =
    let same : done x p ≡ r = cc in
    subst (λ (y : DoneStep). IsPrefix x.log y.desk.log) same (changed x.log p.change)
heeded_grows x p false r h =
    let same : idle x ≡ r = cc in
    subst (λ (y : DoneStep). IsPrefix x.log y.desk.log) same ([], append-nil x.log)

pub step_grows : (n d : ℕ) (x : Desk) (event : DeskEvent) (r : DoneStep) → step n d x event ≡ Ok r
    → IsPrefix x.log r.desk.log
step_grows n d x (Submit e) r h = passed_grows x (submit (length x.log) (passing x) e) r h
step_grows n d x Start r h =
    planned_grows x (start n d x.stored (length x.log) (passing x)) r h
step_grows n d x Tick r h = planned_grows x (tick n d x.stored (length x.log) (passing x)) r h
step_grows n d x (Deliver m) r h =
    heeded_grows x (on_body n d x m.from m.body) (is_heeded n d m) r h

-- a call of a replica that is answered Ok is a step, at a desk that is not down
answered_grows : {K : Type 0} (k : Ghosts K) (old : NodeValue K) (event : DeskEvent)
    (messages : List Message) (new : NodeValue K) → Handles k old event (Ok messages) new
    → IsPrefix old.desk.log new.desk.log
answered_grows k old event messages new h = go old.is_down refl
  where
    is_err : (a : List Message) (b : NodeFault) → Ok a ≡ Err b → ⊥
    is_err a b same = cc

    go : (b : Bool) → old.is_down ≡ b → IsPrefix old.desk.log new.desk.log
    go true down = absurd (is_err messages Down (h.ended down).0)
    go false up =
        let home = k.home_of old.keeper in
        step_grows home.desks home.desk old.desk event _ (h.takes up).ok

pub handled_grows : {K : Type 0} (k : Ghosts K) (old : NodeValue K) (event : DeskEvent)
    (result : Result (List Message) NodeFault) (messages : List Message) (new : NodeValue K)
    → result ≡ Ok messages → Handles k old event result new → IsPrefix old.desk.log new.desk.log
handled_grows k old event result messages new is h =
    answered_grows k old event messages new (subst (λ r. Handles k old event r new) is h)
