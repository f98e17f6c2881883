-- What is said of one desk's calls is what is said of the world's happenings.
use Rattle.std.proofs.Common.{◌≡◌, ℕ, Bool, true, false, if◌then◌else◌, ◌==◌, refl, ap, ◌⊎◌, inl}
use Rattle.std.proofs.Common.{inr, List, [], Option, Result, Ok, Err, IfOk, sym, subst, ◌∙◌}
use Rattle.std.proofs.{Math.Path.fun_ext, lemmas.List.append-nil}
use Rattle.learner.specs.{Desks.Desk, Desks.restarted, declared.event.DeskEvent.DeskEvent}
use Rattle.learner.specs.Worlds.{restart_at, happens, put, World, world_after, at_desk, delivered}
use Rattle.learner.specs.Steps.{Done, IsDesk, step}
use Rattle.proposer.specs.declared.fault.Refusal.{Refusal}
use Rattle.acceptor.specs.declared.{entry.Entry.Entry, message.Message.Message}
use Rattle.acceptor.specs.declared.stored.Stored.{Stored}
use Rattle.learner.specs.declared.event.WorldEvent.{WorldEvent, TheVariants.Deliver as DeliverNth}
use Rattle.learner.specs.declared.event.WorldEvent.TheVariants.{Restart as RestartAt}
use Rattle.store.specs.declared.keeper.Keeper.{Ghosts}
use Rattle.hall.proofs.world.Places.{put_same, desk_test}
use Rattle.progress.proofs.Aims.{put_self}
use Rattle.replica.specs.declared.roles.fault.NodeFault.{NodeFault, TheVariants.Down}
use Rattle.replica.specs.{Nodes.NodeValue, Stores.HoldsBeforeOrAfter, roles.Opening.opened}
use Rattle.replica.specs.{Handles.Handles, Handles.step_at, Opens.Opens}
use Rattle.hall_laws.specs.Stops.{AnswerIsEvent, OpeningsAreRestarts, Answered, Stopped, receiver}
use Rattle.hall_laws.specs.Stops.{place, goes_on, IsEventAt, IsNext, with_desk, CallsAreHappenings}

pub put_put : (desks : ℕ → Desk) (d : ℕ) (x y : Desk) → put (put desks d x) d y ≡ put desks d y
put_put desks d x y = fun_ext (λ k. go k (d == k))
  where
    go : (k : ℕ) (t : Bool)
        → (if t then y else (if t then x else desks k)) ≡ (if t then y else desks k)
    go k true = refl
    go k false = refl

pub answer_is_event : AnswerIsEvent
answer_is_event n d w event y messages ours takes = cc (desk_test n d ours)

restart_is : (n d : ℕ) (w : World) → IsDesk n d → (restart_at n w d).desks d ≡ restarted (w.desks d)
restart_is n d w ours =
    let restart : World =
    record { desks = put w.desks d (restarted (w.desks d)); sent = w.sent } in
    cc (desk_test n d ours, put_self w.desks d (restarted (w.desks d)))

pub openings_are_restarts : OpeningsAreRestarts
openings_are_restarts n d w event ours =
    record { before = sym (restart_is n d w ours); later = go (step n d (w.desks d) event) refl }
  where
    after_is : (r : Done) → step n d (w.desks d) event ≡ Ok r
        → (at_desk n w d event).desks d ≡ r.desk
    after_is r is = cc (desk_test n d ours, put_self w.desks d r.desk)

    go : (r : Result Done Refusal) → step n d (w.desks d) event ≡ r → IfOk r
        (λ x. opened x.desk.stored x.desk.log ≡ (restart_at n (at_desk n w d event) d).desks d)
    go (Ok r) is =
        ap restarted (sym (after_is r is)) ∙ sym (restart_is n d (at_desk n w d event) ours)
    go (Err why) is = tt

-- ---- the calls of a node

happens_at : (n : ℕ) (w : World) (e : WorldEvent) (d : ℕ) (event : DeskEvent)
    → IsEventAt w e d event → happens n w e ≡ at_desk n w d event
happens_at n w (DeliverNth k) d event h =
    let there = ap (λ (o : Option Message). delivered n w o) h.1 in
    there ∙ (λ i. at_desk n w (h.2 i) (sym h.3 i))
happens_at n w (RestartAt k) d event h = absurd h
happens_at n w _ d event h = λ i. at_desk n w (h.0 i) (sym h.1 i)

place_at : (w : World) (e : WorldEvent) (d : ℕ) (event : DeskEvent) → IsEventAt w e d event
    → place w e ≡ d
place_at w (DeliverNth k) d event h = ap (λ (o : Option Message). receiver o) h.1 ∙ h.2
place_at w (RestartAt k) d event h = absurd h
place_at w _ d event h = h.0

next_step : {K : Type 0} (k : Ghosts K) (n d : ℕ) (w : World) (e : WorldEvent) (event : DeskEvent)
    (node : NodeValue K) → IsNext k n d w e event node
    → step_at (k.home_of node.keeper) node.desk event ≡ step n d (w.desks d) event
next_step k n d w e event node next =
    let n_is = next.desks in
    let d_is = next.desk in
    let known = next.known in λ i. step (n_is i) (d_is i) (known i) event

answered_is : {K : Type 0} (k : Ghosts K) (n d : ℕ) (w : World) (e : WorldEvent) (event : DeskEvent)
    (old new : NodeValue K) (messages : List Message) → IsNext k n d w e event old
    → Handles k old event (Ok messages) new
    → with_desk w d new.desk messages ≡ goes_on n w (Answered e)
answered_is k n d w e event old new messages next h =
    let done = sym (next_step k n d w e event old next) ∙ (h.takes next.up).ok in
    cc (happens_at n w e d event next.event_is, desk_test n d next.ours)

pub same_world : (w : World) (d : ℕ) (x : Desk) → x ≡ w.desks d → with_desk w d x [] ≡ w
same_world w d x same =
    let desks = put_same w.desks d x same in
    let sent = append-nil w.sent in λ i. record { desks = desks i; sent = sent i }

refused_is : {K : Type 0} (k : Ghosts K) (n d : ℕ) (w : World) (e : WorldEvent) (event : DeskEvent)
    (old new : NodeValue K) (fault : NodeFault) → IsNext k n d w e event old
    → Handles k old event (Err fault) new → with_desk w d new.desk [] ≡ w
refused_is k n d w e event old new fault next h =
    same_world w d new.desk ((h.takes next.up).err ∙ next.known)

-- a restart of the desk, in the world before its event
pub restart_before : (n d : ℕ) (w : World) (x : Desk) → IsDesk n d → x ≡ restarted (w.desks d)
    → with_desk w d x [] ≡ restart_at n w d
restart_before n d w x ours is =
    let sent = append-nil w.sent in
    (λ i. record { desks = put w.desks d (is i); sent = sent i }) ∙ sym (ap (λ (t : Bool).
    if t then record { desks = put w.desks d (restarted (w.desks d)); sent = w.sent } else w)
    (desk_test n d ours))

-- a restart of the desk, in the world after its event
restart_later : (n d : ℕ) (w : World) (event : DeskEvent) (r : Done) (x : Desk) → IsDesk n d
    → step n d (w.desks d) event ≡ Ok r → x ≡ restarted r.desk → with_desk w d x []
    ≡ record { desks = (restart_at n (at_desk n w d event) d).desks; sent = w.sent }
restart_later n d w event r x ours is same =
    let sent = append-nil w.sent in
    let after : at_desk n w d event ≡ world_after w d (Ok r) = cc (desk_test n d ours) in
    let v : World = world_after w d (Ok r) in
    let known : v.desks d ≡ r.desk = put_self w.desks d r.desk in
    let again : (restart_at n v d).desks ≡ put w.desks d x =
    cc (desk_test n d ours, put_put w.desks d r.desk (restarted r.desk)) in
    let desks = sym again ∙ ap (λ (u : World). (restart_at n u d).desks) (sym after) in
    λ i. record { desks = desks i; sent = sent i }

-- where a store holds the state before an event of desk d or the one after it, an opening of it is
-- a stopped call
pub stops_holding : (n d : ℕ) (w : World) (e : WorldEvent) (event : DeskEvent) (x : Desk)
    (s : Stored) (log : List Entry) (may_hold : Stored → List Entry → Type 0) (may_break : Type 0)
    → IsDesk n d → IsEventAt w e d event → x ≡ w.desks d
    → HoldsBeforeOrAfter may_hold may_break x (step n d (w.desks d) event) → may_hold s log
    → (stored : Bool) × (with_desk w d (opened s log) [] ≡ goes_on n w (Stopped stored e))
stops_holding n d w e event x s log may_hold may_break ours event_is known holds may =
    go (step n d (w.desks d) event) refl holds
  where
    here : place w e ≡ d
    here = place_at w e d event event_is

    before : (s ≡ x.stored) × (log ≡ x.log)
        → with_desk w d (opened s log) [] ≡ restart_at n w (place w e)
    before is =
        restart_before n d w (opened s log) ours
        ((λ i. opened (is.0 i) (is.1 i)) ∙ ap restarted known)
        ∙ ap (λ (j : ℕ). restart_at n w j) (sym here)

    later : (r : Done) → step n d (w.desks d) event ≡ Ok r
        → (s ≡ r.desk.stored) × (log ≡ r.desk.log) → with_desk w d (opened s log) []
        ≡ record { desks = (restart_at n (happens n w e) (place w e)).desks; sent = w.sent }
    later r done is =
        restart_later n d w event r (opened s log) ours done (λ i. opened (is.0 i) (is.1 i)) ∙ (λ i.
        record {
          desks = (restart_at n (sym (happens_at n w e d event event_is) i) (sym here i)).desks;
          sent = w.sent;
        })

    either : (r : Done) → step n d (w.desks d) event ≡ Ok r → ((s ≡ x.stored) × (log ≡ x.log))
        ⊎ ((s ≡ r.desk.stored) × (log ≡ r.desk.log))
        → (stored : Bool) × (with_desk w d (opened s log) [] ≡ goes_on n w (Stopped stored e))
    either r done (inl is) = (false, before is)
    either r done (inr is) = (true, later r done is)

    go : (r : Result Done Refusal) → step n d (w.desks d) event ≡ r
        → HoldsBeforeOrAfter may_hold may_break x r
        → (stored : Bool) × (with_desk w d (opened s log) [] ≡ goes_on n w (Stopped stored e))
    go (Ok r) is both = either r is (both.only s log may)
    go (Err why) is both = absurd both

stopped_is : {K : Type 0} (k : Ghosts K) (n d : ℕ) (w : World) (e : WorldEvent) (event : DeskEvent)
    (old new : NodeValue K) (s : Stored) (log : List Entry) → IsNext k n d w e event old
    → Handles k old event (Err Down) new → k.is_honest new.keeper → k.may_hold new.keeper s log
    → (stored : Bool) × (with_desk w d (opened s log) [] ≡ goes_on n w (Stopped stored e))
stopped_is k n d w e event old new s log next h honest may =
    stops_holding n d w e event old.desk s log (k.may_hold new.keeper) (k.may_break new.keeper)
    next.ours next.event_is next.known (subst (λ (r : Result Done Refusal).
    HoldsBeforeOrAfter (k.may_hold new.keeper) (k.may_break new.keeper) old.desk r)
    (next_step k n d w e event old next) (h.left next.up (h.down.0 refl) honest)) may

reopened_is : {K : Type 0} (k : Ghosts K) (n d : ℕ) (w : World) (e : WorldEvent)
    (event : DeskEvent) (old new : NodeValue K) (keeper : K) (node : NodeValue K)
    → IsNext k n d w e event old → Handles k old event (Err Down) new
    → (k.is_honest keeper → k.is_honest new.keeper)
    → ((s : Stored) (log : List Entry) → k.may_hold keeper s log → k.may_hold new.keeper s log)
    → Opens k keeper node → k.is_honest node.keeper
    → (stored : Bool) × (with_desk w d node.desk [] ≡ goes_on n w (Stopped stored e))
reopened_is k n d w e event old new keeper node next h honest held opens here =
    let s : Stored = node.desk.stored in
    let log : List Entry = node.desk.log in
    let stop =
    stopped_is k n d w e event old new s log next h (honest (opens.honest here))
    (held s log (opens.loaded here)) in
    let first = opens.first in (stop.0, ap (λ (x : Desk). with_desk w d x []) first ∙ stop.1)

pub calls_are_happenings : {K : Type 0} (k : Ghosts K) → CallsAreHappenings k
calls_are_happenings k = record {
  answered = answered_is k;
  refused = refused_is k;
  stopped = stopped_is k;
  reopened = reopened_is k;
}
