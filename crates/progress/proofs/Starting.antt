-- A desk may start where its log has grown: what that changes.
use Rattle.std.proofs.Common.{◌≡◌, ℕ, Bool, true, false, ◌==◌, List, Some, None, refl, subst, arith}
use Rattle.std.proofs.Common.{zero, if◌then◌else◌, Option, Result, length, slice_get, length-append}
use Rattle.std.proofs.Common.{suc, ◌≤◌, ◌<◌, ◌+◌, [], ◌∷◌, ◌⊎◌, inl, inr, Ok, Err, sym, ap, ◌∙◌}
use Rattle.std.proofs.lemmas.Bool.Decides.{nat_tests}
use Rattle.acceptor.specs.declared.{ballot.Ballot.Ballot, entry.Entry.Entry, stored.Vote.Vote}
use Rattle.acceptor.specs.{Ballots.is_below, Storing.stored_after, Storing.log_after}
use Rattle.acceptor.specs.declared.message.{Body.Body, Message.Message}
use Rattle.acceptor.specs.declared.message.Body.TheVariants.{Prepare, Accept, Accepted, Decided}
use Rattle.acceptor.specs.declared.stored.Change.{Change, TheVariants.Tried}
use Rattle.acceptor.specs.Messages.{message, desks_from, to_each, to_all}
use Rattle.proposer.specs.declared.{fault.Refusal.Refusal, role.Role.Role, plan.Plan.Plan}
use Rattle.proposer.specs.declared.fault.Refusal.TheVariants.{BallotsSpent, LogFull}
use Rattle.proposer.specs.declared.role.Role.TheVariants.{Idle, Gathering, Proposing, Leading}
use Rattle.proposer.specs.{Plans.append, Proposing.ask_next, Proposing.is_outbid}
use Rattle.proposer.specs.Proposing.{start_by_role, is_full, last_number, gather, new_ballot}
use Rattle.learner.specs.{declared.event.DeskEvent.TheVariants.Start, Chosen.Has, Order.IsBelow}
use Rattle.learner.specs.{declared.event.WorldEvent.TheVariants.Start as StartAt, Desks.Desk}
use Rattle.learner.specs.{Desks.adopt, Desks.passing, Steps.IsDesk, Steps.on_body, Steps.planned}
use Rattle.learner.specs.Worlds.{World, world_after, at_desk}
use Rattle.progress.{specs.Turns.has_grown, proofs.Answers.takes_in, proofs.Answers.taken_at}
use Rattle.progress.proofs.Aims.{Aim, lack, cost_of, cost, Decides, carried, put_self, arrives}
use Rattle.progress.proofs.Aims.{IsReached, reached_more, decides_more, pending_more, lacking_less}
use Rattle.progress.proofs.Aims.{may_start, cost_less, cost_pays, IsDecided, put_other, pending_new}
use Rattle.progress.proofs.Aims.{put_same, desk_test, IsPending, late_more, lack_less, lack_pays}
use Rattle.progress.proofs.Fits.{IsOldOr, Fit, queue_kept, makes}

-- the desk's Tick makes a ballot, once there is an entry in its queue
abbrev pub IsFreeIn : Ballot → Role → Type 0
IsFreeIn promised Idle = Unit {0}
IsFreeIn promised (Gathering b pos heard) = Unit {0}
IsFreeIn promised (Proposing b pos e heard) = ⊥
IsFreeIn promised (Leading own) = IsBelow own promised

abbrev pub IsFree : Desk → Type 0
IsFree x = IsFreeIn x.stored.promised x.role

pub free_idle : (x : Desk) → x.role ≡ Idle → IsFree x
free_idle x h = subst (λ (r : Role). IsFreeIn x.stored.promised r) (sym h) tt

-- among what is sent to all is what is sent to one
pub each_get : (from : ℕ) (body : Body) (first count k : ℕ) → first ≤ k → k < first + count
    → (i : ℕ) × (slice_get (to_each from (desks_from first count) body) i ≡ Some
    (message from k body))
each_get from body first zero k low high = absurd (omega (arith, low, high))
each_get from body first (suc count) k low high =
    go (first == k) refl (λ above. each_get from body (suc first) count k above
    (omega (arith, high)))
  where
    go : (t : Bool) → (first == k) ≡ t
        → (suc first ≤ k → (i : ℕ) × (slice_get (to_each from (desks_from (suc first) count) body)
        i ≡ Some (message from k body)))
        → (i : ℕ) × (slice_get (to_each from (desks_from first (suc count)) body) i ≡ Some
        (message from k body))
    go true e ih = let same : first ≡ k = grind (arith, nat_tests) in
        (0, ap (λ j. Some (message from j body)) same)
    go false e ih =
        let above : suc first ≤ k = grind (arith, nat_tests) in
        let r = ih above in (suc r.0, r.1)

-- what desk d sends to all comes to each of the desks
pub all_pending : (a : Aim) (w : World) (p : Plan) (body : Body) (k : ℕ)
    → p.messages ≡ to_all a.n a.d body → a.start ≤ length w.sent → Has a.desks k
    → IsPending a (carried w a.d p) (message a.d k body)
all_pending a w p body k same late i =
    let ours : IsDesk a.n k = (let m = a.majority in m.ours k i) in
    let low = ours.0 in
    let high = ours.1 in
    let g = each_get a.d body 1 a.n k low (omega (arith, high)) in
    pending_new a w a.d p g.0 (message a.d k body) late (ap (λ ms. slice_get ms g.0) same ∙ g.1)

-- ---- what a Start changes

-- going from u to v, desk k may have started; u is events of the world too
pub record Started (a : Aim) (k : ℕ) (u v : World) : Type 0 where
  pub first : IsReached a.n u
  pub reached : IsReached a.n v
  pub late : a.start ≤ length u.sent → a.start ≤ length v.sent
  pub sent : (m : Message) → IsPending a u m → IsPending a v m
  pub others : (j : ℕ) → ¬ (k ≡ j) → v.desks j ≡ u.desks j
  pub logs : (j : ℕ) → (v.desks j).log ≡ (u.desks j).log
  pub queues : (j : ℕ) → (v.desks j).queue ≡ (u.desks j).queue
  pub promised : (j : ℕ) → (v.desks j).stored.promised ≡ (u.desks j).stored.promised
  pub votes : (j : ℕ) → (v.desks j).stored.vote ≡ (u.desks j).stored.vote
  pub seen : (j : ℕ) → (v.desks j).seen ≡ (u.desks j).seen
  pub tried : (v.desks k).stored.tried
      ≤ last_number (u.desks k).stored (passing (u.desks k)) + cost_of a.starts 1

started_not : (a : Aim) (k : ℕ) (u : World) → IsReached a.n u → Started a k u u
started_not a k u r = search arith

-- this is what it did
started_by : (a : Aim) (k : ℕ) (u : World) (role : Option Role) (change : Option Change)
    (ms : List Message) → IsReached a.n u
    → IsReached a.n (carried u k (makes (u.desks k).seen role change ms))
    → log_after (u.desks k).log change ≡ (u.desks k).log
    → (stored_after (u.desks k).stored change).promised ≡ (u.desks k).stored.promised
    → (stored_after (u.desks k).stored change).vote ≡ (u.desks k).stored.vote
    → (stored_after (u.desks k).stored change).tried
    ≤ last_number (u.desks k).stored (passing (u.desks k)) + cost_of a.starts 1
    → Started a k u (carried u k (makes (u.desks k).seen role change ms))
started_by a k u role change ms r reached log promised vote tried =
    let p : Plan = makes (u.desks k).seen role change ms in
    let y : Desk = adopt (u.desks k) p in
    record {
      first = r;
      reached = reached;
      late = late_more a u k p;
      sent = λ m h. pending_more a u k p m h;
      others = λ j ne. put_other u.desks k y j ne;
      logs = λ j. put_same (λ z. z.log) u.desks k y log j;
      queues = λ j. put_same (λ z. z.queue) u.desks k y (queue_kept (u.desks k).queue) j;
      promised = λ j. put_same (λ z. z.stored.promised) u.desks k y promised j;
      votes = λ j. put_same (λ z. z.stored.vote) u.desks k y vote j;
      seen = λ j. put_same (λ z. z.seen) u.desks k y refl j;
      tried = omega (arith, ap (λ z. z.stored.tried) (put_self u.desks k y), tried);
    }

-- it lacks what it lacked
lack_started : (a : Aim) (k : ℕ) (u v : World) → Started a k u v → lack a v ≤ lack a u
lack_started a k u v s =
    omega (
      arith,
      lacking_less v u a.top a.desks
          (λ j. let e = ap (λ z. length z) (s.logs j) in omega (arith, e)),
    )

-- desk k starts, if desks do and its log has grown
at_start : (a : Aim) (k before : ℕ) (u : World) (P : World → Type 0) → IsReached a.n u → P u
    → (a.starts ≡ true → IsReached a.n (at_desk a.n u k Start) → P (at_desk a.n u k Start))
    → P (may_start a.starts a.n k before u)
at_start a k before u P r stays next = go a.starts refl
  where
    grown : a.starts ≡ true → (t : Bool) → P (if t then at_desk a.n u k Start else u)
    grown on true = next on (reached_more a.n u (StartAt k) r)
    grown on false = stays

    go : (s : Bool) → a.starts ≡ s → P (may_start s a.n k before u)
    go false e = stays
    go true e = grown e (has_grown before (u.desks k))

-- the world once desk k has done what a plan says, if there is one
abbrev by_plan : World → ℕ → Result Plan Refusal → World
by_plan u k r = world_after u k (planned (u.desks k) r)

-- a Start of a desk of this role
start_is : (n : ℕ) (u : World) (k : ℕ) (o : Role) → IsDesk n k → (u.desks k).role ≡ o
    → at_desk n u k Start ≡ by_plan u k
    (start_by_role n k (u.desks k).stored (length (u.desks k).log) (passing (u.desks k)) o)
start_is n u k o ours role = cc (desk_test n k ours)

-- a free desk makes a ballot, if a number is left
ballot_starts : (a : Aim) (k : ℕ) (u : World) (P : World → Type 0) → IsReached a.n u
    → a.starts ≡ true → IsFree (u.desks k)
    → ((v : World) → Started a k u v → IsFree (v.desks k) → P v) → IsReached a.n (by_plan u k
    (new_ballot a.n k (u.desks k).stored (length (u.desks k).log) (passing (u.desks k))))
    → P (by_plan u k
    (new_ballot a.n k (u.desks k).stored (length (u.desks k).log) (passing (u.desks k))))
ballot_starts a k u P r on free next = go (last_number x.stored (passing x) == 4294967295)
  where
    x : Desk
    x = u.desks k

    b : Ballot
    b = record { number = last_number x.stored (passing x) + 1; desk = k }

    made : Plan
    made = gather a.n k x.stored (length x.log) (passing x) (last_number x.stored (passing x) + 1)

    v : World
    v = carried u k made

    go : (t : Bool) → IsReached a.n (by_plan u k (if t then Err BallotsSpent else Ok made))
        → P (by_plan u k (if t then Err BallotsSpent else Ok made))
    go true reached = next u (started_not a k u r) free
    go false reached =
        next v (started_by a k u (Some (Gathering b (length x.log) []))
        (Some (Tried (last_number x.stored (passing x) + 1)))
        (to_all a.n k (Prepare b (length x.log))) r reached refl refl refl
        (let c = ap (λ s. cost_of s 1) on in omega (arith, c)))
        (subst (λ (y : Desk). IsFree y) (sym (put_self u.desks k (adopt x made))) tt)

-- an idle desk may start
pub idle_starts : (a : Aim) (k before : ℕ) (u : World) (P : World → Type 0) → Has a.desks k
    → IsReached a.n u → (u.desks k).role ≡ Idle
    → ((v : World) → Started a k u v → IsFree (v.desks k) → P v)
    → P (may_start a.starts a.n k before u)
idle_starts a k before u P i r role next =
    let ours : IsDesk a.n k = let m = a.majority in m.ours k i in
    at_start a k before u P r stays
    (λ on. rw (start_is a.n u k Idle ours role) (full on (is_full (length (u.desks k).log))))
  where
    x : Desk
    x = u.desks k

    free : IsFree x
    free = free_idle x role

    stays : P u
    stays = next u (started_not a k u r) free

    full : a.starts ≡ true → (t : Bool) → IsReached a.n (by_plan u k (if t then Err LogFull
        else new_ballot a.n k x.stored (length x.log) (passing x)))
        → P (by_plan u k (if t then Err LogFull
        else new_ballot a.n k x.stored (length x.log) (passing x)))
    full on true reached = stays
    full on false reached = ballot_starts a k u P r on free next reached

-- it has asked all for their votes for the first of its queue, by its ballot
pub record HasAsked (a : Aim) (b : Ballot) (u v : World) : Type 0 where
  pub entry : Entry
  pub more : List Entry
  pub queue : (u.desks a.d).queue ≡ entry ∷ more
  pub role : (v.desks a.d).role ≡ Proposing b (length (u.desks a.d).log) entry []
  pub asked : (k : ℕ) → Has a.desks k
      → IsPending a v (message a.d k (Accept b (length (u.desks a.d).log) entry))

-- a desk that led by this ballot leads on, or has asked, or was outbid, and is free
abbrev pub LeadsOn : Aim → Ballot → World → World → Type 0
LeadsOn a b u v =
    ((v.desks a.d).role ≡ Leading b)
    ⊎ (HasAsked a b u v ⊎ (IsFree (v.desks a.d) × IsBelow b (u.desks a.d).stored.promised))

-- desk d may start, where it leads
leading_starts : (a : Aim) (before : ℕ) (u : World) (b : Ballot) (P : World → Type 0)
    → IsReached a.n u → a.start ≤ length u.sent → (u.desks a.d).role ≡ Leading b
    → ((v : World) → Started a a.d u v → LeadsOn a b u v → P v)
    → P (may_start a.starts a.n a.d before u)
leading_starts a before u b P r late role next =
    let ours : IsDesk a.n a.d = let m = a.majority in m.ours a.d a.mine in
    at_start a a.d before u P r stays (λ on. subst (λ (v : World). IsReached a.n v → P v)
    (sym (start_is a.n u a.d (Leading b) ours role)) (full on (is_full (length x.log))))
  where
    x : Desk
    x = u.desks a.d

    stays : P u
    stays = next u (started_not a a.d u r) (inl role)

    asks : List Entry → Result Plan Refusal
    asks q = Ok (ask_next a.n a.d (length x.log) (passing x) b q)

    by_queue : (q : List Entry) → x.queue ≡ q → IsReached a.n (by_plan u a.d (asks q))
        → P (by_plan u a.d (asks q))
    by_queue [] same reached =
        next (by_plan u a.d (asks []))
        (started_by a a.d u None None [] r reached refl refl refl (omega arith))
        (inl (ap (λ y. y.role) (put_self u.desks a.d (adopt x (makes x.seen None None []))) ∙ role))
    by_queue (e ∷ es) same reached =
        let asking : Option Role = Some (Proposing b (length x.log) e []) in
        let ms : List Message = to_all a.n a.d (Accept b (length x.log) e) in
        let plan : Plan = makes x.seen asking None ms in
        let v : World = carried u a.d plan in
        next v (started_by a a.d u asking None ms r reached refl refl refl (omega arith)) (inr (inl
        (record {
          entry = e;
          more = es;
          queue = same;
          role = ap (λ y. y.role) (put_self u.desks a.d (adopt x plan));
          asked = λ k i. all_pending a u plan (Accept b (length x.log) e) k refl late i;
        })))

    outbid : a.starts ≡ true → (t : Bool) → is_below b x.stored.promised ≡ t
        → IsReached a.n (by_plan u a.d (if t
        then new_ballot a.n a.d x.stored (length x.log) (passing x) else asks x.queue))
        → P (by_plan u a.d (if t
        then new_ballot a.n a.d x.stored (length x.log) (passing x) else asks x.queue))
    outbid on true below reached =
        ballot_starts a a.d u P r on (rw role below)
        (λ v s free. next v s (inr (inr (free, below)))) reached
    outbid on false below reached = by_queue x.queue refl reached

    full : a.starts ≡ true → (t : Bool) → IsReached a.n (by_plan u a.d (if t then Err LogFull
        else (if is_outbid x.stored b then new_ballot a.n a.d x.stored (length x.log) (passing x)
        else asks x.queue))) → P (by_plan u a.d (if t then Err LogFull
        else (if is_outbid x.stored b then new_ballot a.n a.d x.stored (length x.log) (passing x)
        else asks x.queue)))
    full on true reached = stays
    full on false reached = outbid on (is_below b x.stored.promised) refl reached

-- ---- events after which one may start

-- an entry for its next position comes to desk k, which takes it and may start; that pays for this
-- event and for another
pub takes : (a : Aim) (c : ℕ) (w : World) (k from m : ℕ) (e : Entry) → IsReached a.n w
    → Has a.desks from → Has a.desks k → IsPending a w (message from k (Decided m e))
    → length (w.desks k).log ≡ m → length (w.desks k).log < a.top
    → ((v : World) → Started a k (carried w k (takes_in (w.desks k) k from e)) v
    → IsFree (v.desks k) → Decides a (lack a v + suc c) v) → Decides a (lack a w + c) w
takes a c w k from m e r has i told here low next =
    let x : Desk = w.desks k in
    let taken : Plan = takes_in x k from e in
    let u : World = carried w k taken in
    arrives a (lack a u + suc c) (lack a w + c) w (message from k (Decided m e)) taken r has i told
    (taken_at a.n from k x m e here) (omega (arith, lack_pays a w k taken e i refl low))
    (λ reached. idle_starts a k (length x.log) u (λ v. Decides a (lack a u + suc c) v) i reached
    (ap (λ y. y.role) (put_self w.desks k (adopt x taken)))
    (λ v s free. decides_more a (lack a v + suc c) (lack a u + suc c) v
    (let l = lack_started a k u v s in omega (arith, l)) (next v s free)))

-- the vote of desk k comes to desk d, whose votes are a majority then, and which may start
pub wins : (a : Aim) (c : ℕ) (w : World) (k m : ℕ) (b : Ballot) (f : Entry) (ms : List Message)
    → IsReached a.n w → a.start ≤ length w.sent → Has a.desks k
    → IsPending a w (message k a.d (Accepted b m)) → on_body a.n a.d (w.desks a.d) k (Accepted b m)
    ≡ append (passing (w.desks a.d)) f (Leading b) ms → ((v : World)
    → Started a a.d (carried w a.d (append (passing (w.desks a.d)) f (Leading b) ms)) v
    → LeadsOn a b (carried w a.d (append (passing (w.desks a.d)) f (Leading b) ms)) v
    → Decides a (lack a v + c) v) → Decides a (lack a w + suc c) w
wins a c w k m b f ms r late i told same next =
    let x : Desk = w.desks a.d in
    let won : Plan = append (passing x) f (Leading b) ms in
    let u : World = carried w a.d won in
    arrives a (lack a u + c) (lack a w + suc c) w (message k a.d (Accepted b m)) won r i a.mine told
    same (let l = lack_less a w a.d won in omega (arith, l))
    (λ reached. leading_starts a (length x.log) u b (λ v. Decides a (lack a u + c) v) reached
    (late_more a w a.d won late) (ap (λ y. y.role) (put_self w.desks a.d (adopt x won)))
    (λ v s leads. decides_more a (lack a v + c) (lack a u + c) v
    (let l = lack_started a a.d u v s in omega (arith, l)) (next v s leads)))

-- ---- what of it is kept

-- the cost is what it was
pub cost_started : (a : Aim) (k : ℕ) (u v : World) → Started a k u v → cost a v ≤ cost a u
cost_started a k u v s = cost_less a v u (omega (arith, ap (λ z. length z) (s.logs a.d)))

-- of another desk desk d knows nothing
tried_started : (a : Aim) (r k : ℕ) (u v : World) → Started a k u v
    → (u.desks a.d).stored.tried + cost a u ≤ r
    → (k ≡ a.d → (v.desks k).stored.tried + cost a v ≤ r)
    → (v.desks a.d).stored.tried + cost a v ≤ r
tried_started a r k u v s low own = go (k == a.d) refl
  where
    go : (t : Bool) → (k == a.d) ≡ t → (v.desks a.d).stored.tried + cost a v ≤ r
    go true t =
        let same : k ≡ a.d = grind (arith, nat_tests) in
        subst (λ (j : ℕ). (v.desks j).stored.tried + cost a v ≤ r) same (own same)
    go false t =
        let e = ap (λ z. z.stored.tried) (s.others a.d (λ same. grind (arith, nat_tests))) in
        let c = cost_started a k u v s in omega (arith, e, c, low)

pub fit_started : (a : Aim) (r k : ℕ) (u v : World) → Started a k u v → Fit a r u
    → (k ≡ a.d → (v.desks k).stored.tried + cost a v ≤ r) → Fit a r v
fit_started a r k u v s h own =
    record {
      reached = s.reached;
      late = s.late h.late;
      queue = s.queues a.d ∙ h.queue;
      past = let e = ap (λ z. length z) (s.logs a.d) in let p = h.past in omega (arith, e, p);
      lens = λ j i. omega (arith, ap (λ z. length z) (s.logs j), h.lens j i);
      votes = λ j i. subst (λ (o : Option Vote). IsOldOr a o) (sym (s.votes j)) (h.votes j i);
      promised = λ j i. let e = ap (λ q. q.number) (s.promised j) in let l = h.promised j i in
          let c = cost_started a k u v s in omega (arith, e, l, c);
      tried = tried_started a r k u v s h.tried own;
      seen = omega (arith, s.seen a.d, h.seen, cost_started a k u v s);
      under = h.under;
    }

-- the entry that desk d has learned pays for its Start
pub start_paid : (a : Aim) (r : ℕ) (w : World) (e : Entry) (role : Role) (ms : List Message)
    (v : World) → Fit a r w → length (w.desks a.d).log < a.top
    → Started a a.d (carried w a.d (append (passing (w.desks a.d)) e role ms)) v
    → (v.desks a.d).stored.tried + cost a v ≤ r
start_paid a r w e role ms v h low s =
    let x : Desk = w.desks a.d in
    let p : Plan = append (passing x) e role ms in
    let u : World = carried w a.d p in
    let longer : length x.log < length (u.desks a.d).log = let q = ap (λ z. length z.log)
    (put_self w.desks a.d (adopt x p)) in let l = length-append x.log (e ∷ []) in omega
    (arith, q, l) in
    omega (
      arith,
      s.tried,
      ap (λ z. last_number z.stored (passing z))
          (put_self w.desks a.d (adopt x p)),
      cost_started a a.d u v s,
      cost_pays a u w longer low,
      h.promised a.d a.mine,
      h.tried,
      h.seen,
    )

-- once the entry is decided, a Start of desk d takes nothing away
pub decided_started : (a : Aim) (u v : World) → Started a a.d u v → IsDecided a u
    → (v.desks a.d).stored.tried + cost a v ≤ a.number + 2 → IsDecided a v
decided_started a u v s h low =
    record {
      reached = s.reached;
      late = s.late h.late;
      queue = s.queues a.d ∙ h.queue;
      at = h.at;
      past = h.past;
      entry = ap (λ l. slice_get l h.at) (s.logs a.d) ∙ h.entry;
      lens = λ j i. omega (arith, ap (λ z. length z) (s.logs j), h.lens j i);
      promised = λ j i. let e = ap (λ q. q.number) (s.promised j) in let l = h.promised j i in
          let c = cost_started a a.d u v s in omega (arith, e, l, c);
      tried = low;
      seen = omega (arith, s.seen a.d, h.seen, cost_started a a.d u v s);
    }
