-- What is after every list of events: a desk's vote is at its log's length or before, and a desk
-- that waits for votes has not heard a majority.
use Rattle.learner.proofs.Cases.{nack_cases, behind_cases, decided_cases, prepare_cases}
use Rattle.learner.proofs.Cases.{promise_cases, accept_cases, accepted_cases, by_test, ballot_cases}
use Rattle.learner.proofs.{Cases.start_cases, Cases.tick_cases, Cases.submit_cases, Goes.put_all}
use Rattle.std.proofs.Common.{◌≡◌, ℕ, ◌≤◌, ◌+◌, false, List, [], ◌∷◌, ◌++◌, Option, Some, None}
use Rattle.std.proofs.Common.{Result, Ok, Err, length, slice_get, arith, length-append}
use Rattle.std.proofs.lemmas.Bool.Decides.{nat_tests}
use Rattle.acceptor.specs.declared.{ballot.Ballot.Ballot, entry.Entry.Entry, stored.Vote.Vote}
use Rattle.acceptor.specs.Storing.{stored_after, log_after}
use Rattle.acceptor.specs.{Messages.to_others, declared.stored.Change.Change, Answers.elsewhere}
use Rattle.acceptor.specs.declared.message.{Body.Body, Message.Message}
use Rattle.acceptor.specs.declared.message.Body.TheVariants.{Prepare, Promise, Accept, Accepted}
use Rattle.acceptor.specs.declared.message.Body.TheVariants.{Nack, Behind, Decided}
use Rattle.acceptor.specs.declared.stored.Change.TheVariants.{Promised, Voted, Tried, Appended}
use Rattle.proposer.specs.{declared.fault.Refusal.Refusal, declared.plan.Plan.Plan, Proposing.tick}
use Rattle.proposer.specs.{Plans.append, Plans.role_after, Plans.become, Proposing.highest}
use Rattle.proposer.specs.declared.role.{PromisingDesk.PromisingDesk, Role.Role}
use Rattle.proposer.specs.declared.role.Role.TheVariants.{Gathering, Proposing, Leading}
use Rattle.proposer.specs.Proposing.{choice, propose, is_majority, new_ballot, ask_next, start}
use Rattle.learner.specs.Desks.{Desk, adopt, passing, restarted}
use Rattle.learner.specs.Worlds.{new_world, run, World, world_after, nth_sent, delivered, at_desk}
use Rattle.learner.specs.{Worlds.happens, Steps.planned, declared.event.DeskEvent.DeskEvent}
use Rattle.learner.specs.{Worlds.after, declared.event.WorldEvent.TheVariants.Restart as RestartAt}
use Rattle.learner.specs.Steps.{step, Done, answered, on_body, is_desk, is_heeded, done, idle}
use Rattle.learner.specs.declared.event.WorldEvent.{TheVariants.Submit as SubmitAt, WorldEvent}
use Rattle.learner.specs.declared.event.WorldEvent.TheVariants.{Deliver as DeliverNth}
use Rattle.learner.specs.declared.event.WorldEvent.TheVariants.{Start as StartAt, Tick as TickAt}
use Rattle.learner.specs.declared.event.DeskEvent.TheVariants.{Submit, Start, Tick, Deliver}

-- the vote is at this position or an earlier one
abbrev pub IsVotedBy : ℕ → Option Vote → Type 0
IsVotedBy len None = Unit {0}
IsVotedBy len (Some v) = v.pos ≤ len

-- where the role waits for votes, it has not heard a majority
abbrev pub Waits : ℕ → Role → Type 0
Waits n (Proposing b pos e heard) = is_majority n (length heard) ≡ false
Waits n _ = Unit {0}

pub record IsSteady (n : ℕ) (x : Desk) : Type 0 where
  pub vote : IsVotedBy (length x.log) x.stored.vote
  pub role : Waits n x.role

-- the change, where it is a vote, is at the log's length or before
abbrev ChangeFits : ℕ → Option Change → Type 0
ChangeFits len (Some (Voted v)) = v.pos ≤ len
ChangeFits len _ = Unit {0}

abbrev RoleFits : ℕ → Option Role → Type 0
RoleFits n None = Unit {0}
RoleFits n (Some r) = Waits n r

-- the plan leaves a steady desk steady
abbrev PlanFits : ℕ → ℕ → Plan → Type 0
PlanFits n len p = ChangeFits len p.change × RoleFits n p.role

abbrev ResultFits : ℕ → ℕ → Result Plan Refusal → Type 0
ResultFits n len (Ok p) = PlanFits n len p
ResultFits n len (Err why) = Unit {0}

nobody_heard : (n : ℕ) → is_majority n 0 ≡ false
nobody_heard n = grind (arith, nat_tests)

module _ (n d : ℕ) (x : Desk) where
  ballot_fits : ResultFits n (length x.log) (new_ballot n d x.stored (length x.log) (passing x))
  ballot_fits =
      ballot_cases (ResultFits n (length x.log)) n d x.stored (length x.log) (passing x) tt (tt, tt)

  next_fits : (b : Ballot) (q : List Entry)
      → PlanFits n (length x.log) (ask_next n d (length x.log) (passing x) b q)
  next_fits b [] = (tt, tt)
  next_fits b (e ∷ es) = (tt, nobody_heard n)

  start_fits : ResultFits n (length x.log) (start n d x.stored (length x.log) (passing x))
  start_fits =
      start_cases (ResultFits n (length x.log)) n d x.stored (length x.log) (passing x) tt (tt, tt)
      (λ f. ballot_fits) (λ b e f. next_fits b x.queue)

  tick_fits : ResultFits n (length x.log) (tick n d x.stored (length x.log) (passing x))
  tick_fits =
      tick_cases (ResultFits n (length x.log)) n d x.stored (length x.log) (passing x) (tt, tt)
      (λ w. ballot_fits) (λ b pos heard e. ballot_fits) (λ b pos f heard e. (tt, tt))
      (λ b e w. next_fits b x.queue)

  else_fits : (from pos : ℕ) (o : Option Entry)
      → PlanFits n (length x.log) (answered d x from (elsewhere o (length x.log) pos))
  else_fits from pos None = (tt, tt)
  else_fits from pos (Some e) = (tt, tt)

  propose_fits : (own : Ballot) (at : ℕ) (o : Option Entry)
      → PlanFits n (length x.log) (propose n d (passing x) own at o)
  propose_fits own at None = (tt, tt)
  propose_fits own at (Some e) = (tt, nobody_heard n)

  body_fits : (from : ℕ) (body : Body) → PlanFits n (length x.log) (on_body n d x from body)
  body_fits from (Prepare b pos) =
      prepare_cases (λ r. PlanFits n (length x.log) (answered d x from r)) x.stored (length x.log)
      (slice_get x.log pos) b pos (else_fits from pos (slice_get x.log pos)) (λ same e. (tt, tt))
      (λ e. (tt, tt))
  body_fits from (Promise b pos vote) =
      promise_cases (PlanFits n (length x.log)) n d (passing x) from b pos vote (tt, tt)
      (λ own at heard e i same new.
      let more : List PromisingDesk = record { desk = from; vote = vote } ∷ heard in
      by_test (PlanFits n (length x.log)) (is_majority n (length more))
      (propose n d (passing x) own at (choice (highest more) x.queue))
      (become (passing x) (Gathering own at more) [])
      (λ t. propose_fits own at (choice (highest more) x.queue)) (λ t. (tt, tt)))
  body_fits from (Accept b pos e) =
      accept_cases (λ r. PlanFits n (length x.log) (answered d x from r)) x.stored (length x.log)
      (slice_get x.log pos) b pos e (else_fits from pos (slice_get x.log pos)) (λ f. (tt, tt))
      (λ same f. let here : pos ≤ length x.log = omega arith in (here, tt))
  body_fits from (Accepted b pos) =
      accepted_cases (PlanFits n (length x.log)) n d (passing x) from b pos (tt, tt)
      (λ own at f heard e i same new.
      by_test (PlanFits n (length x.log)) (is_majority n (length (from ∷ heard)))
      (append (passing x) f (Leading own) (to_others n d (Decided at f)))
      (become (passing x) (Proposing own at f (from ∷ heard)) []) (λ t. (tt, tt)) (λ t. (tt, t)))
  body_fits from (Nack b pos promised) =
      nack_cases (PlanFits n (length x.log)) (passing x) b promised (tt, tt) (tt, tt)
  body_fits from (Behind len) =
      behind_cases (PlanFits n (length x.log)) d x.log (passing x) from len (tt, tt) (λ t. (tt, tt))
  body_fits from (Decided pos e) =
      decided_cases (PlanFits n (length x.log)) d x.log (passing x) from pos e (tt, tt) (tt, tt)
      (λ same. (tt, tt))

voted_more : (k l : ℕ) (v : Option Vote) → k ≤ l → IsVotedBy k v → IsVotedBy l v
voted_more k l None h i = tt
voted_more k l (Some v) h i = omega (arith, h, i)

adopt_steady : (n : ℕ) (x : Desk) (p : Plan) → PlanFits n (length x.log) p → IsSteady n x
    → IsSteady n (adopt x p)
adopt_steady n x p h v = record { vote = vote p.change h.0; role = role p.role h.1 }
  where
    vote : (c : Option Change) → ChangeFits (length x.log) c
        → IsVotedBy (length (log_after x.log c)) (stored_after x.stored c).vote
    vote None k = v.vote
    vote (Some (Promised b)) k = v.vote
    vote (Some (Voted w)) k = k
    vote (Some (Tried r)) k = v.vote
    vote (Some (Appended e)) k =
        voted_more (length x.log) (length (x.log ++ e ∷ [])) x.stored.vote
        (let a = length-append x.log (e ∷ []) in omega (arith, a)) v.vote

    role : (o : Option Role) → RoleFits n o → Waits n (role_after x.role o)
    role None k = v.role
    role (Some r) k = k

abbrev DoneIsSteady : ℕ → Result Done Refusal → Type 0
DoneIsSteady n (Ok r) = IsSteady n r.desk
DoneIsSteady n (Err why) = Unit {0}

planned_steady : (n : ℕ) (x : Desk) (r : Result Plan Refusal) → ResultFits n (length x.log) r
    → IsSteady n x → DoneIsSteady n (planned x r)
planned_steady n x (Ok p) h v = adopt_steady n x p h v
planned_steady n x (Err why) h v = tt

step_steady : (n d : ℕ) (x : Desk) (event : DeskEvent) → IsSteady n x
    → DoneIsSteady n (step n d x event)
step_steady n d x (Submit e) v =
    submit_cases (DoneIsSteady n) n d x e tt tt (record { vote = v.vote; role = v.role })
step_steady n d x Start v =
    planned_steady n x (start n d x.stored (length x.log) (passing x)) (start_fits n d x) v
step_steady n d x Tick v =
    planned_steady n x (tick n d x.stored (length x.log) (passing x)) (tick_fits n d x) v
step_steady n d x (Deliver m) v =
    by_test (DoneIsSteady n) (is_heeded n d m) (Ok (done x (on_body n d x m.from m.body)))
    (Ok (idle x))
    (λ t. adopt_steady n x (on_body n d x m.from m.body) (body_fits n d x m.from m.body) v) (λ t. v)

abbrev AllAreSteady : ℕ → World → Type 0
AllAreSteady n w = (k : ℕ) → IsSteady n (w.desks k)

after_steady : (n : ℕ) (w : World) (d : ℕ) (r : Result Done Refusal) → DoneIsSteady n r
    → AllAreSteady n w → AllAreSteady n (world_after w d r)
after_steady n w d (Ok r) h v = put_all (λ j x. IsSteady n x) w.desks d r.desk h v
after_steady n w d (Err why) h v = v

at_steady : (n : ℕ) (w : World) (d : ℕ) (event : DeskEvent) → AllAreSteady n w
    → AllAreSteady n (at_desk n w d event)
at_steady n w d event v =
    by_test (AllAreSteady n) (is_desk n d) (world_after w d (step n d (w.desks d) event)) w (λ t.
    after_steady n w d (step n d (w.desks d) event) (step_steady n d (w.desks d) event (v d)) v)
    (λ t. v)

happens_steady : (n : ℕ) (w : World) (event : WorldEvent) → AllAreSteady n w
    → AllAreSteady n (happens n w event)
happens_steady n w (SubmitAt d e) v = at_steady n w d (Submit e) v
happens_steady n w (StartAt d) v = at_steady n w d Start v
happens_steady n w (TickAt d) v = at_steady n w d Tick v
happens_steady n w (DeliverNth k) v = go (nth_sent w.sent k)
  where
    go : (o : Option Message) → AllAreSteady n (delivered n w o)
    go None = v
    go (Some m) = at_steady n w m.to (Deliver m) v
happens_steady n w (RestartAt d) v =
    by_test (AllAreSteady n) (is_desk n d) _ _
    (λ t. put_all (λ j x. IsSteady n x) w.desks d (restarted (w.desks d))
    (let h = v d in record { vote = h.vote; role = tt }) v) (λ t. v)

run_steady : (n : ℕ) (w : World) (events : List WorldEvent) → AllAreSteady n w
    → AllAreSteady n (run n w events)
run_steady n w [] v = v
run_steady n w (e ∷ es) v = run_steady n (happens n w e) es (happens_steady n w e v)

-- after every list of events every desk is steady
pub all_are_steady : (n : ℕ) (events : List WorldEvent) → AllAreSteady n (after n events)
all_are_steady n events = run_steady n new_world events (λ k. record { vote = tt; role = tt })
