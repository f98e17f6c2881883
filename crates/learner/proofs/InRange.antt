-- One step, and every list of events, keeps a desk and what it sends in range.
use Rattle.std.specs.Prelude.{⊤}
use Rattle.std.proofs.Common.{◌≡◌, ℕ, zero, suc, ◌<◌, Bool, true, false, if◌then◌else◌, ◌&&◌, List}
use Rattle.std.proofs.Common.{[], ◌∷◌, ◌++◌, inl, Option, Some, None, Result, Ok, Err, length}
use Rattle.std.proofs.Common.{slice_get, nat_lt, refl, subst, sym, arith}
use Rattle.std.proofs.lemmas.Bool.Decides.{nat_tests}
use Rattle.acceptor.specs.declared.{ballot.Ballot.Ballot, entry.Entry.Entry, stored.Change.Change}
use Rattle.acceptor.specs.declared.message.{Body.Body, Message.Message}
use Rattle.acceptor.specs.declared.message.Body.TheVariants.{Prepare, Promise, Accept, Accepted}
use Rattle.acceptor.specs.declared.message.Body.TheVariants.{Nack, Behind, Decided}
use Rattle.acceptor.specs.declared.stored.Change.TheVariants.{Promised, Voted, Tried, Appended}
use Rattle.proposer.specs.{declared.fault.Refusal.Refusal, Proposing.start, Proposing.tick}
use Rattle.proposer.specs.declared.plan.Plan.{Plan}
use Rattle.learner.specs.{declared.event.DeskEvent.DeskEvent, Worlds.happens, Worlds.run}
use Rattle.learner.specs.{declared.event.WorldEvent.TheVariants.Deliver as DeliverNth, Worlds.after}
use Rattle.learner.specs.{declared.event.WorldEvent.TheVariants.Restart as RestartAt, Steps.done}
use Rattle.learner.specs.{Desks.Desk, Desks.restarted, Desks.passing, Steps.idle, Steps.planned}
use Rattle.learner.specs.{Steps.step, Contents.BodyHolds, Contents.MessagesHold, Contents.DeskHolds}
use Rattle.learner.specs.declared.event.DeskEvent.TheVariants.{Submit, Start, Tick, Deliver}
use Rattle.learner.specs.declared.event.WorldEvent.{WorldEvent, TheVariants.Submit as SubmitAt}
use Rattle.learner.specs.declared.event.WorldEvent.TheVariants.{Start as StartAt, Tick as TickAt}
use Rattle.learner.specs.Steps.{IsDesk, is_desk, is_real, is_in_range, is_heeded, on_body, Done}
use Rattle.learner.{proofs.Goes.put_all, proofs.Runs.desk_from_test}
use Rattle.learner.specs.Worlds.{World, new_world, put, world_after, at_desk, nth_sent, delivered}
use Rattle.learner.specs.Ranges.{IsInRange, IsReal, DeskIsInRange, AreInRange, DoneIsInRange}
use Rattle.learner.specs.Laws.{MessagesAreInRange, DesksAreInRange, StepsStayInRange}
use Rattle.learner.proofs.Contents.{Fits, PlanHolds, ResultHolds, ResultFits, push_holds}
use Rattle.learner.proofs.Contents.{adopt_holds, body_holds, start_holds, tick_holds}
use Rattle.learner.proofs.Ranges.{BodyIsPlaced, ArePlaced, DeskIsPlaced, PlanIsPlaced}
use Rattle.learner.proofs.Ranges.{ResultIsPlaced, body_placed, start_placed, tick_placed}
use Rattle.learner.proofs.Cases.{by_test, submit_cases}

-- any entry will do
abbrev Any : Entry → Type 0
Any e = ⊤

abbrev Real : ℕ → Ballot → Type 0
Real n b = IsReal n b

real_test : (n : ℕ) (b : Ballot) → IsReal n b → is_real n b ≡ true
real_test n b h =
    let r = h.0 in let d = h.1 in let low = d.0 in let high = d.1 in grind (arith, nat_tests)

real_from_test : (n : ℕ) (b : Ballot) → is_real n b ≡ true → IsReal n b
real_from_test n b h =
    (grind (arith, nat_tests), (grind (arith, nat_tests), grind (arith, nat_tests)))

both : (a b : Bool) → a ≡ true → b ≡ true → (a && b) ≡ true
both true true h k = refl
both true false h k = k
both false b h k = absurd cc

first_of_both : (a b : Bool) → (a && b) ≡ true → a ≡ true
first_of_both true b h = refl
first_of_both false b h = absurd cc

second_of_both : (a b : Bool) → (a && b) ≡ true → b ≡ true
second_of_both true b h = h
second_of_both false b h = absurd cc

less_test : (pos : ℕ) → pos < 65536 → nat_lt pos 65536 ≡ true
less_test pos h = grind (arith, nat_tests)

less_from_test : (pos : ℕ) → nat_lt pos 65536 ≡ true → pos < 65536
less_from_test pos h = grind (arith, nat_tests)

-- fields in their ranges pass the test
test_passes : (n : ℕ) (body : Body) → BodyIsPlaced body → BodyHolds Any (Real n) body
    → is_in_range n body ≡ true
test_passes n (Prepare b pos) h k = both _ _ (real_test n b k) (less_test pos h)
test_passes n (Promise b pos None) h k = both _ _ (real_test n b k.0) (less_test pos h)
test_passes n (Promise b pos (Some r)) h k =
    let v = k.1 in
    both _ _ (both _ _ (real_test n b k.0) (less_test pos h)) (real_test n r.ballot v.0)
test_passes n (Accept b pos e) h k = both _ _ (real_test n b k.0) (less_test pos h)
test_passes n (Accepted b pos) h k = both _ _ (real_test n b k) (less_test pos h)
test_passes n (Nack b pos promised) h k =
    both _ _ (both _ _ (real_test n b k.0) (less_test pos h)) (real_test n promised k.1)
test_passes n (Behind len) h k = grind (arith, nat_tests)
test_passes n (Decided pos e) h k = less_test pos h

body_is_placed : (n : ℕ) (body : Body) → is_in_range n body ≡ true → BodyIsPlaced body
body_is_placed n (Prepare b pos) h = less_from_test pos (second_of_both _ _ h)
body_is_placed n (Promise b pos None) h = less_from_test pos (second_of_both _ _ h)
body_is_placed n (Promise b pos (Some r)) h =
    less_from_test pos (second_of_both _ _ (first_of_both _ _ h))
body_is_placed n (Accept b pos e) h = less_from_test pos (second_of_both _ _ h)
body_is_placed n (Accepted b pos) h = less_from_test pos (second_of_both _ _ h)
body_is_placed n (Nack b pos promised) h =
    less_from_test pos (second_of_both _ _ (first_of_both _ _ h))
body_is_placed n (Behind len) h = grind (arith, nat_tests)
body_is_placed n (Decided pos e) h = less_from_test pos h

body_is_real : (n : ℕ) (body : Body) → is_in_range n body ≡ true → BodyHolds Any (Real n) body
body_is_real n (Prepare b pos) h = real_from_test n b (first_of_both _ _ h)
body_is_real n (Promise b pos None) h = (real_from_test n b (first_of_both _ _ h), tt)
body_is_real n (Promise b pos (Some r)) h = (
  real_from_test n b (first_of_both _ _ (first_of_both _ _ h)),
  (real_from_test n r.ballot (second_of_both _ _ h), tt),
)
body_is_real n (Accept b pos e) h = (real_from_test n b (first_of_both _ _ h), tt)
body_is_real n (Accepted b pos) h = real_from_test n b (first_of_both _ _ h)
body_is_real n (Nack b pos promised) h = (
  real_from_test n b (first_of_both _ _ (first_of_both _ _ h)),
  real_from_test n promised (second_of_both _ _ h),
)
body_is_real n (Behind len) h = tt
body_is_real n (Decided pos e) h = tt

messages_in_range : (n d : ℕ) (ms : List Message) → IsDesk n d → ArePlaced n d ms
    → MessagesHold Any (Real n) ms → AreInRange n d ms
messages_in_range n d [] ours h k = tt
messages_in_range n d (m ∷ ms) ours h k =
    let here = h.0 in (
      (
        here.0,
        record {
          from = subst (λ j. IsDesk n j) (sym here.0) ours;
          to = here.1;
          body = test_passes n m.body here.2 k.0;
        },
      ),
      messages_in_range n d ms ours h.1 k.1,
    )

placed : (n : ℕ) (x : Desk) → DeskIsInRange n x → DeskIsPlaced x
placed n x h = record { log = h.log; role = h.role; vote = h.vote }

plan_in_range : (n d : ℕ) (x : Desk) (p : Plan) → IsDesk n d → DeskIsInRange n x
    → PlanIsPlaced n d x p → PlanHolds Any (Real n) p → DoneIsInRange n d (Ok (done x p))
plan_in_range n d x p ours h k l =
    let desk = k.desk in (
      record {
        log = desk.log;
        role = desk.role;
        vote = desk.vote;
        ballots = adopt_holds Any (Real n) x p h.ballots l;
      },
      messages_in_range n d p.messages ours k.messages l.messages,
    )

-- a ballot that a desk of the hall makes is real
makes_real : (n d : ℕ) (r : Result Plan Refusal) → IsDesk n d → ResultFits (Real n) d r
makes_real n d (Err why) ours = tt
makes_real n d (Ok p) ours = go p.change
  where
    go : (c : Option Change) → Fits (Real n) d c
    go None = tt
    go (Some (Promised b)) = tt
    go (Some (Voted v)) = tt
    go (Some (Tried r)) = λ one. (one, ours)
    go (Some (Appended e)) = tt

result_in_range : (n d : ℕ) (x : Desk) (r : Result Plan Refusal) → IsDesk n d → DeskIsInRange n x
    → ResultIsPlaced n d x r → ResultHolds Any (Real n) r → DoneIsInRange n d (planned x r)
result_in_range n d x (Err why) ours h k l = tt
result_in_range n d x (Ok p) ours h k l = plan_in_range n d x p ours h k l

submit_in_range : (n d : ℕ) (x : Desk) (e : Entry) → DeskIsInRange n x
    → DoneIsInRange n d (step n d x (Submit e))
submit_in_range n d x e h =
    let was : DeskHolds Any (Real n) x = h.ballots in
    submit_cases (DoneIsInRange n d) n d x e tt tt (
      record {
        log = h.log;
        role = h.role;
        vote = h.vote;
        ballots =
            record {
              promised = was.promised;
              vote = was.vote;
              log = was.log;
              role = was.role;
              queue = push_holds Any x.queue e was.queue tt;
            };
      },
      tt,
    )

-- a step of a desk in range leaves it in range, and what it sends is in range
pub step_in_range : StepsStayInRange
step_in_range n d x (Submit e) ours h = submit_in_range n d x e h
step_in_range n d x Start ours h =
    let r = start n d x.stored (length x.log) (passing x) in
    result_in_range n d x r ours h (start_placed n d x (placed n x h))
    (start_holds Any (Real n) n d x h.ballots (makes_real n d r ours))
step_in_range n d x Tick ours h =
    let r = tick n d x.stored (length x.log) (passing x) in
    result_in_range n d x r ours h (tick_placed n d x (placed n x h))
    (tick_holds Any (Real n) n d x h.ballots (makes_real n d r ours))
step_in_range n d x (Deliver m) ours h = go (is_heeded n d m) refl
  where
    go : (t : Bool) → is_heeded n d m ≡ t
        → DoneIsInRange n d (if t then Ok (done x (on_body n d x m.from m.body)) else Ok (idle x))
    go true e =
        let theirs : IsDesk n m.from =
        desk_from_test n m.from (second_of_both _ _ (first_of_both _ _ e)) in
        let fits = second_of_both _ _ e in
        plan_in_range n d x (on_body n d x m.from m.body) ours h
        (body_placed n d x m.from m.body theirs (placed n x h) (body_is_placed n m.body fits))
        (body_holds Any (Real n) (λ b r. r.0) n d x m.from m.body h.ballots
        (body_is_real n m.body fits))
    go false e = (h, tt)

-- every message that was sent is in range
abbrev AllAreInRange : ℕ → List Message → Type 0
AllAreInRange n [] = Unit {0}
AllAreInRange n (m ∷ ms) = IsInRange n m × AllAreInRange n ms

record WorldIsInRange (n : ℕ) (w : World) : Type 0 where
  desks : (d : ℕ) → DeskIsInRange n (w.desks d)
  sent : AllAreInRange n w.sent

all_append : (n d : ℕ) (xs ys : List Message) → AllAreInRange n xs → AreInRange n d ys
    → AllAreInRange n (xs ++ ys)
all_append n d [] [] h k = tt
all_append n d [] (y ∷ ys) h k = let here = k.0 in (here.1, all_append n d [] ys tt k.1)
all_append n d (x ∷ xs) ys h k = (h.0, all_append n d xs ys h.1 k)

all_get : (n : ℕ) (xs : List Message) (k : ℕ) (m : Message) → AllAreInRange n xs
    → slice_get xs k ≡ Some m → IsInRange n m
all_get n [] k m h e = absurd cc
all_get n (x ∷ xs) zero m h e =
    let same : x ≡ m = cc in subst (λ (y : Message). IsInRange n y) same h.0
all_get n (x ∷ xs) (suc k) m h e = all_get n xs k m h.1 e

after_in_range : (n : ℕ) (w : World) (d : ℕ) (r : Result Done Refusal) → WorldIsInRange n w
    → DoneIsInRange n d r → WorldIsInRange n (world_after w d r)
after_in_range n w d (Err why) h k = h
after_in_range n w d (Ok r) h k =
    record {
      desks = put_all (λ j z. DeskIsInRange n z) w.desks d r.desk k.0 h.desks;
      sent = all_append n d w.sent r.messages h.sent k.1;
    }

at_desk_in_range : (n : ℕ) (w : World) (d : ℕ) (event : DeskEvent) → WorldIsInRange n w
    → WorldIsInRange n (at_desk n w d event)
at_desk_in_range n w d event h =
    by_test (WorldIsInRange n) (is_desk n d) (world_after w d (step n d (w.desks d) event)) w (λ e.
    after_in_range n w d (step n d (w.desks d) event) h
    (step_in_range n d (w.desks d) event (desk_from_test n d e) (h.desks d))) (λ e. h)

happens_in_range : (n : ℕ) (w : World) (event : WorldEvent) → WorldIsInRange n w
    → WorldIsInRange n (happens n w event)
happens_in_range n w (SubmitAt d e) h = at_desk_in_range n w d (Submit e) h
happens_in_range n w (StartAt d) h = at_desk_in_range n w d Start h
happens_in_range n w (TickAt d) h = at_desk_in_range n w d Tick h
happens_in_range n w (DeliverNth k) h = go (nth_sent w.sent k)
  where
    go : (o : Option Message) → WorldIsInRange n (delivered n w o)
    go None = h
    go (Some m) = at_desk_in_range n w m.to (Deliver m) h
happens_in_range n w (RestartAt d) h =
    by_test (WorldIsInRange n) (is_desk n d)
    (record { desks = put w.desks d (restarted (w.desks d)); sent = w.sent }) w (λ t. record {
      desks = put_all (λ j z. DeskIsInRange n z) w.desks d (restarted (w.desks d)) again h.desks;
      sent = h.sent;
    }) (λ t. h)
  where
    was : DeskIsInRange n (w.desks d)
    was = h.desks d

    ballots : DeskHolds Any (Real n) (w.desks d)
    ballots = was.ballots

    again : DeskIsInRange n (restarted (w.desks d))
    again =
        record {
          log = was.log;
          role = tt;
          vote = was.vote;
          ballots =
              record {
                promised = ballots.promised;
                vote = ballots.vote;
                log = ballots.log;
                role = tt;
                queue = tt;
              };
        }

run_in_range : (n : ℕ) (w : World) (events : List WorldEvent) → WorldIsInRange n w
    → WorldIsInRange n (run n w events)
run_in_range n w [] h = h
run_in_range n w (e ∷ es) h = run_in_range n (happens n w e) es (happens_in_range n w e h)

after_all_in_range : (n : ℕ) (events : List WorldEvent) → WorldIsInRange n (after n events)
after_all_in_range n events =
    run_in_range n new_world events (record {
      desks =
          λ d.
          record {
            log = omega arith;
            role = tt;
            vote = tt;
            ballots = record { promised = inl refl; vote = tt; log = tt; role = tt; queue = tt };
          };
      sent = tt;
    })

pub messages_are_in_range : MessagesAreInRange
messages_are_in_range n events k m e =
    all_get n (after n events).sent k m (after_all_in_range n events).sent e

pub desks_are_in_range : DesksAreInRange
desks_are_in_range n events d = (after_all_in_range n events).desks d
