-- Every list of events keeps the invariant.
use Rattle.std.proofs.Common.{◌≡◌, ℕ, zero, suc, ◌≤◌, true, List, [], ◌∷◌, ◌++◌, Option, Some, None}
use Rattle.std.proofs.Common.{Result, Ok, Err, length, refl, sym, ap, ◌∙◌, append_assoc, subst}
use Rattle.std.proofs.Common.{arith}
use Rattle.std.proofs.lemmas.{List.append-nil, Bool.Decides.nat_tests}
use Rattle.learner.proofs.{Evolves.prefix_self, Goes.Follows, Goes.follows_self, Goes.goes_follows}
use Rattle.learner.proofs.{Evolves.prefix_trans, Quiet.plain_none, Quiet.says_goes, Quiet.idle_goes}
use Rattle.learner.proofs.{Sends.sent_at, Promised.promise_heard_goes, Counted.accepted_goes}
use Rattle.learner.specs.{Invariant.IsSound, declared.event.DeskEvent.DeskEvent, Laws.IsPrefix}
use Rattle.learner.specs.{Desks.restarted, Desks.adopt, Desks.passing, Steps.on_body, Steps.step}
use Rattle.learner.proofs.Prepared.{PlanGoes, prepare_goes, accept_goes}
use Rattle.learner.proofs.Learned.{nack_goes, decided_goes, behind_goes}
use Rattle.learner.proofs.Begun.{ResultGoes, start_goes, tick_goes}
use Rattle.acceptor.specs.declared.{entry.Entry.Entry, message.Body.Body, message.Message.Message}
use Rattle.acceptor.specs.Messages.{Sent}
use Rattle.acceptor.specs.declared.message.Body.TheVariants.{Prepare, Promise, Accept, Accepted}
use Rattle.acceptor.specs.declared.message.Body.TheVariants.{Nack, Behind, Decided}
use Rattle.proposer.specs.declared.plan.Plan.{Plan}
use Rattle.proposer.specs.{Proposing.start, Proposing.tick, declared.fault.Refusal.Refusal}
use Rattle.learner.specs.declared.event.WorldEvent.{WorldEvent, TheVariants.Submit as SubmitAt}
use Rattle.learner.specs.Worlds.{World, new_world, put, world_after, at_desk, nth_sent, delivered}
use Rattle.learner.specs.Worlds.{restart_at, happens, run, after}
use Rattle.learner.specs.declared.event.DeskEvent.TheVariants.{Submit, Start, Tick, Deliver}
use Rattle.learner.specs.declared.event.WorldEvent.TheVariants.{Start as StartAt, Tick as TickAt}
use Rattle.learner.specs.declared.event.WorldEvent.TheVariants.{Deliver as DeliverNth}
use Rattle.learner.specs.declared.event.WorldEvent.TheVariants.{Restart as RestartAt}
use Rattle.learner.specs.Steps.{IsDesk, Done, planned, done, idle, is_desk, is_heeded}
use Rattle.learner.proofs.Cases.{by_test, submit_cases}

pub desk_from_test : (n d : ℕ) → is_desk n d ≡ true → IsDesk n d
desk_from_test n d h = (grind (arith, nat_tests), grind (arith, nat_tests))

body_goes : (n : ℕ) (w : World) (d from : ℕ) → IsSound n w → (1 ≤ d) × (d ≤ n)
    → (1 ≤ from) × (from ≤ n) → (body : Body) → Sent w.sent from body
    → PlanGoes n w d (on_body n d (w.desks d) from body)
body_goes n w d from sound ours theirs (Prepare b pos) said = prepare_goes n w d from sound b pos
body_goes n w d from sound ours theirs (Promise b pos vote) said =
    promise_heard_goes n w d from sound ours theirs b pos vote said
body_goes n w d from sound ours theirs (Accept b pos e) said =
    accept_goes n w d from sound b pos e (from, said)
body_goes n w d from sound ours theirs (Accepted b pos) said =
    accepted_goes n w d from sound theirs b pos said
body_goes n w d from sound ours theirs (Nack b pos promised) said = nack_goes n w d sound b promised
body_goes n w d from sound ours theirs (Behind len) said = behind_goes n w d from sound len
body_goes n w d from sound ours theirs (Decided pos e) said =
    decided_goes n w d from sound pos e (sound.messages from (Decided pos e) said)

-- a step that keeps what it has to keep leaves a sound world
abbrev DoneFollows : ℕ → World → ℕ → Result Done Refusal → Type 0
DoneFollows n w d r = Follows n w (world_after w d r)

planned_follows : (n : ℕ) (w : World) (d : ℕ) → IsSound n w → (r : Result Plan Refusal)
    → ResultGoes n w d r → DoneFollows n w d (planned (w.desks d) r)
planned_follows n w d sound (Ok p) h = goes_follows n w d (adopt (w.desks d) p) p.messages sound h
planned_follows n w d sound (Err why) h = follows_self n w sound

submit_follows : (n : ℕ) (w : World) (d : ℕ) (e : Entry) → IsSound n w
    → DoneFollows n w d (step n d (w.desks d) (Submit e))
submit_follows n w d e sound =
    submit_cases (DoneFollows n w d) n d (w.desks d) e (follows_self n w sound)
    (follows_self n w sound)
    (goes_follows n w d (record (w.desks d) { queue = (w.desks d).queue ++ e ∷ [] }) [] sound
    (says_goes n w d sound ((w.desks d).queue ++ e ∷ []) (w.desks d).seen []
    (plain_none n w.sent d)))

deliver_follows : (n : ℕ) (w : World) (d : ℕ) (m : Message) → IsSound n w → (1 ≤ d) × (d ≤ n)
    → Sent w.sent m.from m.body → DoneFollows n w d (step n d (w.desks d) (Deliver m))
deliver_follows n w d m sound ours said =
    by_test (DoneFollows n w d) (is_heeded n d m)
    (Ok (done (w.desks d) (on_body n d (w.desks d) m.from m.body))) (Ok (idle (w.desks d))) (λ e.
    let theirs : is_desk n m.from ≡ true = grind (arith, nat_tests) in
    goes_follows n w d _ _ sound
    (body_goes n w d m.from sound ours (desk_from_test n m.from theirs) m.body said)) (λ e.
    goes_follows n w d _ [] sound
    (says_goes n w d sound (w.desks d).queue (w.desks d).seen [] (plain_none n w.sent d)))

at_desk_follows : (n : ℕ) (w : World) (d : ℕ) (event : DeskEvent) → IsSound n w
    → ((1 ≤ d) × (d ≤ n) → DoneFollows n w d (step n d (w.desks d) event))
    → Follows n w (at_desk n w d event)
at_desk_follows n w d event sound h =
    by_test (Follows n w) (is_desk n d) (world_after w d (step n d (w.desks d) event)) w
    (λ e. h (desk_from_test n d e)) (λ e. follows_self n w sound)

restart_follows : (n : ℕ) (w : World) (d : ℕ) → IsSound n w → Follows n w (restart_at n w d)
restart_follows n w d sound =
    by_test (Follows n w) (is_desk n d)
    (record { desks = put w.desks d (restarted (w.desks d)); sent = w.sent }) w (λ t.
    subst (λ (s : List Message).
    Follows n w (record { desks = put w.desks d (restarted (w.desks d)); sent = s }))
    (append-nil w.sent) (goes_follows n w d (restarted (w.desks d)) [] sound
    (idle_goes n w d sound [] 0 [] (plain_none n w.sent d)))) (λ t. follows_self n w sound)

-- one event
pub happens_follows : (n : ℕ) (w : World) (event : WorldEvent) → IsSound n w
    → Follows n w (happens n w event)
happens_follows n w (SubmitAt d e) sound =
    at_desk_follows n w d (Submit e) sound (λ ours. submit_follows n w d e sound)
happens_follows n w (StartAt d) sound =
    at_desk_follows n w d Start sound (λ ours.
    planned_follows n w d sound
    (start n d (w.desks d).stored (length (w.desks d).log) (passing (w.desks d)))
    (start_goes n w d sound ours))
happens_follows n w (TickAt d) sound =
    at_desk_follows n w d Tick sound (λ ours.
    planned_follows n w d sound
    (tick n d (w.desks d).stored (length (w.desks d).log) (passing (w.desks d)))
    (tick_goes n w d sound ours))
happens_follows n w (DeliverNth k) sound = go (nth_sent w.sent k) (sent_nth k)
  where
    sent_nth : (k : ℕ) (m : Message) → nth_sent w.sent k ≡ Some m → Sent w.sent m.from m.body
    sent_nth zero m e = absurd cc
    sent_nth (suc j) m e = sent_at w.sent j m e

    go : (o : Option Message) → ((m : Message) → o ≡ Some m → Sent w.sent m.from m.body)
        → Follows n w (delivered n w o)
    go None said = follows_self n w sound
    go (Some m) said =
        at_desk_follows n w m.to (Deliver m) sound
        (λ ours. deliver_follows n w m.to m sound ours (said m refl))
happens_follows n w (RestartAt d) sound = restart_follows n w d sound

pub new_sound : (n : ℕ) → IsSound n new_world
new_sound n =
    record {
      desks = λ d. record { vote = tt; log = λ pos e h. absurd cc; role = tt };
      messages = λ d body h. elim h [ ];
      one = λ s t b pos e f h k. elim h [ ];
      kept = λ d b at v c pos h k. elim h [ ];
    }

pub run_sound : (n : ℕ) (w : World) (events : List WorldEvent) → IsSound n w
    → IsSound n (run n w events)
run_sound n w [] sound = sound
run_sound n w (e ∷ es) sound = run_sound n (happens n w e) es (happens_follows n w e sound).sound

pub after_sound : (n : ℕ) (events : List WorldEvent) → IsSound n (after n events)
after_sound n events = run_sound n new_world events (new_sound n)

-- what was sent stays sent
pub run_more : (n : ℕ) (w : World) (events : List WorldEvent) → IsSound n w
    → (rest : List Message) × (w.sent ++ rest ≡ (run n w events).sent)
run_more n w [] sound = ([], append-nil w.sent)
run_more n w (e ∷ es) sound =
    let f = happens_follows n w e sound in
    let first = f.more in
    let next = run_more n (happens n w e) es f.sound in (
      first.0 ++ next.0,
      sym (append_assoc w.sent first.0 next.0)
          ∙ (ap (λ s. s ++ next.0) first.1 ∙ next.1),
    )

-- a log only grows
pub run_log : (n : ℕ) (w : World) (events : List WorldEvent) → IsSound n w → (d : ℕ)
    → IsPrefix (w.desks d).log ((run n w events).desks d).log
run_log n w [] sound d = prefix_self (w.desks d).log
run_log n w (e ∷ es) sound d =
    let f = happens_follows n w e sound in
    prefix_trans (w.desks d).log ((happens n w e).desks d).log
    ((run n (happens n w e) es).desks d).log (f.evolves d).log
    (run_log n (happens n w e) es f.sound d)

pub run_append : (n : ℕ) (w : World) (xs ys : List WorldEvent)
    → run n w (xs ++ ys) ≡ run n (run n w xs) ys
run_append n w [] ys = refl
run_append n w (x ∷ xs) ys = run_append n (happens n w x) xs ys
