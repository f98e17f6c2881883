-- Every entry was submitted, and every ballot tried.
use Rattle.std.proofs.Common.{◌≡◌, suc, ◌≤◌, [], ◌∷◌, ◌⊎◌, inl, inr, Ok, Err, refl, sym, IsOk, ℕ}
use Rattle.std.proofs.Common.{zero, Bool, true, List, ◌++◌, Some, None, subst, arith, if◌then◌else◌}
use Rattle.std.proofs.Common.{Option, Result, length, slice_get, append_assoc}
use Rattle.std.proofs.Math.Seq.{take-append_seam}
use Rattle.learner.specs.{Invariant.IsSound, declared.event.DeskEvent.DeskEvent, Worlds.happens}
use Rattle.learner.specs.{Desks.Desk, Desks.restarted, Laws.LogsAreSubmitted, Laws.ContentsStand}
use Rattle.learner.specs.{Desks.adopt, Desks.passing, Submitted.IsTaken, Submitted.IsSubmitted}
use Rattle.learner.specs.{Worlds.run, declared.event.WorldEvent.TheVariants.Deliver as DeliverNth}
use Rattle.learner.specs.{Worlds.after, declared.event.WorldEvent.TheVariants.Restart as RestartAt}
use Rattle.learner.proofs.{Goes.put_all, Goes.put_here, Contents.start_holds, Contents.tick_holds}
use Rattle.learner.proofs.Runs.{desk_from_test, happens_follows, new_sound, run_append}
use Rattle.learner.specs.Contents.{ReportHolds, BodyHolds, MessagesHold, VoteHolds, HeardHolds}
use Rattle.learner.specs.Contents.{RoleHolds, DeskHolds, WorldHolds, IsTried}
use Rattle.learner.proofs.Contents.{Fits, ResultHolds, ResultFits, push_holds, get_holds}
use Rattle.learner.proofs.Contents.{messages_append, message_at, adopt_holds, body_holds}
use Rattle.acceptor.specs.declared.{ballot.Ballot.Ballot, entry.Entry.Entry, stored.Vote.Vote}
use Rattle.acceptor.specs.{Ballots.no_ballot, declared.stored.Change.Change, Storing.stored_after}
use Rattle.acceptor.specs.declared.message.{Report.Report, Body.Body, Message.Message}
use Rattle.acceptor.specs.declared.message.Body.TheVariants.{Prepare, Promise, Accept, Accepted}
use Rattle.acceptor.specs.declared.message.Body.TheVariants.{Nack, Behind, Decided}
use Rattle.proposer.specs.declared.role.{PromisingDesk.PromisingDesk, Role.Role}
use Rattle.proposer.specs.declared.plan.Plan.{Plan}
use Rattle.proposer.specs.declared.role.Role.TheVariants.{Idle, Gathering, Proposing, Leading}
use Rattle.acceptor.specs.declared.stored.Change.TheVariants.{Promised, Voted, Tried, Appended}
use Rattle.proposer.specs.{Proposing.start, Proposing.tick, declared.fault.Refusal.Refusal}
use Rattle.learner.specs.declared.event.WorldEvent.{WorldEvent, TheVariants.Submit as SubmitAt}
use Rattle.learner.specs.Worlds.{World, new_world, put, world_after, at_desk, nth_sent, delivered}
use Rattle.learner.specs.declared.event.DeskEvent.TheVariants.{Submit, Start, Tick, Deliver}
use Rattle.learner.specs.declared.event.WorldEvent.TheVariants.{Start as StartAt, Tick as TickAt}
use Rattle.learner.specs.Steps.{planned, done, idle, is_desk, is_heeded, on_body, step, Done}
use Rattle.learner.proofs.Cases.{by_test, submit_cases}

-- what the event submits and its desk takes
abbrev EventHolds : (Entry → Type 0) → ℕ → World → WorldEvent → Type 0
EventHolds P n w (SubmitAt d e) = IsTaken n w d e → P e
EventHolds P n w _ = Unit {0}

abbrev EventFits : (Ballot → Type 0) → ℕ → World → WorldEvent → Type 0
EventFits Q n w (StartAt d) =
    is_desk n d ≡ true
    → ResultFits Q d (start n d (w.desks d).stored (length (w.desks d).log) (passing (w.desks d)))
EventFits Q n w (TickAt d) =
    is_desk n d ≡ true
    → ResultFits Q d (tick n d (w.desks d).stored (length (w.desks d).log) (passing (w.desks d)))
EventFits Q n w _ = Unit {0}

abbrev AreReal : (Ballot → Type 0) → Type 0
AreReal Q = (b : Ballot) → Q b → 1 ≤ b.number

put_holds : (P : Entry → Type 0) (Q : Ballot → Type 0) (w : World) (d : ℕ) (y : Desk)
    (out : List Message) → WorldHolds P Q w → DeskHolds P Q y → MessagesHold P Q out
    → WorldHolds P Q (record { desks = put w.desks d y; sent = w.sent ++ out })
put_holds P Q w d y out h k m =
    record {
      desks = put_all (λ j z. DeskHolds P Q z) w.desks d y k h.desks;
      sent = messages_append P Q w.sent out h.sent m;
    }

planned_holds : (P : Entry → Type 0) (Q : Ballot → Type 0) (w : World) (d : ℕ)
    (r : Result Plan Refusal) → WorldHolds P Q w → ResultHolds P Q r
    → WorldHolds P Q (world_after w d (planned (w.desks d) r))
planned_holds P Q w d (Ok p) h k =
    put_holds P Q w d (adopt (w.desks d) p) p.messages h
    (adopt_holds P Q (w.desks d) p (h.desks d) k) k.messages
planned_holds P Q w d (Err why) h k = h

at_desk_holds : (P : Entry → Type 0) (Q : Ballot → Type 0) (n : ℕ) (w : World) (d : ℕ)
    (event : DeskEvent) → WorldHolds P Q w
    → (is_desk n d ≡ true → WorldHolds P Q (world_after w d (step n d (w.desks d) event)))
    → WorldHolds P Q (at_desk n w d event)
at_desk_holds P Q n w d event h k =
    by_test (WorldHolds P Q) (is_desk n d) (world_after w d (step n d (w.desks d) event)) w k
    (λ e. h)

submit_holds : (P : Entry → Type 0) (Q : Ballot → Type 0) (n : ℕ) (w : World) (d : ℕ) (e : Entry)
    → WorldHolds P Q w → (IsOk (step n d (w.desks d) (Submit e)) → P e)
    → WorldHolds P Q (world_after w d (step n d (w.desks d) (Submit e)))
submit_holds P Q n w d e h k =
    let was : DeskHolds P Q (w.desks d) = h.desks d in
    submit_cases
    (λ (r : Result Done Refusal). (IsOk r → P e) → WorldHolds P Q (world_after w d r)) n d
    (w.desks d) e (λ i. h) (λ i. h) (λ i.
    put_holds P Q w d (record (w.desks d) { queue = (w.desks d).queue ++ e ∷ [] }) [] h (record {
      promised = was.promised;
      vote = was.vote;
      log = was.log;
      role = was.role;
      queue = push_holds P (w.desks d).queue e was.queue (i refl);
    }) tt) k

deliver_holds : (P : Entry → Type 0) (Q : Ballot → Type 0) → AreReal Q
    → (n : ℕ) (w : World) (d : ℕ) (m : Message) → WorldHolds P Q w → BodyHolds P Q m.body
    → WorldHolds P Q (world_after w d (step n d (w.desks d) (Deliver m)))
deliver_holds P Q real n w d m h k =
    by_test (λ (r : Result Done Refusal). WorldHolds P Q (world_after w d r)) (is_heeded n d m)
    (Ok (done (w.desks d) (on_body n d (w.desks d) m.from m.body))) (Ok (idle (w.desks d))) (λ t.
    planned_holds P Q w d (Ok (on_body n d (w.desks d) m.from m.body)) h
    (body_holds P Q real n d (w.desks d) m.from m.body (h.desks d) k))
    (λ t. put_holds P Q w d (w.desks d) [] h (h.desks d) tt)

happens_holds : (P : Entry → Type 0) (Q : Ballot → Type 0) → AreReal Q
    → (n : ℕ) (w : World) (event : WorldEvent) → WorldHolds P Q w → EventHolds P n w event
    → EventFits Q n w event → WorldHolds P Q (happens n w event)
happens_holds P Q real n w (SubmitAt d e) h k f =
    at_desk_holds P Q n w d (Submit e) h
    (λ t. submit_holds P Q n w d e h (λ ok. k (record { ours = desk_from_test n d t; taken = ok })))
happens_holds P Q real n w (StartAt d) h k f =
    at_desk_holds P Q n w d Start h (λ t.
    planned_holds P Q w d
    (start n d (w.desks d).stored (length (w.desks d).log) (passing (w.desks d))) h
    (start_holds P Q n d (w.desks d) (h.desks d) (f t)))
happens_holds P Q real n w (TickAt d) h k f =
    at_desk_holds P Q n w d Tick h (λ t.
    planned_holds P Q w d
    (tick n d (w.desks d).stored (length (w.desks d).log) (passing (w.desks d))) h
    (tick_holds P Q n d (w.desks d) (h.desks d) (f t)))
happens_holds P Q real n w (DeliverNth k) h i f = go (nth_sent w.sent k) (at k)
  where
    at : (k : ℕ) (m : Message) → nth_sent w.sent k ≡ Some m → BodyHolds P Q m.body
    at zero m e = absurd cc
    at (suc j) m e = message_at P Q w.sent j m h.sent e

    go : (o : Option Message) → ((m : Message) → o ≡ Some m → BodyHolds P Q m.body)
        → WorldHolds P Q (delivered n w o)
    go None said = h
    go (Some m) said =
        at_desk_holds P Q n w m.to (Deliver m) h
        (λ t. deliver_holds P Q real n w m.to m h (said m refl))
happens_holds P Q real n w (RestartAt d) h k f =
    let was : DeskHolds P Q (w.desks d) = h.desks d in
    by_test (WorldHolds P Q) (is_desk n d)
    (record { desks = put w.desks d (restarted (w.desks d)); sent = w.sent }) w (λ t. record {
      desks =
          put_all (λ j z. DeskHolds P Q z) w.desks d (restarted (w.desks d)) (record {
            promised = was.promised;
            vote = was.vote;
            log = was.log;
            role = tt;
            queue = tt;
          }) h.desks;
      sent = h.sent;
    }) (λ t. h)

-- the same of weaker properties of ballots
body_more : (P : Entry → Type 0) (Q R : Ballot → Type 0) → ((b : Ballot) → Q b → R b)
    → (body : Body) → BodyHolds P Q body → BodyHolds P R body
body_more P Q R f (Prepare b pos) h = f b h
body_more P Q R f (Promise b pos None) h = (f b h.0, tt)
body_more P Q R f (Promise b pos (Some r)) h = (f b h.0, (f r.ballot h.1.0, h.1.1))
body_more P Q R f (Accept b pos e) h = (f b h.0, h.1)
body_more P Q R f (Accepted b pos) h = f b h
body_more P Q R f (Nack b pos promised) h = (f b h.0, f promised h.1)
body_more P Q R f (Behind len) h = tt
body_more P Q R f (Decided pos e) h = h

messages_more : (P : Entry → Type 0) (Q R : Ballot → Type 0) → ((b : Ballot) → Q b → R b)
    → (ms : List Message) → MessagesHold P Q ms → MessagesHold P R ms
messages_more P Q R f [] h = tt
messages_more P Q R f (m ∷ ms) h = (body_more P Q R f m.body h.0, messages_more P Q R f ms h.1)

heard_more : (P : Entry → Type 0) (Q R : Ballot → Type 0) → ((b : Ballot) → Q b → R b)
    → (hs : List PromisingDesk) → HeardHolds P Q hs → HeardHolds P R hs
heard_more P Q R f [] h = tt
heard_more P Q R f (x ∷ hs) h = (report x.vote h.0, heard_more P Q R f hs h.1)
  where
    report : (v : Option Report) → ReportHolds P Q v → ReportHolds P R v
    report None i = tt
    report (Some r) i = (f r.ballot i.0, i.1)

desk_more : (P : Entry → Type 0) (Q R : Ballot → Type 0) → ((b : Ballot) → Q b → R b) → (x : Desk)
    → DeskHolds P Q x → DeskHolds P R x
desk_more P Q R f x h =
    record {
      promised = promised h.promised;
      vote = vote x.stored.vote h.vote;
      log = h.log;
      role = role x.role h.role;
      queue = h.queue;
    }
  where
    promised : (x.stored.promised ≡ no_ballot) ⊎ Q x.stored.promised
        → (x.stored.promised ≡ no_ballot) ⊎ R x.stored.promised
    promised (inl e) = inl e
    promised (inr q) = inr (f x.stored.promised q)

    vote : (v : Option Vote) → VoteHolds P Q v → VoteHolds P R v
    vote None i = tt
    vote (Some v) i = (f v.ballot i.0, i.1)

    role : (r : Role) → RoleHolds P Q r → RoleHolds P R r
    role Idle i = tt
    role (Gathering b pos heard) i = (f b i.0, heard_more P Q R f heard i.1)
    role (Proposing b pos e heard) i = (f b i.0, i.1)
    role (Leading b) i = f b i

-- a ballot that a desk makes is tried from then on
result_fits : (n : ℕ) (w : World) (d : ℕ) → is_desk n d ≡ true → (r : Result Plan Refusal)
    → ResultFits (IsTried n (world_after w d (planned (w.desks d) r))) d r
result_fits n w d ours (Err why) = tt
result_fits n w d ours (Ok p) = by_change p.change refl
  where
    by_change : (c : Option Change) → p.change ≡ c → Fits (IsTried n
        (record { desks = put w.desks d (adopt (w.desks d) p); sent = w.sent ++ p.messages })) d c
    by_change None e = tt
    by_change (Some (Promised b)) e = tt
    by_change (Some (Voted v)) e = tt
    by_change (Some (Appended f)) e = tt
    by_change (Some (Tried r)) e =
        λ one. record {
          number = one;
          desk = desk_from_test n d ours;
          tried =
              put_here (λ j z. r ≤ z.stored.tried) w.desks d (adopt (w.desks d) p)
              (subst (λ (c : Option Change). r ≤ (stored_after (w.desks d).stored c).tried) (sym e)
              (omega arith)) d refl;
        }

event_fits : (n : ℕ) (w : World) (event : WorldEvent)
    → EventFits (IsTried n (happens n w event)) n w event
event_fits n w (StartAt d) =
    λ t.
    subst (λ (b : Bool).
    ResultFits (IsTried n (if b
    then world_after w d (planned (w.desks d)
    (start n d (w.desks d).stored (length (w.desks d).log) (passing (w.desks d))))
    else w)) d (start n d (w.desks d).stored (length (w.desks d).log) (passing (w.desks d))))
    (sym t) (result_fits n w d t
    (start n d (w.desks d).stored (length (w.desks d).log) (passing (w.desks d))))
event_fits n w (TickAt d) =
    λ t.
    subst (λ (b : Bool).
    ResultFits (IsTried n (if b
    then world_after w d (planned (w.desks d)
    (tick n d (w.desks d).stored (length (w.desks d).log) (passing (w.desks d))))
    else w)) d (tick n d (w.desks d).stored (length (w.desks d).log) (passing (w.desks d)))) (sym t)
    (result_fits n w d t
    (tick n d (w.desks d).stored (length (w.desks d).log) (passing (w.desks d))))
event_fits n w _ = tt

-- a whole list of events, each with what it submits
abbrev EventsHold : (Entry → Type 0) → ℕ → World → List WorldEvent → Type 0
EventsHold P n w [] = Unit {0}
EventsHold P n w (e ∷ es) = EventHolds P n w e × EventsHold P n (happens n w e) es

run_holds : (P : Entry → Type 0) (n : ℕ) (w : World) (events : List WorldEvent) → IsSound n w
    → WorldHolds P (IsTried n w) w → EventsHold P n w events
    → WorldHolds P (IsTried n (run n w events)) (run n w events)
run_holds P n w [] sound h k = h
run_holds P n w (e ∷ es) sound h k =
    let w' = happens n w e in
    let f = happens_follows n w e sound in
    let more = λ (b : Ballot) (t : IsTried n w b). grown b t f in
    let h' : WorldHolds P (IsTried n w') w =
    record {
      desks = λ d. desk_more P (IsTried n w) (IsTried n w') more (w.desks d) (h.desks d);
      sent = messages_more P (IsTried n w) (IsTried n w') more w.sent h.sent;
    } in
    run_holds P n w' es f.sound
    (happens_holds P (IsTried n w') (λ b t. t.number) n w e h' k.0 (event_fits n w e)) k.1
  where
    grown : (b : Ballot) → IsTried n w b → Rattle.learner.proofs.Goes.Follows n w (happens n w e)
        → IsTried n (happens n w e) b
    grown b t f =
        let old = t.tried in let more = (f.evolves b.desk).tried in
        record { number = t.number; desk = t.desk; tried = omega arith }

new_holds : (P : Entry → Type 0) (Q : Ballot → Type 0) → WorldHolds P Q new_world
new_holds P Q =
    record {
      desks = λ d.
          record { promised = inl refl; vote = tt; log = tt; role = tt; queue = tt };
      sent = tt;
    }

get_length : (xs ys : List WorldEvent) (y : WorldEvent)
    → slice_get (xs ++ y ∷ ys) (length xs) ≡ Some y
get_length [] ys y = refl
get_length (x ∷ xs) ys y = get_length xs ys y

-- what is taken after these events is submitted by the whole list
taken_is_submitted : (n : ℕ) (before rest : List WorldEvent) (d : ℕ) (e : Entry)
    → IsTaken n (after n before) d e → IsSubmitted n (before ++ SubmitAt d e ∷ rest) e
taken_is_submitted n before rest d e taken =
    record {
      at = length before;
      desk = d;
      event = get_length before rest (SubmitAt d e);
      taken =
          subst (λ (es : List WorldEvent). IsTaken n (after n es) d e)
          (sym (take-append_seam before (SubmitAt d e ∷ rest))) taken;
    }

-- each event of a list, after those before it, submits what the whole list submits
all_submit : (n : ℕ) (before rest : List WorldEvent)
    → EventsHold (IsSubmitted n (before ++ rest)) n (after n before) rest
all_submit n before [] = tt
all_submit n before (e ∷ rest) = (
  one e,
  subst (λ (w : World). EventsHold (IsSubmitted n (before ++ e ∷ rest)) n w rest)
      (run_append n new_world before (e ∷ [])) (subst
      (λ (es : List WorldEvent). EventsHold (IsSubmitted n es) n (after n (before ++ e ∷ [])) rest)
      (append_assoc before (e ∷ []) rest) (all_submit n (before ++ e ∷ []) rest)),
)
  where
    one : (x : WorldEvent) → EventHolds (IsSubmitted n (before ++ x ∷ rest)) n (after n before) x
    one (SubmitAt d f) = λ taken. taken_is_submitted n before rest d f taken
    one (StartAt d) = tt
    one (TickAt d) = tt
    one (DeliverNth k) = tt
    one (RestartAt d) = tt

after_holds : (n : ℕ) (events : List WorldEvent)
    → WorldHolds (IsSubmitted n events) (IsTried n (after n events)) (after n events)
after_holds n events =
    run_holds (IsSubmitted n events) n new_world events (new_sound n)
    (new_holds (IsSubmitted n events) (IsTried n new_world)) (all_submit n [] events)

pub logs_are_submitted : LogsAreSubmitted
logs_are_submitted n events d pos e h =
    get_holds (IsSubmitted n events) ((after n events).desks d).log pos e
    ((after_holds n events).desks d).log h

pub contents_stand : ContentsStand
contents_stand n events = after_holds n events
