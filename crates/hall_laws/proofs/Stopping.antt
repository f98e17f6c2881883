-- Desks that stop make a run of the world.
use Rattle.std.proofs.Common.{◌≡◌, ◌⊎◌, inl, inr, ℕ, zero, suc, Bool, true, false, if◌then◌else◌}
use Rattle.std.proofs.Common.{List, [], ◌∷◌, ◌++◌, Option, Some, None, Result, Ok, Err, slice_get}
use Rattle.std.proofs.Common.{take, map, length, refl, sym, ap, subst, ◌∙◌}
use Rattle.std.specs.Option.{option_map}
use Rattle.std.proofs.lemmas.{List.take-map, Option.slice_get-map}
use Rattle.acceptor.specs.declared.{entry.Entry.Entry, message.Message.Message}
use Rattle.proposer.specs.{declared.fault.Refusal.Refusal, Plans.Passing, Proposing.submit}
use Rattle.learner.specs.{declared.event.DeskEvent.DeskEvent, Desks.Desk, Submitted.IsTaken}
use Rattle.learner.specs.{Desks.passing, declared.event.WorldEvent.TheVariants.Submit as SubmitAt}
use Rattle.learner.{specs.Desks.restarted, proofs.Runs.run_append, specs.Worlds.world_after}
use Rattle.learner.specs.declared.event.WorldEvent.{TheVariants.Restart as RestartAt, WorldEvent}
use Rattle.learner.specs.declared.event.WorldEvent.TheVariants.{Start as StartAt, Tick as TickAt}
use Rattle.learner.specs.declared.event.WorldEvent.TheVariants.{Deliver as DeliverNth}
use Rattle.learner.specs.{Laws.IsPrefix, Laws.LogsAgree, Laws.LogsAreSubmitted, Worlds.nth_sent}
use Rattle.learner.specs.declared.event.DeskEvent.TheVariants.{Submit, Start, Tick, Deliver}
use Rattle.learner.specs.{Steps.Done, Steps.is_desk, Steps.passed, Steps.step, Worlds.delivered}
use Rattle.learner.specs.Worlds.{restart_at, happens, run, log_of, World, new_world, put, at_desk}
use Rattle.hall_laws.specs.Stops.{Happening, Answered, Stopped, place, goes_on, real_run, IsAmong}
use Rattle.hall_laws.specs.Stops.{Follows, IsSameEvent, event_of, group, events_of, KeepsStep}
use Rattle.hall_laws.specs.Stops.{StopsMakeARun, real_log, RealLogsAgree, RealEntriesAreSubmitted}
use Rattle.hall_laws.{specs.Stops.WasSubmitted, proofs.Calls.put_put}
use Rattle.progress.proofs.Aims.{put_self}

abbrev world_of : (ℕ → Desk) → List Message → World
world_of desks sent = record { desks = desks; sent = sent }

abbrev Within : List Message → List Message → Type 0
Within a b = (m : Message) → IsAmong m a → IsAmong m b

among_left : (m : Message) (a b : List Message) → IsAmong m a → IsAmong m (a ++ b)
among_left m [] b h = absurd h
among_left m (x ∷ xs) b (inl e) = inl e
among_left m (x ∷ xs) b (inr h) = inr (among_left m xs b h)

among_right : (m : Message) (a b : List Message) → IsAmong m b → IsAmong m (a ++ b)
among_right m [] b h = h
among_right m (x ∷ xs) b h = inr (among_right m xs b h)

among_either : (m : Message) (a b : List Message) → IsAmong m (a ++ b) → IsAmong m a ⊎ IsAmong m b
among_either m [] b h = inr h
among_either m (x ∷ xs) b (inl e) = inl (inl e)
among_either m (x ∷ xs) b (inr h) = go (among_either m xs b h)
  where
    go : IsAmong m xs ⊎ IsAmong m b → IsAmong m (x ∷ xs) ⊎ IsAmong m b
    go (inl k) = inl (inr k)
    go (inr k) = inr k

within_more : (a b more : List Message) → Within a b → Within (a ++ more) (b ++ more)
within_more a b more h m k = go (among_either m a more k)
  where
    go : IsAmong m a ⊎ IsAmong m more → IsAmong m (b ++ more)
    go (inl l) = among_left m b more (h m l)
    go (inr r) = among_right m b more r

pub get_among : (m : Message) (a : List Message) (k : ℕ) → slice_get a k ≡ Some m → IsAmong m a
get_among m [] k e = absurd cc
get_among m (x ∷ xs) zero e = let same : x ≡ m = cc in inl same
get_among m (x ∷ xs) (suc k) e = inr (get_among m xs k e)

pub among_get : (m : Message) (b : List Message) → IsAmong m b → (k : ℕ) × (slice_get b k ≡ Some m)
among_get m [] h = absurd h
among_get m (x ∷ xs) (inl e) = (zero, ap (λ (y : Message). Some y) e)
among_get m (x ∷ xs) (inr h) = let there = among_get m xs h in (suc there.0, there.1)

pub nth_among : (a : List Message) (k : ℕ) (m : Message) → nth_sent a k ≡ Some m → IsAmong m a
nth_among a zero m e = absurd (let none : None ≡ Some m = e in cc)
nth_among a (suc k) m e = get_among m a k e

desks_of : {real w : World} → Follows real w → real.desks ≡ w.desks
desks_of f = f.desks

-- one event at a desk
at_follows : (n d : ℕ) (event : DeskEvent) (desks : ℕ → Desk) (a b : List Message) → Within a b
    → Follows (at_desk n (world_of desks a) d event) (at_desk n (world_of desks b) d event)
at_follows n d event desks a b h = go (is_desk n d) (step n d (desks d) event)
  where
    go : (t : Bool) (r : Result Done Refusal)
        → Follows (if t then world_after (world_of desks a) d r else world_of desks a)
        (if t then world_after (world_of desks b) d r else world_of desks b)
    go true (Ok r) = record { desks = refl; sent = within_more a b r.messages h }
    go true (Err why) = record { desks = refl; sent = h }
    go false r = record { desks = refl; sent = h }

restart_follows : (n d : ℕ) (desks : ℕ → Desk) (a b : List Message) → Within a b
    → Follows (restart_at n (world_of desks a) d) (restart_at n (world_of desks b) d)
restart_follows n d desks a b h = go (is_desk n d)
  where
    go : (t : Bool)
        → Follows (if t then world_of (put desks d (restarted (desks d))) a else world_of desks a)
        (if t then world_of (put desks d (restarted (desks d))) b else world_of desks b)
    go true = record { desks = refl; sent = h }
    go false = record { desks = refl; sent = h }

-- an event among the real desks is one of the world
abbrev Matches : ℕ → (ℕ → Desk) → List Message → List Message → WorldEvent → Type 0
Matches n desks a b e =
    (event : WorldEvent) × IsSameEvent a b e event
    × Follows (happens n (world_of desks a) e) (happens n (world_of desks b) event)

matches : (n : ℕ) (desks : ℕ → Desk) (a b : List Message) (e : WorldEvent) → Within a b
    → Matches n desks a b e
matches n desks a b (SubmitAt d e) h = (SubmitAt d e, refl, at_follows n d (Submit e) desks a b h)
matches n desks a b (StartAt d) h = (StartAt d, refl, at_follows n d Start desks a b h)
matches n desks a b (TickAt d) h = (TickAt d, refl, at_follows n d Tick desks a b h)
matches n desks a b (RestartAt d) h = (RestartAt d, refl, restart_follows n d desks a b h)
matches n desks a b (DeliverNth zero) h =
    (DeliverNth zero, (zero, refl, refl), record { desks = refl; sent = h })
matches n desks a b (DeliverNth (suc k)) h = go (slice_get a k) refl
  where
    there : (m : Message) → slice_get a k ≡ Some m → Matches n desks a b (DeliverNth (suc k))
    there m e =
        let found = among_get m b (h m (get_among m a k e)) in
        let right = ap (λ (o : Option Message). delivered n (world_of desks b) o) found.1 in
        let left =
        ap (λ (o : Option Message). delivered n (world_of desks a) o) e in (
          DeliverNth (suc found.0),
          (suc found.0, refl, found.1 ∙ sym e),
          subst (λ (w : World). Follows w (delivered n (world_of desks b) (slice_get b found.0)))
              (sym left) (rw right (at_follows n m.to (Deliver m) desks a b h)),
        )

    none : slice_get a k ≡ None → Matches n desks a b (DeliverNth (suc k))
    none e =
        let left = ap (λ (o : Option Message). delivered n (world_of desks a) o) e in
        (DeliverNth zero, (zero, refl, sym e), rw left (record { desks = refl; sent = h }))

    go : (o : Option Message) → slice_get a k ≡ o → Matches n desks a b (DeliverNth (suc k))
    go (Some m) e = there m e
    go None e = none e

-- a happening among the real desks is its group of events of the world
abbrev pub Continues : ℕ → World → World → Happening → Type 0
Continues n real w h =
    (there : WorldEvent) × IsSameEvent real.sent w.sent (event_of h) there
    × Follows (goes_on n real h) (run n w (group real h there))

at_grows : (n d : ℕ) (event : DeskEvent) (w : World) → Within w.sent (at_desk n w d event).sent
at_grows n d event w m k = go (is_desk n d) (step n d (w.desks d) event)
  where
    go : (t : Bool) (r : Result Done Refusal) → IsAmong m (if t then world_after w d r else w).sent
    go true (Ok r) = among_left m w.sent r.messages k
    go true (Err why) = k
    go false r = k

restart_keeps : (n d : ℕ) (w : World) → Within w.sent (restart_at n w d).sent
restart_keeps n d w m k = go (is_desk n d)
  where
    go : (t : Bool)
        → IsAmong m (if t then world_of (put w.desks d (restarted (w.desks d))) w.sent else w).sent
    go true = k
    go false = k

happens_grows : (n : ℕ) (w : World) (e : WorldEvent) → Within w.sent (happens n w e).sent
happens_grows n w (SubmitAt d e) = at_grows n d (Submit e) w
happens_grows n w (StartAt d) = at_grows n d Start w
happens_grows n w (TickAt d) = at_grows n d Tick w
happens_grows n w (RestartAt d) = restart_keeps n d w
happens_grows n w (DeliverNth k) = go (nth_sent w.sent k)
  where
    go : (o : Option Message) → Within w.sent (delivered n w o).sent
    go None = λ m h. h
    go (Some m) = at_grows n m.to (Deliver m) w

restart_desks : (n d : ℕ) (r w : World) → r.desks ≡ w.desks
    → (restart_at n r d).desks ≡ (restart_at n w d).desks
restart_desks n d r w e = go (is_desk n d)
  where
    go : (t : Bool)
        → (if t then world_of (put r.desks d (restarted (r.desks d))) r.sent else r).desks
        ≡ (if t then world_of (put w.desks d (restarted (w.desks d))) w.sent else w).desks
    go true = ap (λ (ds : ℕ → Desk). put ds d (restarted (ds d))) e
    go false = e

pub one_more : (n : ℕ) (real w : World) (h : Happening) → Follows real w → Continues n real w h
one_more n real w (Answered e) f = answered
  where
    same : world_of real.desks w.sent ≡ w
    same = ap (λ (ds : ℕ → Desk). world_of ds w.sent) f.desks

    answered : Continues n real w (Answered e)
    answered =
        let m = matches n real.desks real.sent w.sent e f.sent in
        (m.0, m.1, subst (λ (v : World). Follows (happens n real e) (happens n v m.0)) same m.2)
one_more n real w (Stopped false e) f =
    let m = matches n real.desks real.sent w.sent e f.sent in
    let same : world_of real.desks w.sent ≡ w =
    ap (λ (ds : ℕ → Desk). world_of ds w.sent) f.desks in (
      m.0,
      m.1,
      subst
          (λ (v : World).
          Follows (restart_at n real (place real e)) (restart_at n v (place real e)))
          same (restart_follows n (place real e) real.desks real.sent w.sent f.sent),
    )
one_more n real w (Stopped true e) f = halted
  where
    same : world_of real.desks w.sent ≡ w
    same = ap (λ (ds : ℕ → Desk). world_of ds w.sent) f.desks

    done : Matches n real.desks real.sent w.sent e
    done = matches n real.desks real.sent w.sent e f.sent

    here : World
    here = happens n real e

    there : World
    there = happens n w done.0

    follows : Follows here there
    follows = subst (λ (v : World). Follows here (happens n v done.0)) same done.2

    halted : Continues n real w (Stopped true e)
    halted = (
      done.0,
      done.1,
      record {
        desks = restart_desks n (place real e) here there follows.desks;
        sent =
            λ m k.
            restart_keeps n (place real e) there m (follows.sent m (happens_grows n real e m k));
      },
    )

goes_further : (n : ℕ) (real w : World) (hs : List Happening) → Follows real w
    → (there : List WorldEvent) × KeepsStep n real w hs there
goes_further n real w [] f = ([], f)
goes_further n real w (h ∷ hs) f =
    let first = one_more n real w h f in
    let rest = goes_further n (goes_on n real h) (run n w (group real h first.0)) hs first.2 in
    (first.0 ∷ rest.0, (f, first.1, rest.1))

-- past the end of the front
abbrev past : List WorldEvent → ℕ → ℕ
past [] m = m
past (x ∷ xs) m = suc (past xs m)

take_past : (xs ys : List WorldEvent) (m : ℕ) → take (past xs m) (xs ++ ys) ≡ xs ++ take m ys
take_past [] ys m = refl
take_past (x ∷ xs) ys m = ap (λ (zs : List WorldEvent). x ∷ zs) (take_past xs ys m)

-- each moment of the one is a moment of the other
abbrev Moment : ℕ → World → World → List Happening → List WorldEvent → ℕ → Type 0
Moment n real w hs there i =
    (m : ℕ) × Follows (real_run n real (take i hs)) (run n w (take m (events_of n real hs there)))

keeps_moments : (n : ℕ) (real w : World) (hs : List Happening) (there : List WorldEvent)
    → KeepsStep n real w hs there → (i : ℕ) → Moment n real w hs there i
keeps_moments n real w [] [] k zero = (0, k)
keeps_moments n real w [] [] k (suc i) = (0, k)
keeps_moments n real w [] (e ∷ there) k i = absurd k
keeps_moments n real w (h ∷ hs) [] k i = absurd k
keeps_moments n real w (h ∷ hs) (e ∷ there) k zero = (0, k.0)
keeps_moments n real w (h ∷ hs) (e ∷ there) k (suc i) =
    let first : List WorldEvent = group real h e in
    let rest : List WorldEvent = events_of n (goes_on n real h) hs there in
    let later = keeps_moments n (goes_on n real h) (run n w first) hs there k.2 i in
    let same : run n w (take (past first later.0) (first ++ rest))
    ≡ run n (run n w first) (take later.0 rest) =
    ap (λ (es : List WorldEvent). run n w es) (take_past first rest later.0)
    ∙ run_append n w first (take later.0 rest) in (
      past first later.0,
      subst (λ (v : World). Follows (real_run n (goes_on n real h) (take i hs)) v) (sym same)
          later.1,
    )

-- and the last moments are the same
follows_at_end : (n : ℕ) (real w : World) (hs : List Happening) (there : List WorldEvent)
    → KeepsStep n real w hs there
    → Follows (real_run n real hs) (run n w (events_of n real hs there))
follows_at_end n real w [] [] k = k
follows_at_end n real w [] (e ∷ there) k = absurd k
follows_at_end n real w (h ∷ hs) [] k = absurd k
follows_at_end n real w (h ∷ hs) (e ∷ there) k =
    subst (λ (v : World). Follows (real_run n (goes_on n real h) hs) v)
    (sym (run_append n w (group real h e) (events_of n (goes_on n real h) hs there)))
    (follows_at_end n (goes_on n real h) (run n w (group real h e)) hs there k.2)

pub stops_make_a_run : StopsMakeARun
stops_make_a_run n hs =
    let all = goes_further n new_world new_world hs (record { desks = refl; sent = λ m h. h }) in
    (all.0, record { steps = all.1; moments = keeps_moments n new_world new_world hs all.0 all.1 })

pub real_logs_agree : LogsAgree → RealLogsAgree
real_logs_agree agree n hs i j d k =
    let all = stops_make_a_run n hs in
    let events : List WorldEvent = events_of n new_world hs all.0 in
    let one = all.1.moments i in
    let two = all.1.moments j in
    let here : real_log n hs i d ≡ log_of n (take one.0 events) d =
    ap (λ (ds : ℕ → Desk). (ds d).log) (desks_of one.1) in
    let there : real_log n hs j k ≡ log_of n (take two.0 events) k =
    ap (λ (ds : ℕ → Desk). (ds k).log) (desks_of two.1) in
    subst (λ (xs : List Entry). IsPrefix xs (real_log n hs j k) ⊎ IsPrefix (real_log n hs j k) xs)
    (sym here) (subst (λ (ys : List Entry). IsPrefix (log_of n (take one.0 events) d) ys
    ⊎ IsPrefix ys (log_of n (take one.0 events) d)) (sym there) (agree n events one.0 two.0 d k))

-- ---- what was submitted there was submitted here

still_taken : (n d : ℕ) (e : Entry) (real w : World) → Follows real w → IsTaken n w d e
    → IsTaken n real d e
still_taken n d e real w f taken = record { ours = taken.ours; taken = rw f.desks taken.taken }

-- the event of the same submission
same_submission : (a b : List Message) (here : WorldEvent) (d : ℕ) (e : Entry)
    → IsSameEvent a b here (SubmitAt d e) → here ≡ SubmitAt d e
same_submission a b (SubmitAt d' e') d e same = sym same
same_submission a b (DeliverNth k) d e same =
    absurd (let bad : SubmitAt d e ≡ DeliverNth same.0 = same.1 in cc)
same_submission a b _ d e same = absurd cc

-- the entry is submitted by one of these happenings, which begin here
record Submits (n : ℕ) (real : World) (hs : List Happening) (e : Entry) : Type 0 where
  pub at : ℕ
  pub desk : ℕ
  pub call : (slice_get hs at ≡ Some (Answered (SubmitAt desk e)))
      ⊎ (slice_get hs at ≡ Some (Stopped true (SubmitAt desk e)))
  pub taken : IsTaken n (real_run n real (take at hs)) desk e

later : (n : ℕ) (real : World) (h : Happening) (hs : List Happening) (e : Entry)
    → Submits n (goes_on n real h) hs e → Submits n real (h ∷ hs) e
later n real h hs e s = record { at = suc s.at; desk = s.desk; call = s.call; taken = s.taken }

submitted_there : (n : ℕ) (real w : World) (hs : List Happening) (there : List WorldEvent)
    → KeepsStep n real w hs there → (at d : ℕ) (e : Entry)
    → slice_get (events_of n real hs there) at ≡ Some (SubmitAt d e)
    → IsTaken n (run n w (take at (events_of n real hs there))) d e → Submits n real hs e
submitted_there n real w [] there k at d e is taken = absurd cc
submitted_there n real w (h ∷ hs) [] k at d e is taken = absurd k
submitted_there n real w (Answered e' ∷ hs) (t ∷ there) k zero d e is taken =
    let event : t ≡ SubmitAt d e = cc in
    let here : e' ≡ SubmitAt d e =
    same_submission real.sent w.sent e' d e (subst (IsSameEvent real.sent w.sent e') event k.1) in
    record {
      at = zero;
      desk = d;
      call = inl (ap (λ (x : WorldEvent). Some (Answered x)) here);
      taken = still_taken n d e real w k.0 taken;
    }
submitted_there n real w (Answered e' ∷ hs) (t ∷ there) k (suc at) d e is taken =
    later n real (Answered e') hs e
    (submitted_there n (goes_on n real (Answered e')) (run n w (group real (Answered e') t)) hs
    there k.2 at d e is taken)
submitted_there n real w (Stopped true e' ∷ hs) (t ∷ there) k zero d e is taken =
    let event : t ≡ SubmitAt d e = cc in
    let here : e' ≡ SubmitAt d e =
    same_submission real.sent w.sent e' d e (subst (IsSameEvent real.sent w.sent e') event k.1) in
    record {
      at = zero;
      desk = d;
      call = inr (ap (λ (x : WorldEvent). Some (Stopped true x)) here);
      taken = still_taken n d e real w k.0 taken;
    }
submitted_there n real w (Stopped true e' ∷ hs) (t ∷ there) k (suc zero) d e is taken =
    absurd (let bad : Some (RestartAt (place real e')) ≡ Some (SubmitAt d e) = is in cc)
submitted_there n real w (Stopped true e' ∷ hs) (t ∷ there) k (suc (suc at)) d e is taken =
    later n real (Stopped true e') hs e
    (submitted_there n (goes_on n real (Stopped true e')) (run n w (group real (Stopped true e') t))
    hs there k.2 at d e is taken)
submitted_there n real w (Stopped false e' ∷ hs) (t ∷ there) k zero d e is taken =
    absurd (let bad : Some (RestartAt (place real e')) ≡ Some (SubmitAt d e) = is in cc)
submitted_there n real w (Stopped false e' ∷ hs) (t ∷ there) k (suc at) d e is taken =
    later n real (Stopped false e') hs e (submitted_there n (goes_on n real (Stopped false e'))
    (run n w (group real (Stopped false e') t)) hs there k.2 at d e is taken)

-- what is in a log was submitted, by a call that was answered or in which the desk stopped later
submitted_by : LogsAreSubmitted → (n : ℕ) (hs : List Happening) (d pos : ℕ) (e : Entry)
    → slice_get ((real_run n new_world hs).desks d).log pos ≡ Some e → Submits n new_world hs e
submitted_by submitted n hs d pos e is =
    let all = stops_make_a_run n hs in
    let events : List WorldEvent = events_of n new_world hs all.0 in
    let ends = follows_at_end n new_world new_world hs all.0 all.1.steps in
    let there : ((real_run n new_world hs).desks d).log ≡ log_of n events d =
    ap (λ (ds : ℕ → Desk). (ds d).log) ends.desks in
    let was =
    submitted n events d pos e (subst (λ (xs : List Entry). slice_get xs pos ≡ Some e) there is) in
    submitted_there n new_world new_world hs all.0 all.1.steps was.at was.desk e was.event was.taken

-- ---- a submission whose call stopped is the same as none

-- the happening, where a stopped submission has nothing in the store
abbrev settled : Happening → Happening
settled (Stopped true (SubmitAt d e)) = Stopped false (SubmitAt d e)
settled h = h

-- a queue is lost, and nothing else of a submission is there to be lost
submission_is_lost : (n d : ℕ) (e : Entry) (w : World)
    → goes_on n w (Stopped false (SubmitAt d e)) ≡ goes_on n w (Stopped true (SubmitAt d e))
submission_is_lost n d e w =
    go (is_desk n d) (submit (length (w.desks d).log) (passing (w.desks d)) e)
  where
    x : Desk
    x = w.desks d

    after : Bool → Result Passing Refusal → World
    after t p = if t then world_after w d (passed x p) else w

    restart : Bool → World → World
    restart t v =
        if t then record { desks = put v.desks d (restarted (v.desks d)); sent = v.sent } else v

    go : (t : Bool) (p : Result Passing Refusal)
        → restart t w ≡ record { desks = (restart t (after t p)).desks; sent = w.sent }
    go true (Ok p) =
        let y : Desk =
        record { stored = x.stored; log = x.log; role = p.role; queue = p.queue; seen = p.seen } in
        let lost : put w.desks d (restarted x) ≡ put (put w.desks d y) d
        (restarted ((put w.desks d y) d)) = sym (put_put w.desks d y (restarted x)) ∙ ap
        (λ (z : Desk). put (put w.desks d y) d (restarted z)) (sym (put_self w.desks d y)) in
        λ i. record { desks = lost i; sent = w.sent }
    go true (Err why) = refl
    go false (Ok p) = refl
    go false (Err why) = refl

settled_goes_on : (n : ℕ) (w : World) (h : Happening) → goes_on n w (settled h) ≡ goes_on n w h
settled_goes_on n w (Stopped true (SubmitAt d e)) = submission_is_lost n d e w
settled_goes_on n w _ = refl

settled_run : (n : ℕ) (w : World) (hs : List Happening)
    → real_run n w (map settled hs) ≡ real_run n w hs
settled_run n w [] = refl
settled_run n w (h ∷ hs) = cc (settled_goes_on n w h, settled_run n (goes_on n w h) hs)

settled_answer : (h : Happening) (e : WorldEvent) → settled h ≡ Answered e → h ≡ Answered e
settled_answer (Answered f) e is = is
settled_answer (Stopped true (SubmitAt d f)) e is = absurd cc
settled_answer _ e is = absurd cc

settled_stop : (h : Happening) (d : ℕ) (e : Entry) → settled h ≡ Stopped true (SubmitAt d e) → ⊥
settled_stop (Stopped true (SubmitAt k f)) d e is = absurd cc
settled_stop _ d e is = absurd cc

-- so what a list of happenings submits is submitted by a call that was answered
was_submitted : (n : ℕ) (hs : List Happening) (e : Entry)
    → Submits n new_world (map settled hs) e → WasSubmitted n hs e
was_submitted n hs e s = record {
  at = s.at;
  desk = s.desk;
  call = by_call s.call;
  taken =
      subst (λ (w : World). IsTaken n w s.desk e)
      (ap (λ (gs : List Happening). real_run n new_world gs) (take-map settled s.at hs)
      ∙ settled_run n new_world (take s.at hs)) s.taken;
}
  where
    there : slice_get (map settled hs) s.at ≡ option_map settled (slice_get hs s.at)
    there = slice_get-map settled hs s.at

    answered : (o : Option Happening) (f : WorldEvent)
        → option_map settled o ≡ Some (Answered f) → o ≡ Some (Answered f)
    answered None f is = absurd cc
    answered (Some h) f is =
        let same : settled h ≡ Answered f = cc in
        ap (λ (g : Happening). Some g) (settled_answer h f same)

    not_stopped : (o : Option Happening) (d : ℕ) (f : Entry)
        → option_map settled o ≡ Some (Stopped true (SubmitAt d f)) → ⊥
    not_stopped None d f is = absurd cc
    not_stopped (Some h) d f is =
        let same : settled h ≡ Stopped true (SubmitAt d f) = cc in settled_stop h d f same

    by_call : (slice_get (map settled hs) s.at ≡ Some (Answered (SubmitAt s.desk e)))
        ⊎ (slice_get (map settled hs) s.at ≡ Some (Stopped true (SubmitAt s.desk e)))
        → slice_get hs s.at ≡ Some (Answered (SubmitAt s.desk e))
    by_call (inl is) = answered (slice_get hs s.at) (SubmitAt s.desk e) (sym there ∙ is)
    by_call (inr is) = absurd (not_stopped (slice_get hs s.at) s.desk e (sym there ∙ is))

pub real_entries_are_submitted : LogsAreSubmitted → RealEntriesAreSubmitted
real_entries_are_submitted submitted n hs i d pos e is =
    let same : (real_run n new_world (map settled (take i hs))) ≡ real_run n new_world (take i hs) =
    settled_run n new_world (take i hs) in
    was_submitted n (take i hs) e (submitted_by submitted n (map settled (take i hs)) d pos e
    (subst (λ (w : World). slice_get (w.desks d).log pos ≡ Some e) (sym same) is))
