-- What serving does for a Tick, or for the frame of a message, is a turn of the protocol.
use Rattle.serving.specs.Serving.{decided, later_fates, Act, Called, Pushed, Answered, Service}
use Rattle.serving.specs.Serving.{answered, push_all, waits, grew, what_of, framed, first_fate}
use Rattle.serving.specs.Serving.{call, learn, learn_all, hand_out, answer_out, tell, begun, served}
use Rattle.serving.specs.{Serving.start_if_grown, Asking.ours, Asking.request, Asking.strange}
use Rattle.serving.specs.{Serving.take, Nodes.Fate, Nodes.Reply, Nodes.by_step, Nodes.reply}
use Rattle.std.proofs.Common.{◌≡◌, refl, sym, ap, subst, ◌∙◌, ℕ, ◌==◌, ◌&&◌, Bool, true, false}
use Rattle.std.proofs.Common.{if◌then◌else◌, List, [], ◌∷◌, ◌++◌, map, Option, None, Some, Result}
use Rattle.std.proofs.Common.{Ok, Err, arith}
use Rattle.std.proofs.lemmas.{Bool.Decides.nat_tests, List.append-nil, List.append_assoc}
use Rattle.acceptor.specs.declared.{entry.Entry.Entry, message.Body.Body, message.Message.Message}
use Rattle.acceptor.specs.declared.message.Body.TheVariants.{Behind, Decided}
use Rattle.acceptor.specs.Messages.{message}
use Rattle.answers.specs.Seen.{Seen}
use Rattle.learner.specs.{Steps.Done, Steps.IsDesk, Steps.step, declared.event.DeskEvent.DeskEvent}
use Rattle.learner.specs.Worlds.{World, world_after, at_desk}
use Rattle.learner.specs.declared.event.DeskEvent.TheVariants.{Start, Tick, Deliver}
use Rattle.progress.proofs.Aims.{desk_test, put_other, put_self}
use Rattle.progress.specs.Turns.{has_grown, started, turn}
use Rattle.proposer.specs.declared.fault.Refusal.{Refusal}
use Rattle.replica.specs.roles.Faults.{refused_as}
use Rattle.serving.specs.{Making.calls_of, Telling.run_of, declared.request.DecidedRun.DecidedRun}
use Rattle.serving.specs.declared.request.Request.{Request, TheVariants.Ticked}
use Rattle.store.specs.declared.home.Home.{Home}
use Rattle.wire.specs.declared.values.Version.{Version}
use Rattle.hall_laws.{specs.Served.all_handed_out, proofs.Keeping.calls_of_pushes}
use Rattle.hall_laws.proofs.OwnMessages.{calls_both, no_calls, handed_both}

-- desk d of n, in a hall of this number
abbrev pub home_of : ℕ → ℕ → ℕ → Home
home_of hall n d = record { hall = hall; desk = d; desks = n }

-- a desk that is up, and heard these lengths of logs
abbrev pub up_at : World → ℕ → List ℕ → Seen
up_at w d told = record { desk = w.desks d; is_down = false; told = told }

-- What was served so far has led from world W to w. What it heard of the lengths of logs is no
-- matter of the world.
pub record Mirrors (d : ℕ) (W w : World) (s : Service) : Type 0 where
  pub seen : s.seen ≡ up_at w d s.seen.told
  pub fates : s.fates ≡ []
  pub others : (j : ℕ) → ¬ (d ≡ j) → w.desks j ≡ W.desks j
  pub sent : w.sent ≡ W.sent ++ all_handed_out (calls_of s.done)

-- ---- a call

mirrors_call : (hall n d : ℕ) (W w : World) (event : DeskEvent) (s : Service)
    → IsDesk n d → Mirrors d W w s
    → Mirrors d W (at_desk n w d event) (call (home_of hall n d) event s)
unfolding call
mirrors_call hall n d W w event s ours h =
    let same : reply home s.seen event (first_fate s.fates) ≡ by_step home event here
    (step n d (w.desks d) event) = ap (λ z. reply home z event (first_fate s.fates)) h.seen ∙ ap
    (λ z. reply home here event (first_fate z)) h.fates in
    subst (λ (r : Reply). Mirrors d W (at_desk n w d event) (answered s event r)) (sym same)
    (rw (desk_test n d ours) (go (step n d (w.desks d) event)))
  where
    home : Home
    home = home_of hall n d

    here : Seen
    here = up_at w d s.seen.told

    later : (fs : List Fate) → fs ≡ [] → later_fates fs ≡ []
    later fs is = ap (λ z. later_fates z) is

    go : (r : Result Done Refusal)
        → Mirrors d W (world_after w d r) (answered s event (by_step home event here r))
    go (Ok r) =
        record {
          seen = cc (put_self w.desks d r.desk);
          fates = later s.fates h.fates;
          others = λ j ne. put_other w.desks d r.desk j ne ∙ h.others j ne;
          sent =
              cc (
                append_assoc W.sent (all_handed_out (calls_of s.done)) r.messages,
                append-nil
                    r.messages,
                calls_both s.done (Called event (Ok r.messages) ∷ []),
                handed_both
                    (calls_of s.done) (calls_of (Called event (Ok r.messages) ∷ [])),
              );
        }
    go (Err why) =
        record {
          seen = refl;
          fates = later s.fates h.fates;
          others = h.others;
          sent =
              cc (
                calls_both s.done (Called event (Err (refused_as why)) ∷ []),
                handed_both
                    (calls_of s.done) (calls_of (Called event (Err (refused_as why)) ∷ [])),
                append-nil
                    (all_handed_out (calls_of s.done)),
              );
        }

-- ---- what is pushed

-- these are pushed, or answered by a run
mirrors_acts : (d : ℕ) (W w : World) (s : Service) (acts : List Act) → calls_of acts ≡ []
    → Mirrors d W w s → Mirrors d W w (record {
      seen = s.seen;
      waiting = [];
      done = s.done ++ acts;
      fates = s.fates;
    })
mirrors_acts d W w s acts none h =
    record {
      seen = h.seen;
      fates = h.fates;
      others = h.others;
      sent = h.sent ∙ ap (λ z. W.sent ++ all_handed_out z) (sym (no_calls s.done acts none));
    }

mirrors_push : (d : ℕ) (W w : World) (s : Service) → Mirrors d W w s → Mirrors d W w (push_all s)
unfolding push_all
mirrors_push d W w s h =
    mirrors_acts d W w s (map (λ m. Pushed m) s.waiting) (calls_of_pushes s.waiting) h

-- ---- a Start, and a whole turn

mirrors_start : (hall n d before : ℕ) (W w : World) (s : Service) → IsDesk n d → Mirrors d W w s
    → Mirrors d W (started n d before w) (start_if_grown (home_of hall n d) before s)
unfolding start_if_grown
mirrors_start hall n d before W w s ours h =
    let same : grew before s.seen ≡ has_grown before (w.desks d) = ap (λ z. grew before z) h.seen in
    rw same (go (has_grown before (w.desks d)))
  where
    home : Home
    home = home_of hall n d

    go : (t : Bool) → Mirrors d W (if t then at_desk n w d Start else w)
        (if t then push_all (call home Start s) else s)
    go true = mirrors_push d W _ _ (mirrors_call _ n d W w _ s ours h)
    go false = h

first_mirrors : (d : ℕ) (w : World) (told : List ℕ) → Mirrors d w w (begun (up_at w d told) [])
first_mirrors d w told =
    record { seen = refl; fates = refl; others = λ j ne. refl; sent = sym (append-nil w.sent) }

-- what was served has led from the one world to the other
pub record IsServedAs (d : ℕ) (w v : World) (s : Service) : Type 0 where
  pub seen : s.seen ≡ up_at v d s.seen.told
  pub others : (j : ℕ) → ¬ (d ≡ j) → v.desks j ≡ w.desks j
  pub sent : v.sent ≡ w.sent ++ all_handed_out (calls_of s.done)

served_as : (d : ℕ) (w v : World) (s : Service) → Mirrors d w v s → IsServedAs d w v s
served_as d w v s h = record { seen = h.seen; others = h.others; sent = h.sent }

take_turn : (hall n d : ℕ) (w : World) (told : List ℕ) (event : DeskEvent) → IsDesk n d
    → Mirrors d w (turn n w d event) (take (home_of hall n d) event (begun (up_at w d told) []))
unfolding take
take_turn hall n d w told event ours =
    let home : Home = home_of hall n d in
    let first : Service = begun (up_at w d told) [] in
    mirrors_start _ n d _ w _ _ ours (mirrors_push d w _ _
    (mirrors_call _ n d w w _ _ ours (first_mirrors d w _)))

-- a Tick
pub tick_turn : (hall n d : ℕ) (w : World) (told : List ℕ) → IsDesk n d
    → IsServedAs d w (turn n w d Tick) (served (home_of hall n d) (up_at w d told) [] Ticked)
tick_turn hall n d w told ours = served_as d w _ _ (take_turn _ n d w _ _ ours)

-- ---- a message

tell_turn : (hall n d : ℕ) (w : World) (told : List ℕ) (m : Message) → IsDesk n d
    → Mirrors d w (turn n w d (Deliver m)) (tell (home_of hall n d) m (begun (up_at w d told) []))
unfolding tell answer_out
tell_turn hall n d w told m ours = mirrors_start _ n d _ w _ _ ours (go (run_of d called.waiting))
  where
    home : Home
    home = home_of hall n d

    first : Service
    first = begun (up_at w d told) []

    called : Service
    called = call home (Deliver m) first

    kept : Mirrors d w (at_desk n w d (Deliver m)) called
    kept = mirrors_call hall n d w w (Deliver m) first ours (first_mirrors d w told)

    go : (o : Option DecidedRun) → Mirrors d w (at_desk n w d (Deliver m)) (hand_out o called)
    go None = mirrors_push d w (at_desk n w d (Deliver m)) called kept
    go (Some run) =
        mirrors_acts d w (at_desk n w d (Deliver m)) called (Answered run ∷ []) refl kept

learns_one : (home : Home) (from to pos : ℕ) (e : Entry) (s : Service)
    → call home (decided from to pos e) (waits [] s) ≡ learn home from to pos (e ∷ []) s
unfolding learn
learns_one home from to pos e s = go (called home).seen.is_down
  where
    called : Home → Service
    called h = call h (decided from to pos e) (waits [] s)

    go : (t : Bool) → called home ≡ (if t then called home else called home)
    go true = refl
    go false = refl

learn_turn : (hall n d : ℕ) (w : World) (told : List ℕ) (from pos : ℕ) (e : Entry) → IsDesk n d
    → Mirrors d w (turn n w d (Deliver (message from d (Decided pos e))))
    (learn_all (home_of hall n d)
    (record { from = from; to = d; pos = pos; entries = e ∷ [] }) (begun (up_at w d told) []))
unfolding learn_all
learn_turn hall n d w told from pos e ours =
    let home : Home = home_of hall n d in
    let first : Service = begun (up_at w d told) [] in
    let event : DeskEvent = Deliver (message from d (Decided pos e)) in
    mirrors_start _ n d _ w _ _ ours (mirrors_push d w _ _
    (subst (λ (s : Service). Mirrors d w (at_desk n w d event) s) (learns_one _ _ d _ e _)
    (mirrors_call _ n d w w _ _ ours (first_mirrors d w _))))

asked_by : (a b : Bool) (x y r : Request) → a ≡ true → b ≡ true → x ≡ r
    → (if a && b then x else y) ≡ r
asked_by true true x y r p q h = h
asked_by true false x y r p q h = absurd cc
asked_by false b x y r p q h = absurd cc

-- the frame of a message to this desk asks for this
pub message_asked : (hall n d : ℕ) (version : Version) (from : ℕ) (body : Body)
    → request (home_of hall n d) (framed version hall (message from d body))
    ≡ ours from d (what_of body)
message_asked hall n d version from body =
    let one : (hall == hall) ≡ true = grind (arith, nat_tests) in
    let two : (d == d) ≡ true = grind (arith, nat_tests) in
    asked_by _ _ (ours from d (what_of body)) (strange (what_of body)) _ one two refl

by_body : (hall n d : ℕ) (w : World) (told : List ℕ) (from : ℕ) (body : Body) → IsDesk n d
    → Mirrors d w (turn n w d (Deliver (message from d body)))
    (served (home_of hall n d) (up_at w d told) [] (ours from d (what_of body)))
by_body hall n d w told from (Behind len) is = tell_turn hall n d w told _ is
by_body hall n d w told from (Decided pos e) is = learn_turn hall n d w told from pos e is
by_body hall n d w told from _ is = take_turn hall n d w told _ is

-- the frame of a message
pub message_turn : (hall n d : ℕ) (w : World) (told : List ℕ) (version : Version) (m : Message)
    → m.to ≡ d → IsDesk n d → IsServedAs d w (turn n w d (Deliver m))
    (served (home_of hall n d) (up_at w d told) []
    (request (home_of hall n d) (framed version hall m)))
message_turn hall n d w told version m to is =
    subst (λ (z : ℕ). IsServedAs d w (turn n w d (Deliver (message m.from z m.body)))
    (served (home_of hall n d) (up_at w d told) []
    (request (home_of hall n d) (framed version hall (message m.from z m.body))))) (sym to)
    (subst (λ (r : Request). IsServedAs d w (turn n w d (Deliver (message m.from d m.body)))
    (served (home_of hall n d) (up_at w d told) [] r))
    (sym (message_asked hall n d version m.from m.body))
    (served_as d w (turn n w d (Deliver (message m.from d m.body)))
    (served (home_of hall n d) (up_at w d told) [] (ours m.from d (what_of m.body)))
    (by_body hall n d w told m.from m.body is)))
