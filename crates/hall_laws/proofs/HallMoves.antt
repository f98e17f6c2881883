-- Frames that come to three desks over keepers that never fail, and desks of these that stop.
use Rattle.std.proofs.Common.{◌≡◌, ◌≢◌, refl, sym, ap, subst, ◌∙◌, ℕ, Bool, true, false}
use Rattle.std.proofs.Common.{if◌then◌else◌, eqb, List, [], ◌∷◌, ◌++◌, length, None, Some, Option}
use Rattle.std.proofs.Common.{arith, ◌<◌, ◌^◌, ◌&&◌, nat_lt, take}
use Rattle.std.{proofs.Math.Seq.take-length, specs.Prelude.IsTrue}
use Rattle.std.proofs.lemmas.Bool.{Decides.nat_tests, eq-eqb, ne_eqb}
use Rattle.acceptor.specs.declared.{ballot.Ballot.Ballot, entry.Entry.Entry}
use Rattle.acceptor.specs.declared.message.{Body.Body, Message.Message, Report.Report}
use Rattle.acceptor.specs.declared.message.Body.TheVariants.{Prepare, Promise, Accept, Accepted}
use Rattle.acceptor.specs.declared.message.Body.TheVariants.{Nack, Behind, Decided}
use Rattle.answers.specs.Seen.{Seen}
use Rattle.learner.{proofs.InRange.messages_are_in_range, specs.Steps.IsDesk, specs.Worlds.nth_sent}
use Rattle.learner.specs.{Contents.BodyHolds, Contents.ReportHolds, Steps.is_in_range, Worlds.after}
use Rattle.learner.specs.{Ranges.IsInRange, declared.event.DeskEvent.TheVariants.Deliver}
use Rattle.replica.specs.{Handles.IsInFrame, Nodes.NodeValue}
use Rattle.serving.specs.{Asking.request, Connection.close_of, Making.calls_of}
use Rattle.serving.specs.Serving.{Act, Service, framed, served, what_of}
use Rattle.serving.specs.declared.request.Request.{Request, TheVariants.Entered}
use Rattle.store.specs.declared.home.Home.{Home}
use Rattle.wire.specs.Ranges.{Goes, IsBallot, IsBody, IsCount, IsFrame, IsPosition, IsReport}
use Rattle.wire.specs.Ranges.{IsDesk as IsDeskOf, way_of}
use Rattle.wire.specs.declared.{frame.Frame.Frame, values.Version.Version}
use Rattle.wire.specs.declared.values.Version.TheVariants.{One, Two, Three, Four, Five}
use Rattle.hall_laws.specs.{HallExample.third_home, OwnMessages.sent_after, Tangle.first_hall}
use Rattle.hall_laws.specs.HallGoing.{GoesOn, IsServedTo, acts_for, as_it_goes, comes_over}
use Rattle.hall_laws.specs.HallRuns.{FrameWasSent, Hall, HallGoes, HallStep, IsHallRun, IsTakenIn}
use Rattle.hall_laws.specs.HallRuns.{Station, hall_after, home_at, seen_of}
use Rattle.hall_laws.{specs.Memory.Memory, specs.Memory.memory, proofs.HallFrames.frames_go_on}
use Rattle.hall_laws.specs.Stops.{CallsAreHappenings, StopsMakeARun}
use Rattle.hall_laws.proofs.{Contents.IsMade, HallEntries.entered_only, HallGoing.with_station}
use Rattle.hall_laws.proofs.{HallFrames.brought, HallMemory.sound_frame, HallMemory.steps_back}
use Rattle.hall_laws.proofs.HallGoing.{after_both, run_more, stands_at_end, only_here, station_here}
use Rattle.hall_laws.proofs.{HallNodes.each_of, HallProgress.came_to, Memory.Led}
use Rattle.hall_laws.proofs.HallMemory.{is_asked, led_message, never_enters, sent_fits, served_to}
use Rattle.hall_laws.proofs.HallSound.{Sound, SoundAt, moved as still_sound}
use Rattle.hall_laws.proofs.{OwnMessages.message_given, Stopping.among_get, Stopping.nth_among}

-- ---- what a run has come to

-- what is seen of the desks, and what they have handed out
pub record Play : Type 0 where
  pub seen : ℕ → Seen
  pub sent : List Message

pub record Played (steps : List (HallStep Memory)) (p : Play) : Type 0 where
  pub run : IsHallRun memory 3 first_hall steps
  pub sound : Sound 7 3 (hall_after first_hall steps)
  pub seen : (d : ℕ) → IsDesk 3 d → seen_of ((hall_after first_hall steps).desks d).node ≡ p.seen d
  pub sent : (hall_after first_hall steps).sent ≡ p.sent

pub record Moves (steps : List (HallStep Memory)) (p : Play) : Type 0 where
  pub more : List (HallStep Memory)
  pub played : Played (steps ++ more) p

-- where desk d is seen so
seen_here : (d : ℕ) (x : Seen) (seen : ℕ → Seen)
    → (let z : Seen = if eqb d d then x else seen d in z) ≡ x
seen_here d x seen =
    ap (λ (t : Bool). let z : Seen = if t then x else seen d in z) (eq-eqb d d refl)

seen_there : (d j : ℕ) (x : Seen) (seen : ℕ → Seen) → j ≢ d
    → (let z : Seen = if eqb j d then x else seen j in z) ≡ seen j
seen_there d j x seen other =
    ap (λ (t : Bool). let z : Seen = if t then x else seen j in z) (ne_eqb j d other)

-- ---- a frame comes

abbrev pub service : Play → ℕ → Request → Service
service p d r = served (third_home d) (p.seen d) [] r

-- desk d was asked this
abbrev pub asked_so : Play → ℕ → Request → Play
asked_so p d r = record {
  seen = λ j. if eqb j d then (service p d r).seen else p.seen j;
  sent = sent_after p.sent (service p d r).done;
}

pub by_frame : CallsAreHappenings memory → (steps : List (HallStep Memory)) (p : Play)
    → Played steps p → (d : ℕ) → IsDesk 3 d → (f : Frame) → IsFrame f
    → FrameWasSent (third_home d) p.sent (as_it_goes f)
    → close_of (third_home d) (p.seen d) (as_it_goes f) ≡ None
    → ((x : NodeValue Memory) → SoundAt (third_home d) x
    → Led (third_home d) x (served (third_home d) (seen_of x) [] (request (third_home d) f)))
    → ((e : Entry) → request (third_home d) f ≡ Entered e → IsInFrame e)
    → Moves steps (asked_so p d (request (third_home d) f))
by_frame law steps p was d mine f good brought stays_open led fits =
    go (frames_go_on memory law 3 d first_hall steps f y.0 was.run mine good brings stays y.1)
  where
    h : Hall Memory
    h = hall_after first_hall steps

    x : Station Memory
    x = h.desks d

    own : SoundAt (third_home d) x.node
    own = was.sound.desks d mine

    at : home_at memory x ≡ third_home d
    at = own.at

    r : Request
    r = request (home_at memory x) f

    acts : List Act
    acts = acts_for memory x r

    there : Led (home_at memory x) x.node (served (home_at memory x) (seen_of x.node) [] r)
    there =
        subst (λ (u : Home). Led u x.node (served u (seen_of x.node) [] (request u f))) (sym at)
        (led x.node own)

    y : (z : Station Memory) × IsServedTo memory r x z
    y = served_to r x there

    brings : FrameWasSent (home_at memory x) h.sent (as_it_goes f)
    brings =
        subst (λ (u : Home). FrameWasSent u h.sent (as_it_goes f)) (sym at)
        (subst (λ (ms : List Message). FrameWasSent (third_home d) ms (as_it_goes f))
        (sym was.sent) brought)

    stays : close_of (home_at memory x) (seen_of x.node) (as_it_goes f) ≡ None
    stays =
        subst (λ (u : Home). close_of u (seen_of x.node) (as_it_goes f) ≡ None) (sym at)
        (subst (λ (u : Seen). close_of (third_home d) u (as_it_goes f) ≡ None)
        (sym (was.seen d mine)) stays_open)

    same : served (home_at memory x) (seen_of x.node) [] r ≡ service p d (request (third_home d) f)
    same =
        let seen = was.seen d mine in λ i. served (at i) (seen i) [] (request (at i) f)

    taken : (e : Entry) → IsTakenIn e (calls_of acts) → IsInFrame e
    taken e has =
        fits e (subst (λ (u : Home). request u f ≡ Entered e) at
        (entered_only (home_at memory x) (seen_of x.node) [] r e has))

    go : (number : ℕ) × GoesOn memory 3 d first_hall steps (comes_over d number f acts) acts y.0
        → Moves steps (asked_so p d (request (third_home d) f))
    go over = record {
      more = goes.more;
      played =
          record {
            run = goes.run;
            sound =
                subst (λ (u : Hall Memory). Sound 7 3 u)
                (sym (after_both first_hall steps goes.more))
                (sound_frame 7 3 d law h goes.more over.0 f acts mine
                (stands_at_end memory law 3 first_hall steps was.run) was.sound there.quiet taken
                goes.happened (steps_back 3 first_hall steps goes.more goes.run.taken));
            seen = λ j ours.
                each_of d h.desks next.desks goes.only.others
                (λ i u. seen_of u.node ≡ (asked_so p d (request (third_home d) f)).seen i)
                (ap (λ (u : NodeValue Memory). seen_of u) goes.node ∙ y.1.node
                ∙ ap (λ (s : Service). s.seen) same ∙ sym (seen_here d now p.seen))
                j (λ other. was.seen j ours ∙ sym (seen_there d j now p.seen other));
            sent = goes.only.sent ∙ (let sent = was.sent in λ i. sent_after (sent i) (same i).done);
          };
    }
      where
        goes : GoesOn memory 3 d first_hall steps (comes_over d over.0 f acts) acts y.0
        goes = over.1

        next : Hall Memory
        next = hall_after first_hall (steps ++ goes.more)

        now : Seen
        now = (service p d (request (third_home d) f)).seen

-- ---- a desk stops

-- desk d is seen so, and nothing was sent
abbrev pub stopped_so : Play → ℕ → Seen → Play
stopped_so p d x =
    record { seen = λ j. if eqb j d then x else p.seen j; sent = sent_after p.sent [] }

-- a step after which desk d is as y, and which hands nothing out
pub by_step : (steps : List (HallStep Memory)) (p : Play) → Played steps p → (d : ℕ)
    → IsDesk 3 d → (step : HallStep Memory) (y : Station Memory)
    → step.after ≡ with_station (hall_after first_hall steps) d y []
    → HallGoes memory 3 step.event (hall_after first_hall steps) step.after
    → SoundAt (third_home d) y.node → Played (steps ++ step ∷ []) (stopped_so p d (seen_of y.node))
by_step steps p was d mine step y is goes sound =
    let h : Hall Memory = hall_after first_hall steps in
    let end : hall_after first_hall (steps ++ step ∷ []) ≡ with_station h d y [] = after_both
    first_hall steps (step ∷ []) ∙ is in
    record {
      run = run_more memory 3 first_hall steps (step ∷ []) was.run (goes, tt);
      sound =
          subst (λ (u : Hall Memory). Sound 7 3 u) (sym end)
          (still_sound 7 3 d [] h (with_station h d y []) was.sound (only_here h d y [])
          (subst (λ (u : Station Memory). SoundAt (third_home d) u.node)
          (sym (station_here h d y [])) sound) tt);
      seen = λ j ours.
          ap (λ (u : Hall Memory). seen_of (u.desks j).node) end
          ∙ each_of d h.desks (with_station h d y []).desks (only_here h d y []).others
          (λ i u. seen_of u.node ≡ (stopped_so p d (seen_of y.node)).seen i)
          (ap (λ (u : Station Memory). seen_of u.node) (station_here h d y [])
          ∙ sym (seen_here d (seen_of y.node) p.seen))
          j (λ other. was.seen j ours ∙ sym (seen_there d j (seen_of y.node) p.seen other));
      sent = cc;
    }

-- ---- what is sent has frames

ballot_fits : (b : Ballot) → IsMade 3 b → IsBallot b
ballot_fits b made =
    let real = made.0 in
    let desk = real.1 in
    (real.0, omega (arith, made.1), (desk.0, omega (arith, desk.1)))

place_fits : (pos : ℕ) → IsTrue (nat_lt pos 65536) → IsPosition pos
place_fits pos h = grind (arith, nat_tests)

later : (a b : Bool) → IsTrue (a && b) → IsTrue b
later true b h = h
later false b h = absurd cc

first : (a b : Bool) → IsTrue (a && b) → IsTrue a
first true b h = refl
first false b h = absurd cc

report_fits : (o : Option Report) → ReportHolds IsInFrame (IsMade 3) o → IsReport o
report_fits None h = tt
report_fits (Some r) h = (ballot_fits r.ballot h.0, h.1)

body_fits : (version : Version) (body : Body) → IsTrue (is_in_range 3 body)
    → BodyHolds IsInFrame (IsMade 3) body → IsBody version (what_of body)
body_fits v (Prepare b pos) h k = (ballot_fits b k, place_fits pos (later _ _ h))
body_fits v (Promise b pos None) h k = (ballot_fits b k.0, place_fits pos (later _ _ h), tt)
body_fits v (Promise b pos (Some r)) h k =
    (ballot_fits b k.0, place_fits pos (later _ _ (first _ _ h)), report_fits (Some r) k.1)
body_fits v (Accept b pos e) h k = (ballot_fits b k.0, place_fits pos (later _ _ h), k.1)
body_fits v (Accepted b pos) h k = (ballot_fits b k, place_fits pos (later _ _ h))
body_fits v (Nack b pos promised) h k =
    (ballot_fits b k.0, place_fits pos (later _ _ (first _ _ h)), ballot_fits promised k.1)
body_fits v (Behind len) h k = grind (arith, nat_tests)
body_fits v (Decided pos e) h k = (one v, (let at = place_fits pos h in omega (arith, at)), (k, tt))
  where
    one : (w : Version) → IsCount w 1
    one One = refl
    one Two = (omega arith, omega arith)
    one Three = (omega arith, omega arith)
    one Four = (omega arith, omega arith)
    one Five = (omega arith, omega arith)

goes_between : (from to : ℕ) (body : Body) → IsDesk 3 from → IsDesk 3 to
    → Goes (way_of (what_of body)) from to
goes_between from to body one two = go body
  where
    both : IsDeskOf from × IsDeskOf to
    both = ((one.0, omega (arith, one.1)), (two.0, omega (arith, two.1)))

    go : (b : Body) → Goes (way_of (what_of b)) from to
    go (Prepare b pos) = both
    go _ = both

pub message_fits : (version : Version) (hall : ℕ) (m : Message) → hall < 2 ^ 32 → IsInRange 3 m
    → BodyHolds IsInFrame (IsMade 3) m.body → IsFrame (framed version hall m)
message_fits version hall m few range fits =
    search (
      few,
      goes_between m.from m.to m.body range.from range.to,
      body_fits version m.body
          range.body fits,
    )

-- every message of a run has a frame, in every version
pub sent_fits_in : CallsAreHappenings memory → StopsMakeARun → (steps : List (HallStep Memory))
    → IsHallRun memory 3 first_hall steps → Sound 7 3 (hall_after first_hall steps)
    → (version : Version) (at : ℕ) (m : Message)
    → nth_sent (hall_after first_hall steps).sent at ≡ Some m → IsFrame (framed version 7 m)
sent_fits_in law stops steps run sound version at m is =
    let came = came_to memory law stops 3 first_hall steps (length steps) run in
    let there = came.1.sent m
    (nth_among (hall_after first_hall (take (length steps) steps)).sent at m
    (subst (λ (ss : List (HallStep Memory)). nth_sent (hall_after first_hall ss).sent at ≡ Some m)
    (sym (take-length steps)) is)) in
    let place = among_get m (after 3 came.0).sent there in
    message_fits version 7 m (omega arith) (messages_are_in_range 3 came.0 place.0 m place.1)
    (sent_fits 7 3 (hall_after first_hall steps) at m sound is)

-- ---- a message comes

-- a run that has come to this
abbrev pub Reached : Play → Type 0
Reached p = (steps : List (HallStep Memory)) × Played steps p

pub reached : {p : Play} (steps : List (HallStep Memory)) → Moves steps p → Reached p
reached steps m = (steps ++ m.more, m.played)

-- a message that was sent comes to its desk, as this one of all that were sent
pub told : CallsAreHappenings memory → (p : Play) → Reached p → (m : Message) → IsInRange 3 m
    → BodyHolds IsInFrame (IsMade 3) m.body → (at : ℕ) → nth_sent p.sent at ≡ Some m
    → close_of (third_home m.to) (p.seen m.to) (as_it_goes (framed Two 7 m)) ≡ None
    → Reached (asked_so p m.to (request (third_home m.to) (framed Two 7 m)))
told law p was m range fits at sent stays =
    reached was.0 (by_frame law was.0 p was.1 m.to range.to (framed Two 7 m)
    (message_fits Two 7 m (omega arith) range fits)
    (brought (third_home m.to) m.to p.sent (framed Two 7 m) (Deliver m ∷ []) refl
    (message_given (third_home m.to) Two m refl) ((at, sent, refl), tt))
    stays (λ x sound. led_message 7 3 m.to range.to x Two m fits sound refl) (λ e is.
    absurd (never_enters m.from m.to m.body e (sym (is_asked 7 3 m.to Two m refl) ∙ is))))
