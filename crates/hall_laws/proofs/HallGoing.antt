-- Each turn of a desk is an event of its hall, and at every moment a hall's run continues: with
-- turns of connections that had none, and with Ticks of its desks.
use Rattle.std.proofs.Common.{◌≡◌, refl, sym, ap, subst, ◌∙◌, ℕ, Bool, true, if◌then◌else◌, eqb}
use Rattle.std.proofs.Common.{List, [], ◌++◌, Option, None, Some, ◌≢◌, suc, ◌+◌, ◌≤◌, false, ◌∷◌}
use Rattle.std.proofs.Common.{arith, ◌&&◌, ◌==◌, map}
use Rattle.std.proofs.lemmas.{Bool.eq-eqb, Bool.ne_eqb, Bool.Decides.nat_tests, List.append-nil}
use Rattle.learner.specs.{Steps.IsDesk, Worlds.World, Worlds.new_world}
use Rattle.serving.specs.Connection.{Begun, Sides, serve_frame}
use Rattle.serving.specs.{Making.Makes, declared.ends.ConnectionEnd.ConnectionEnd, Asking.request}
use Rattle.serving.specs.{Making.Way, Making.calls_of, Turns.LeavesAt, Turns.Talk, Turns.new_talk}
use Rattle.serving.specs.Serving.{Act, Service, served}
use Rattle.serving.specs.TurnLaw.{Place, Turn, Began, Turns}
use Rattle.connections.specs.Connections.{TurnOf, Goes, place_of}
use Rattle.store.specs.declared.{home.Home.Home, keeper.Keeper.Ghosts}
use Rattle.hall_laws.specs.HallRuns.{Station, TurnsAreEvents, OwnTicksAreEvents, SettlingsAreEvents}
use Rattle.hall_laws.specs.HallRuns.{Hall, beside, IsTick, TurnAt, desk_of, home_at, OnlyAt}
use Rattle.hall_laws.specs.HallRuns.{AreDone, seen_of, acts_of, HallStep, AreSteps, connections}
use Rattle.hall_laws.specs.HallRuns.{AreDoneFor, TurnWasSent, TicksItself, hall_after, TakesTurn}
use Rattle.hall_laws.specs.HallRuns.{HallEvent, TickedAt, SettledAt, HallGoes, IsHallRun}
use Rattle.hall_laws.specs.{OwnMessages.sent_after, HallGoing.WorldsFollow, Served.StandsFor}
use Rattle.hall_laws.specs.{Stops.CallsAreHappenings, Stops.real_run, Served.all_handed_out}
use Rattle.wire.specs.declared.{values.Version.Version, frame.Frame.Frame}
use Rattle.hall_laws.proofs.{HallRuns.first_matches, HallNodes.each_of, HallNodes.put_other}
use Rattle.progress.proofs.Aims.{put_self}
use Rattle.hall_laws.proofs.HallSteps.{Matches, step_comes}
use Rattle.serving.specs.declared.request.Request.{Request, TheVariants.Ticked}
use Rattle.hall_laws.specs.HallGoing.{as_it_goes, acts_for, GoesOn, own_tick, TicksGoOn, served_in}
use Rattle.answers.specs.Seen.{Seen}
use Rattle.serving.specs.declared.ends.ConnectionEnd.TheVariants as end

-- what was done for a frame
frame_done : {V : Type 0} (way : Way V) (e : Option ConnectionEnd) (home : Home) (a b : Sides way)
    (one : Begun) (count : ℕ) → LeavesAt e home a b one count
    → (acts : List Act) × AreDoneFor e home a b one acts
frame_done way None home a b one count l = ((serve_frame home a.seen one).acts, refl)
frame_done way (Some end.Stopped) home a b one count l = ((serve_frame home a.seen one).acts, refl)
frame_done way (Some end.Down) home a b one count l = ((serve_frame home a.seen one).acts, refl)
frame_done way (Some end.Frames) home a b one count l = ((serve_frame home a.seen one).acts, refl)
frame_done way (Some end.NoMemory) home a b one count l = (l.0, (l.1, l.2))
frame_done way _ home a b one count l = absurd l

turn_done : {V : Type 0} (way : Way V) (turn : Turn) (a b : Place way) → Turns turn a b
    → (acts : List Act) × AreDone turn a b acts
turn_done way (Began one) a b t = frame_done _ _ _ _ _ _ _ t.1
turn_done way _ a b t = ([], refl)

-- the hall in which desk d is as y, and the calls among these acts have handed out
abbrev pub with_station : {K : Type 0} → Hall K → ℕ → Station K → List Act → Hall K
with_station h d y acts =
    record {
      desks = λ j. if eqb j d then y else h.desks j;
      sent = sent_after h.sent acts;
    }

pub station_here : {K : Type 0} (h : Hall K) (d : ℕ) (y : Station K) (acts : List Act)
    → (with_station h d y acts).desks d ≡ y
station_here {K} h d y acts =
    ap (λ (t : Bool). let z : Station K = if t then y else h.desks d in z) (eq-eqb d d refl)

pub only_here : {K : Type 0} (h : Hall K) (d : ℕ) (y : Station K) (acts : List Act)
    → OnlyAt d acts h (with_station h d y acts)
only_here {K} h d y acts = record {
  others = λ j other.
      ap (λ (t : Bool). let z : Station K = if t then y else h.desks j in z) (ne_eqb j d other);
  sent = refl;
}

pub takes_turn : {K : Type 0} (k : Ghosts K) (n d : ℕ) (h : Hall K) (t : TurnOf) (y : Station K)
    (acts : List Act) → IsDesk n d → y.wire ≡ (h.desks d).wire
    → Goes t (connections k (h.desks d).wire (h.desks d)) (connections k (h.desks d).wire y)
    → AreDone t.turn (place_of (connections k (h.desks d).wire (h.desks d)) t.number)
    (place_of (connections k (h.desks d).wire y) t.number) acts
    → TurnWasSent (home_at k (h.desks d)) h.sent t.turn
    → TakesTurn k n d t acts h (with_station h d y acts)
takes_turn {K} k n d h t y acts ours wire goes done was =
    let x = h.desks d in
    let here = station_here h d y acts in
    record {
      ours = ours;
      turn = rw here goes;
      wire = ap (λ (z : Station K). z.wire) here ∙ wire;
      done = rw here done;
      brings = was;
      only = only_here h d y acts;
    }

pub turns_are_events : {K : Type 0} (k : Ghosts K) → TurnsAreEvents k
turns_are_events {K} k n d h t y ours wire goes was =
    let x = h.desks d in
    let done =
    turn_done _ _ _ _ goes.turn in (
      done.0,
      with_station h d y done.0,
      station_here h d y done.0,
      takes_turn k n d h t y done.0 ours wire goes done.1 was,
    )

-- ---- Ticks of its own

pub ticks_itself : {K : Type 0} (k : Ghosts K) (n d : ℕ) (h : Hall K) (one : Begun)
    (acts rest : List Act) (y : Station K)
    → IsDesk n d → y.wire ≡ (h.desks d).wire → ((j : ℕ) → y.talks j ≡ (h.desks d).talks j)
    → IsTick (home_at k (h.desks d)) one
    → (serve_frame (home_at k (h.desks d)) (seen_of (h.desks d).node) one).acts ≡ acts ++ rest
    → Makes (home_at k (h.desks d)).hall (beside k (h.desks d).wire (h.desks d))
    (beside k (h.desks d).wire y) acts → TicksItself k n d one acts h (with_station h d y acts)
ticks_itself {K} k n d h one acts rest y ours wire talks asked parts made =
    let x = h.desks d in
    let here = station_here h d y acts in
    record {
      ours = ours;
      asked = asked;
      rest = rest;
      parts = parts;
      made = rw here made;
      talks = λ j. ap (λ (z : Station K). z.talks j) here ∙ talks j;
      wire = ap (λ (z : Station K). z.wire) here ∙ wire;
      only = only_here h d y acts;
    }

pub own_ticks_are_events : {K : Type 0} (k : Ghosts K) → OwnTicksAreEvents k
own_ticks_are_events k n d h one acts rest y ours wire talks asked parts made = (
  with_station h d y acts,
  station_here h d y acts,
  ticks_itself k n d h one acts rest y ours wire talks asked parts made,
)

-- ---- settlings

pub settlings_are_events : {K : Type 0} (k : Ghosts K) → SettlingsAreEvents k
settlings_are_events {K} k n d h y ours wire talks settles =
    let here = station_here h d y [] in (
      with_station h d y [],
      here,
      record {
        ours = ours;
        settles = rw here settles;
        talks = λ j. ap (λ (z : Station K). z.talks j) here ∙ talks j;
        wire = ap (λ (z : Station K). z.wire) here ∙ wire;
        only = only_here h d y [];
      },
    )

-- ---- At every moment of a hall's runs each desk has connections that had no turn, and a run
-- continues with further steps.

-- ---- connections that had no turn

-- from some number on none of the connections had a turn
abbrev pub IsFree : {K : Type 0} → Ghosts K → Station K → Type 0
IsFree k x = (b : ℕ) × ((j : ℕ) → b ≤ j → x.talks j ≡ new_talk (home_at k x) x.wire)

-- they are new ones of this desk, where the desk's home is that of its connections
new_again : (talk : Talk) (old new : Home) (wire other : Version)
    → talk ≡ new_talk old wire → talk.home ≡ new → other ≡ wire → talk ≡ new_talk new other
new_again talk old new wire other is home same =
    let homes : new ≡ old = sym home ∙ ap (λ z. z.home) is in
    is ∙ ap (λ z. new_talk z wire) (sym homes) ∙ ap (λ z. new_talk new z) (sym same)

-- where all but some connections are as before
free_later : {K : Type 0} (k : Ghosts K) (x y : Station K) (past : ℕ)
    → ((j : ℕ) → past ≤ j → y.talks j ≡ x.talks j) → y.wire ≡ x.wire
    → ((j : ℕ) → (y.talks j).home ≡ home_at k y) → IsFree k x → IsFree k y
free_later k x y past same wire home free = (
  past + free.0,
  λ j more.
      let late : past ≤ j = omega arith in
      let later : free.0 ≤ j = omega arith in
      new_again _ _ _ _ _ (same j late ∙ free.1 j later) (home j) wire,
)

not_before : (j number : ℕ) → suc number ≤ j → j ≢ number
not_before j number more is = absurd (omega arith)

-- the desk at which the event is
free_here : {K : Type 0} (k : Ghosts K) (n : ℕ) (event : HallEvent) (h g : Hall K)
    → HallGoes k n event h g
    → ((j : ℕ) → ((g.desks (desk_of event)).talks j).home ≡ home_at k (g.desks (desk_of event)))
    → IsFree k (h.desks (desk_of event)) → IsFree k (g.desks (desk_of event))
free_here k n (TurnAt d t acts) h g step home free =
    free_later k (h.desks d) (g.desks d) (suc t.number)
    (λ j more. step.turn.others j (not_before j t.number more)) step.wire home free
free_here k n (TickedAt d one acts) h g step home free =
    free_later k (h.desks d) (g.desks d) 0 (λ j more. step.talks j) step.wire home free
free_here k n (SettledAt d) h g step home free =
    free_later k (h.desks d) (g.desks d) 0 (λ j more. step.talks j) step.wire home free
free_here k n _ h g step home free = (0, λ j more. step.opened.talks j)

pub only_of : {K : Type 0} (k : Ghosts K) (n : ℕ) (event : HallEvent) (h g : Hall K)
    → HallGoes k n event h g → OnlyAt (desk_of event) (acts_of event) h g
only_of k n (TurnAt d t acts) h g step = step.only
only_of k n _ h g step = step.only

-- any desk
free_after : {K : Type 0} (k : Ghosts K) (n : ℕ) (event : HallEvent) (h g : Hall K) (w : World)
    → HallGoes k n event h g → Matches k n g w
    → ((d : ℕ) → IsDesk n d → IsFree k (h.desks d)) → (d : ℕ) → IsDesk n d → IsFree k (g.desks d)
free_after k n event h g w step m free d =
    let at = desk_of event in
    each_of at h.desks g.desks (only_of k n event h g step).others (λ j x. IsDesk n j → IsFree k x)
    (λ mine. free_here k n event h g step (m.talks at mine) (free at mine)) d (λ other. free d)

-- ---- the end of a run

-- the hall matches a world, and its desks have such connections
pub record Stands {K : Type 0} (k : Ghosts K) (n : ℕ) (h : Hall K) : Type 0 where
  pub world : World
  pub matches : Matches k n h world
  pub free : (d : ℕ) → IsDesk n d → IsFree k (h.desks d)

pub stands_after : {K : Type 0} (k : Ghosts K) → CallsAreHappenings k → (n : ℕ) (h : Hall K)
    (ss : List (HallStep K)) → Stands k n h → AreSteps k n h ss → Stands k n (hall_after h ss)
stands_after k law n h [] s steps = s
stands_after {K} k law n h (x ∷ ss) s steps =
    let one = step_comes k law n x.event h x.after s.world s.matches steps.0 in
    let next : Stands k n x.after =
    record {
      world = real_run n s.world one.hs;
      matches = one.matches;
      free =
          free_after k n x.event h x.after (real_run n s.world one.hs) steps.0 one.matches s.free;
    } in
    stands_after k law n x.after ss next steps.1

pub stands_at_end : {K : Type 0} (k : Ghosts K) → CallsAreHappenings k → (n : ℕ) (h : Hall K)
    (ss : List (HallStep K)) → IsHallRun k n h ss → Stands k n (hall_after h ss)
stands_at_end k law n h ss is =
    stands_after k law n h ss
    (record {
      world = new_world;
      matches = first_matches k n h ss is;
      free = λ d ours. (0, λ j more. (is.first d ours).talks j);
    }) is.taken

-- ---- further steps

pub after_both : {K : Type 0} (h : Hall K) (ss more : List (HallStep K))
    → hall_after h (ss ++ more) ≡ hall_after (hall_after h ss) more
after_both h [] more = refl
after_both h (s ∷ ss) more = after_both s.after ss more

steps_both : {K : Type 0} (k : Ghosts K) (n : ℕ) (h : Hall K) (ss more : List (HallStep K))
    → AreSteps k n h ss → AreSteps k n (hall_after h ss) more → AreSteps k n h (ss ++ more)
steps_both k n h [] more one two = two
steps_both k n h (s ∷ ss) more one two = (one.0, steps_both k n s.after ss more one.1 two)

pub run_more : {K : Type 0} (k : Ghosts K) (n : ℕ) (h : Hall K) (ss more : List (HallStep K))
    → IsHallRun k n h ss → AreSteps k n (hall_after h ss) more → IsHallRun k n h (ss ++ more)
run_more k n h ss more is steps =
    record { first = is.first; unsent = is.unsent; taken = steps_both k n h ss more is.taken steps }

-- ---- A hall continues with Ticks of its desks.

-- ---- a run that continues with steps

pub goes_on : {K : Type 0} (k : Ghosts K) (n d : ℕ) (h : Hall K) (ss more : List (HallStep K))
    (events : List HallEvent) (acts : List Act) (y : Station K) (g : Hall K)
    → IsHallRun k n h ss → AreSteps k n (hall_after h ss) more
    → map (λ (s : HallStep K). s.event) more ≡ events
    → hall_after (hall_after h ss) more ≡ g → (g.desks d).node ≡ y.node
    → (g.desks d).handed ≡ y.handed → (g.desks d).wire ≡ y.wire → OnlyAt d acts (hall_after h ss) g
    → GoesOn k n d h ss events acts y
goes_on {K} k n d h ss more events acts y g is steps happened last_is node handed wire only =
    let last : g ≡ hall_after h (ss ++ more) = sym last_is ∙ sym (after_both h ss more) in
    record {
      more = more;
      happened = happened;
      run = run_more k n h ss more is steps;
      node = subst (λ (u : Hall K). (u.desks d).node ≡ y.node) last node;
      handed = subst (λ (u : Hall K). (u.desks d).handed ≡ y.handed) last handed;
      wire = subst (λ (u : Hall K). (u.desks d).wire ≡ y.wire) last wire;
      only = subst (λ (u : Hall K). OnlyAt d acts (hall_after h ss) u) last only;
    }

-- ---- a Tick

both_true : (a b : Bool) (x y : Request) → a ≡ true → b ≡ true → (if a && b then x else y) ≡ x
both_true a b x y p q = ap (λ t. if t && b then x else y) p ∙ ap (λ t. if t then x else y) q

asks_tick : (version : Version) (home : Home) → request home (own_tick version home) ≡ Ticked
asks_tick version home =
    let hall : (home.hall == home.hall) ≡ true = grind (arith, nat_tests) in
    let desk : (home.desk == home.desk) ≡ true = grind (arith, nat_tests) in
    both_true _ _ _ _ hall desk

-- what a frame comes to is what its request does
frame_acts : {K : Type 0} (k : Ghosts K) (x : Station K) (f : Frame) (r : Request)
    → request (home_at k x) f ≡ r
    → (serve_frame (home_at k x) (seen_of x.node) (as_it_goes f)).acts ≡ acts_for k x r
unfolding serve_frame
frame_acts k x f r is = ap (λ z. acts_for k x z) is

-- the desk with these connections
abbrev with_talks : {K : Type 0} → Station K → (ℕ → Talk) → Station K
with_talks y talks =
    record { node = y.node; talks = talks; wire = y.wire; handed = y.handed }

pub ticks_go_on : {K : Type 0} (k : Ghosts K) → TicksGoOn k
ticks_go_on {K} k n d h ss y is mine served =
    goes_on k n d h ss (record { event = event; after = g } ∷ []) (event ∷ []) acts y g is
    (step, tt) refl refl (ap (λ (u : Station K). u.node) here)
    (ap (λ (u : Station K). u.handed) here) (ap (λ (u : Station K). u.wire) here)
    (only_here (hall_after h ss) d z acts)
  where
    x : Station K
    x = (hall_after h ss).desks d

    acts : List Act
    acts = acts_for k x Ticked

    z : Station K
    z = with_talks y x.talks

    g : Hall K
    g = with_station (hall_after h ss) d z acts

    here : g.desks d ≡ z
    here = station_here (hall_after h ss) d z acts

    event : HallEvent
    event = TickedAt d (as_it_goes (own_tick x.wire (home_at k x))) acts

    asks : request (home_at k x) (own_tick x.wire (home_at k x)) ≡ Ticked
    asks = asks_tick x.wire (home_at k x)

    step : HallGoes k n event (hall_after h ss) g
    step =
        ticks_itself k n d (hall_after h ss) (as_it_goes (own_tick x.wire (home_at k x))) acts []
        z mine served.wire (λ j. refl) asks
        (frame_acts k x (own_tick x.wire (home_at k x)) Ticked asks ∙ sym (append-nil acts))
        served.made

-- ---- A hall that continues comes to the world in which its desk has served.

pub worlds_follow : {K : Type 0} (k : Ghosts K) → CallsAreHappenings k → WorldsFollow k
worlds_follow {K} k law n d h ss w r events y is mine at up done goes = record {
  desks = λ j ours.
      each_of d (hall_after h ss).desks g.desks goes.only.others
      (λ i u. u.node.desk ≡ after.desks i)
      (ap (λ z. z.desk) goes.node ∙ ap (λ (z : Seen). z.desk) done.node
      ∙ ap (λ (z : Service). z.seen.desk) same
      ∙ sym (put_self w.desks d (served here seen [] r).seen.desk)) j (λ other. at.desks j ours
      ∙ sym (put_other w.desks d j (served here seen [] r).seen.desk other));
  sent =
      goes.only.sent ∙ ap (λ z. z ++ all_handed_out (calls_of (acts_for k x r))) at.sent
      ∙ ap (λ (z : Service). w.sent ++ all_handed_out (calls_of z.done)) same;
}
  where
    x : Station K
    x = (hall_after h ss).desks d

    g : Hall K
    g = hall_after h (ss ++ goes.more)

    stands : StandsFor k n d (stands_at_end k law n h ss is).world x.node
    stands = ((stands_at_end k law n h ss is).matches.nodes.here d mine).stands

    here : Home
    here = record { hall = (home_at k x).hall; desk = d; desks = n }

    seen : Seen
    seen = record { desk = w.desks d; is_down = false; told = x.node.told }

    home_is : home_at k x ≡ here
    home_is =
        let one = stands.desk in
        let all = stands.desks in
        λ i. record { hall = (home_at k x).hall; desk = one i; desks = all i }

    seen_is : seen_of x.node ≡ seen
    seen_is =
        let known = at.desks d mine in
        λ i. record { desk = known i; is_down = up i; told = x.node.told }

    same : served (home_at k x) (seen_of x.node) [] r ≡ served here seen [] r
    same = λ i. served (home_is i) (seen_is i) [] r

    after : World
    after = served_in n (home_at k x).hall x.node.told w d r
