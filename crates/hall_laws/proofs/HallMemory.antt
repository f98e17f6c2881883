-- Halls of desks over keepers that never fail can serve what a majority asks by itself.
use Rattle.std.proofs.Common.{◌≡◌, ◌≤◌, false, inl, inr, refl, sym, ap, subst, ◌∙◌, ℕ, zero, suc}
use Rattle.std.proofs.Common.{List, [], ◌∷◌, ◌++◌, length, map, Option, None, Some, arith}
use Rattle.std.proofs.lemmas.List.{append-nil, append_assoc}
use Rattle.acceptor.specs.declared.{entry.Entry.Entry, stored.Stored.Stored}
use Rattle.acceptor.specs.declared.message.{Body.Body, Body.TheVariants.Prepare, Message.Message}
use Rattle.learner.{specs.Chosen.Has, specs.Chosen.IsMajority, proofs.Contents.message_at}
use Rattle.learner.specs.{Contents.BodyHolds, Steps.IsDesk, Worlds.nth_sent}
use Rattle.replica.specs.{Handles.IsInFrame, Lengths.nothing_told, roles.Opening.opened}
use Rattle.acceptor.specs.Ballots.{no_ballot}
use Rattle.replica.specs.Nodes.{NodeValue}
use Rattle.serving.specs.{Adding.Push, Adding.Hands, Asking.ours, Asking.request, Making.calls_of}
use Rattle.serving.specs.Serving.{Act, begun, framed, served, what_of}
use Rattle.serving.specs.TurnLaw.{Came, Began}
use Rattle.connections.specs.Connections.{TurnOf}
use Rattle.serving.specs.declared.request.Request.{Request, TheVariants.Entered, TheVariants.Ticked}
use Rattle.store.specs.declared.home.Home.{Home}
use Rattle.wire.specs.Spelling.{spelling}
use Rattle.wire.specs.declared.{frame.Frame.Frame, values.Version.Version}
use Rattle.progress.specs.Progress.{IsAmong}
use Rattle.hall_laws.specs.HallGoing.{IsServedTo, acts_for, as_it_goes, comes_over, own_tick}
use Rattle.hall_laws.specs.{HallGoing.ticked, HallServing.IsOwnRequest, Tangle.first_hall}
use Rattle.hall_laws.specs.HallRuns.{Station, Hall, home_at, seen_of, TurnAt, HallStep, HallGoes}
use Rattle.hall_laws.specs.HallRuns.{AreSteps, IsHallRun, IsTakenIn, hall_after}
use Rattle.hall_laws.specs.HallServing.{OwnTurn, DeskTicks, MessageComes, frame_of, asked_of}
use Rattle.hall_laws.specs.HallServing.{events_of_message, events_of_turn, IsOwn, AreOwnTurns}
use Rattle.hall_laws.specs.{Memory.Memory, Pushing.asks_for, Stops.CallsAreHappenings}
use Rattle.hall_laws.{specs.Memory.memory, proofs.Contents.EventHolds, proofs.Contents.IsMade}
use Rattle.hall_laws.proofs.{HallEntries.entered_only, Keeping.AllMay, Keeping.served_keeps}
use Rattle.hall_laws.proofs.HallGoing.{stands_at_end, after_both, Stands}
use Rattle.hall_laws.proofs.HallSound.{Sound, SoundAt, sound_works}
use Rattle.hall_laws.proofs.HallSteps.{step_comes, tick_works, turn_works}
use Rattle.hall_laws.proofs.Memory.{Led, NoDown, led_call, led_quiet}
use Rattle.hall_laws.proofs.ServedTurns.{home_of, message_asked}

-- ---- a request

-- before anything is done for it
first_led : (home : Home) (x : NodeValue Memory) → SoundAt home x
    → Led home x (begun (seen_of x) [])
first_led home x s = record {
  node = x;
  lead = refl;
  seen = refl;
  works = s.works;
  at = s.at;
  holds = s.holds;
  range = s.range;
  fates = refl;
  quiet = tt;
}

-- what is served of a request, whose events fit
pub led_served : (home : Home) → IsDesk home.desks home.desk → (x : NodeValue Memory) (r : Request)
    → AllMay (EventHolds IsInFrame home.desks) (asks_for r) → SoundAt home x
    → Led home x (served home (seen_of x) [] r)
led_served home mine x r may s =
    served_keeps home (EventHolds IsInFrame home.desks) (λ t. Led home x t) (record {
      calls = λ event t fine l. led_call home mine x t event fine l;
      adds = λ acts t none l. led_quiet home x t acts none l;
      drops = λ t l.
          record {
            node = l.node;
            lead = l.lead;
            seen = l.seen;
            works = l.works;
            at = l.at;
            holds = l.holds;
            range = l.range;
            fates = l.fates;
            quiet = l.quiet;
          };
      starts = tt;
    }) (seen_of x) [] r may (first_led home x s)

-- what a message to the desk asks for fits
body_may : (home : Home) (from to : ℕ) (body : Body) → BodyHolds IsInFrame (IsMade home.desks) body
    → AllMay (EventHolds IsInFrame home.desks) (asks_for (ours from to (what_of body)))
body_may home from to (Prepare b pos) h = (h, tt)
body_may home from to _ h = (h, tt)

pub is_asked : (hall n d : ℕ) (version : Version) (m : Message) → m.to ≡ d
    → request (home_of hall n d) (framed version hall m) ≡ ours m.from d (what_of m.body)
is_asked hall n d version m to = cc (message_asked hall n d version m.from m.body)

-- a desk of the hall and a message to it
pub led_message : (hall n d : ℕ) → IsDesk n d → (x : NodeValue Memory) (version : Version)
    (m : Message) → BodyHolds IsInFrame (IsMade n) m.body → SoundAt (home_of hall n d) x → m.to ≡ d
    → Led (home_of hall n d) x
    (served (home_of hall n d) (seen_of x) [] (request (home_of hall n d) (framed version hall m)))
led_message hall n d mine x version m h s to =
    subst (λ (r : Request). Led (home_of hall n d) x (served (home_of hall n d) (seen_of x) [] r))
    (sym (is_asked hall n d version m to))
    (led_served (home_of hall n d) mine x (ours m.from d (what_of m.body))
    (body_may (home_of hall n d) m.from d m.body h) s)

pub never_enters : (from to : ℕ) (body : Body) (e : Entry) → ours from to (what_of body) ≡ Entered e
    → ⊥
never_enters from to (Prepare b pos) e is = absurd cc
never_enters from to _ e is = absurd cc

-- what other desks are handed is no longer recorded
pub hands_none : (o : Option (List Push)) (more : List Push) → Hands o None more
hands_none None more = tt
hands_none (Some xs) more = tt

pub served_to : (r : Request) (x : Station Memory)
    → Led (home_at memory x) x.node (served (home_at memory x) (seen_of x.node) [] r)
    → (y : Station Memory) × IsServedTo memory r x y
served_to r x l = (
  record { node = l.node; talks = x.talks; wire = x.wire; handed = None },
  record {
    made = record { calls = l.lead; pushes = hands_none x.handed _ };
    node = sym l.seen;
    wire = refl;
  },
)

-- what is said of the home that a sound desk has
at_home : (hall n d : ℕ) (x : Station Memory) (P : Home → Type 0)
    → SoundAt (home_of hall n d) x.node → P (home_of hall n d) → P (home_at memory x)
at_home hall n d x P s p = subst P (sym s.at) p

-- ---- steps

steps_front : (n : ℕ) (h : Hall Memory) (ss more : List (HallStep Memory))
    → AreSteps memory n h (ss ++ more) → AreSteps memory n h ss
steps_front n h [] more is = tt
steps_front n h (s ∷ ss) more is = (is.0, steps_front n s.after ss more is.1)

pub steps_back : (n : ℕ) (h : Hall Memory) (ss more : List (HallStep Memory))
    → AreSteps memory n h (ss ++ more) → AreSteps memory n (hall_after h ss) more
steps_back n h [] more is = is
steps_back n h (s ∷ ss) more is = steps_back n s.after ss more is.1

pub front_run : (n : ℕ) (h : Hall Memory) (ss more : List (HallStep Memory))
    → IsHallRun memory n h (ss ++ more) → IsHallRun memory n h ss
front_run n h ss more is =
    record { first = is.first; unsent = is.unsent; taken = steps_front n h ss more is.taken }

-- ---- the steps of a turn

sound_ticked : (hall n d : ℕ) (g : Hall Memory) (now : List (HallStep Memory))
    → IsDesk n d → Stands memory n g → Sound hall n g
    → map (λ (s : HallStep Memory). s.event) now ≡ ticked memory d (g.desks d) ∷ []
    → AreSteps memory n g now → Sound hall n (hall_after g now)
sound_ticked hall n d g (x ∷ []) mine at s is steps =
    let same : x.event ≡ ticked memory d (g.desks d) = cc in
    let own = s.desks d mine in
    let quiet = at_home hall n d (g.desks d)
    (λ (z : Home). NoDown (calls_of (served z (seen_of (g.desks d).node) [] Ticked).done)) own
    (led_served (home_of hall n d) mine (g.desks d).node Ticked (tt, tt) own).quiet in
    sound_works hall n (ticked memory d (g.desks d)) g x.after
    (tick_works memory n d (as_it_goes (own_tick (g.desks d).wire (home_at memory (g.desks d))))
    (acts_for memory (g.desks d) Ticked) g x.after (at.matches.talks d mine)
    (subst (λ e. HallGoes memory n e g x.after) same steps.0))
    quiet (λ e enters. absurd enters.begins) s
sound_ticked hall n d g _ mine at s is steps = absurd cc

-- the two steps in which any frame comes
pub sound_frame : (hall n d : ℕ) → CallsAreHappenings memory → (g : Hall Memory)
    (now : List (HallStep Memory)) (number : ℕ) (f : Frame) (acts : List Act) → IsDesk n d
    → Stands memory n g → Sound hall n g → NoDown (calls_of acts)
    → ((e : Entry) → IsTakenIn e (calls_of acts) → IsInFrame e)
    → map (λ (s : HallStep Memory). s.event) now ≡ comes_over d number f acts
    → AreSteps memory n g now → Sound hall n (hall_after g now)
sound_frame hall n d law g (x ∷ y ∷ []) number f acts mine at s quiet taken is steps =
    sound_works hall n (TurnAt d begins acts) x.after y.after
    (turn_works memory n d begins acts x.after y.after
    ((step_comes memory law n x.event g x.after at.world at.matches steps.0).matches.talks d mine)
    (subst (λ e. HallGoes memory n e x.after y.after) two steps.1.0))
    quiet (λ e enters. taken e enters.taken) (sound_works hall n (TurnAt d came []) g x.after
    (turn_works memory n d came [] g x.after (at.matches.talks d mine)
    (subst (λ e. HallGoes memory n e g x.after) one steps.0))
    tt (λ e enters. absurd enters.taken) s)
  where
    came : TurnOf
    came = record { number = number; turn = Came (spelling f) }

    begins : TurnOf
    begins = record { number = number; turn = Began (as_it_goes f) }

    one : x.event ≡ TurnAt d came []
    one = cc

    two : y.event ≡ TurnAt d begins acts
    two = cc
sound_frame hall n d law g _ number f acts mine at s quiet taken is steps = absurd cc

-- a message that was sent to a desk
sound_came : (hall n : ℕ) → CallsAreHappenings memory → (g : Hall Memory)
    (now : List (HallStep Memory)) (number : ℕ) (m : Message) → IsDesk n m.to
    → Stands memory n g → Sound hall n g → BodyHolds IsInFrame (IsMade n) m.body
    → map (λ (s : HallStep Memory). s.event) now ≡ comes_over m.to number (frame_of memory g m)
    (acts_for memory (g.desks m.to) (asked_of memory (g.desks m.to) (frame_of memory g m)))
    → AreSteps memory n g now → Sound hall n (hall_after g now)
sound_came hall n law g now number m mine at s fits is steps =
    sound_frame hall n m.to law g now number (frame_of memory g m) acts mine at s quiet taken is
    steps
  where
    u : Station Memory
    u = g.desks m.to

    acts : List Act
    acts = acts_for memory u (asked_of memory u (frame_of memory g m))

    own : SoundAt (home_of hall n m.to) u.node
    own = s.desks m.to mine

    quiet : NoDown (calls_of acts)
    quiet =
        at_home hall n m.to u (λ (h : Home). NoDown (calls_of (served h (seen_of u.node) []
        (request h (framed (g.desks m.from).wire h.hall m))).done)) own
        (led_message hall n m.to mine u.node (g.desks m.from).wire m fits own refl).quiet

    taken : (e : Entry) → IsTakenIn e (calls_of acts) → IsInFrame e
    taken e has =
        absurd (never_enters m.from m.to m.body e
        (sym (is_asked hall n m.to (g.desks m.from).wire m refl)
        ∙ entered_only (home_of hall n m.to) (seen_of u.node) []
        (request (home_of hall n m.to) (framed (g.desks m.from).wire hall m)) e
        (subst (λ (h : Home). IsTakenIn e (calls_of (served h (seen_of u.node) []
        (request h (framed (g.desks m.from).wire h.hall m))).done)) own.at has)))

-- what was sent fits
pub sent_fits : (hall n : ℕ) (g : Hall Memory) (at : ℕ) (m : Message) → Sound hall n g
    → nth_sent g.sent at ≡ Some m → BodyHolds IsInFrame (IsMade n) m.body
sent_fits hall n g zero m s is = absurd cc
sent_fits hall n g (suc k) m s is = message_at IsInFrame (IsMade n) g.sent k m s.sent is

sound_own : (hall n d : ℕ) → CallsAreHappenings memory → (desks : List ℕ) (start : ℕ)
    (g : Hall Memory) (t : OwnTurn) (now : List (HallStep Memory))
    → IsMajority n desks → Has desks d → Stands memory n g → Sound hall n g
    → map (λ (s : HallStep Memory). s.event) now ≡ events_of_turn memory d g t
    → IsOwn desks start g t → AreSteps memory n g now → Sound hall n (hall_after g now)
sound_own hall n d law desks start g DeskTicks now major has at s is own steps =
    sound_ticked hall n d g now (major.ours d has) at s is steps
sound_own hall n d law desks start g (MessageComes number i) now major has at s is own steps =
    go (nth_sent g.sent i) refl is own.1
  where
    go : (o : Option Message) → nth_sent g.sent i ≡ o
        → map (λ (s : HallStep Memory). s.event) now ≡ events_of_message memory g number o
        → IsAmong desks o → Sound hall n (hall_after g now)
    go None same happened among = absurd among
    go (Some m) same happened among =
        sound_came hall n law g now number m (major.ours m.to among.1) at s
        (sent_fits hall n g i m s same) happened steps

-- ---- turns, one after the other

pub sound_along : (hall n d : ℕ) → CallsAreHappenings memory → (desks : List ℕ) (start : ℕ)
    (h : Hall Memory) (ss : List (HallStep Memory)) (turns : List OwnTurn)
    (more : List (HallStep Memory)) → IsMajority n desks → Has desks d
    → Sound hall n (hall_after h ss) → IsHallRun memory n h (ss ++ more)
    → AreOwnTurns memory d desks start h ss turns more → Sound hall n (hall_after h (ss ++ more))
sound_along hall n d law desks start h ss [] more major has s is own =
    subst (λ (z : List (HallStep Memory)). Sound hall n (hall_after h z))
    (sym (ap (λ z. ss ++ z) own ∙ append-nil ss)) s
sound_along hall n d law desks start h ss (t ∷ turns) more major has s is own =
    subst (λ (z : List (HallStep Memory)). Sound hall n (hall_after h z)) (sym whole)
    (sound_along hall n d law desks start h (ss ++ now) turns later major has next
    (subst (λ (z : List (HallStep Memory)). IsHallRun memory n h z) whole is) own.5)
  where
    now : List (HallStep Memory)
    now = own.0

    later : List (HallStep Memory)
    later = own.1

    whole : ss ++ more ≡ (ss ++ now) ++ later
    whole = ap (λ z. ss ++ z) own.2 ∙ sym (append_assoc ss now later)

    run : IsHallRun memory n h (ss ++ now)
    run =
        front_run n h (ss ++ now) later
        (subst (λ (z : List (HallStep Memory)). IsHallRun memory n h z) whole is)

    next : Sound hall n (hall_after h (ss ++ now))
    next =
        subst (λ (z : Hall Memory). Sound hall n z) (sym (after_both h ss now))
        (sound_own hall n d law desks start (hall_after h ss) t now major has
        (stands_at_end memory law n h ss (front_run n h ss now run)) s own.3 own.4
        (steps_back n h ss now run.taken))

-- ---- the premise

pub works_along_memory : (hall n d : ℕ) → CallsAreHappenings memory → (desks : List ℕ)
    (h : Hall Memory) (ss : List (HallStep Memory)) → IsMajority n desks → Has desks d
    → Sound hall n (hall_after h ss) → (turns : List OwnTurn) (more : List (HallStep Memory))
    (j : ℕ) (r : Request)
    → AreOwnTurns memory d desks (length (hall_after h ss).sent) h ss turns more
    → IsHallRun memory n h (ss ++ more) → Has desks j
    → IsOwnRequest memory d desks (length (hall_after h ss).sent) (hall_after h (ss ++ more)) j r
    → (y : Station Memory) × IsServedTo memory r ((hall_after h (ss ++ more)).desks j) y
works_along_memory hall n d law desks h ss major has s turns more j r own is mine asks = go asks
  where
    g : Hall Memory
    g = hall_after h (ss ++ more)

    x : Station Memory
    x = g.desks j

    sound : Sound hall n g
    sound =
        sound_along hall n d law desks (length (hall_after h ss).sent) h ss turns more major has s
        is own

    at : SoundAt (home_of hall n j) x.node
    at = sound.desks j (major.ours j mine)

    go : IsOwnRequest memory d desks (length (hall_after h ss).sent) g j r
        → (y : Station Memory) × IsServedTo memory r x y
    go (inl tick) =
        subst (λ (z : Request). (y : Station Memory) × IsServedTo memory z x y) (sym tick.1)
        (served_to Ticked x
        (at_home hall n j x (λ (u : Home). Led u x.node (served u (seen_of x.node) [] Ticked)) at
        (led_served (home_of hall n j) (major.ours j mine) x.node Ticked (tt, tt) at)))
    go (inr (i, m, late, sent, from, to, asked)) =
        subst (λ (z : Request). (y : Station Memory) × IsServedTo memory z x y) (sym asked)
        (served_to (asked_of memory x (frame_of memory g m)) x
        (subst (λ (u : ℕ). Led (home_at memory x) x.node (served (home_at memory x) (seen_of x.node)
        [] (request (home_at memory x) (framed (g.desks m.from).wire
        (home_at memory (g.desks u)).hall m)))) (sym to)
        (at_home hall n j x (λ (u : Home). Led u x.node (served u (seen_of x.node) []
        (request u (framed (g.desks m.from).wire u.hall m)))) at
        (led_message hall n j (major.ours j mine) x.node (g.desks m.from).wire m
        (sent_fits hall n g i m sound sent) at to))))

-- ---- three desks

-- a desk over an empty log, which has promised nothing, and has tried this number
abbrev pub empty_node : Home → ℕ → NodeValue Memory
empty_node home tried =
    let stored : Stored = record { promised = no_ballot; vote = None; tried = tried } in
    record {
      keeper = record { home = home; stored = stored; log = [] };
      desk = opened stored [];
      is_down = false;
      told = nothing_told;
    }

pub sound_empty : (home : Home) (tried : ℕ) → tried ≤ 9 → SoundAt home (empty_node home tried)
sound_empty home tried few = record {
  at = refl;
  works = record { up = refl; stored = refl; log = refl };
  holds =
      record {
        contents = record { promised = inl refl; vote = tt; log = tt; role = tt; queue = tt };
        numbers = record { tried = omega (arith, few); seen = omega arith };
      };
  range =
      record {
        log = omega arith;
        role = tt;
        vote = tt;
        ballots = record { promised = inl refl; vote = tt; log = tt; role = tt; queue = tt };
      };
}

pub sound_first : Sound 7 3 first_hall
sound_first =
    record { desks = λ d ours. sound_empty (home_of 7 3 d) 0 (omega arith); sent = tt }

pub first_run : IsHallRun memory 3 first_hall []
first_run = record {
  first = λ d ours.
      record {
        node =
            record {
              desks = refl;
              desk = refl;
              first = refl;
              stored = λ honest.
                  record {
                    holds = (refl, refl);
                    only = λ t more may. may;
                    whole = λ never. never;
                  };
            };
        talks = λ j. refl;
      };
  unsent = refl;
  taken = tt;
}
