-- What all serving keeps: a fact of where the service of a frame is, which each call of an event
-- that may be given keeps, and all that is pushed or answered.
use Rattle.learner.{proofs.Cases.by_test, specs.declared.event.DeskEvent.DeskEvent}
use Rattle.std.proofs.Common.{◌≡◌, refl, ℕ, ◌+◌, Bool, true, false, if◌then◌else◌, List, [], ◌∷◌}
use Rattle.std.proofs.Common.{◌++◌, length, map, Option, None, Some, Result, Ok, Err}
use Rattle.acceptor.specs.declared.{entry.Entry.Entry, message.Message.Message}
use Rattle.answers.specs.Seen.{Seen}
use Rattle.learner.specs.declared.event.DeskEvent.TheVariants.{Submit, Start, Tick, Deliver}
use Rattle.replica.specs.declared.roles.fault.NodeFault.{NodeFault}
use Rattle.serving.specs.{Making.calls_of, Nodes.Fate, Telling.run_of}
use Rattle.serving.specs.Serving.{Act, Pushed, call, grew, decided, tell, enter, begun, served}
use Rattle.serving.specs.Serving.{Answered, Service, reply_to, push_all, learn, learn_all, hand_out}
use Rattle.serving.specs.Serving.{waits, start_if_grown, take as take_event, answer_out, entered_by}
use Rattle.serving.specs.declared.request.DecidedRun.{DecidedRun}
use Rattle.serving.specs.declared.request.Request.{Request, TheVariants.Ticked}
use Rattle.serving.specs.declared.request.Request.TheVariants.{Heard, Lagging, Learned, Entered}
use Rattle.store.specs.declared.home.Home.{Home}
use Rattle.hall_laws.specs.{Arriving.decided_each, Pushing.asks_for}

pub calls_of_pushes : (ms : List Message) → calls_of (map (λ m. Pushed m) ms) ≡ []
calls_of_pushes [] = refl
calls_of_pushes (m ∷ ms) = calls_of_pushes ms

abbrev pub AllMay : (DeskEvent → Type 0) → List DeskEvent → Type 0
AllMay may [] = Unit {0}
AllMay may (e ∷ es) = may e × AllMay may es

pub record IsKept (home : Home) (may : DeskEvent → Type 0) (P : Service → Type 0) : Type 0 where
  pub calls : (event : DeskEvent) (s : Service) → may event → P s → P (call home event s)
  pub adds : (acts : List Act) (s : Service) → calls_of acts ≡ [] → P s
      → P (record { seen = s.seen; waiting = []; done = s.done ++ acts; fates = s.fates })
  pub drops : (s : Service) → P s → P (waits [] s)
  pub starts : may Start

-- where the service is once the events that the request asks for are given
abbrev pub given_to : Home → Seen → List Fate → Request → Service
given_to home x fates (Heard m) = call home (Deliver m) (begun x fates)
given_to home x fates (Lagging m) = call home (Deliver m) (begun x fates)
given_to home x fates (Learned run) = learn home run.from run.to run.pos run.entries (begun x fates)
given_to home x fates (Entered e) = call home (Submit e) (begun x fates)
given_to home x fates Ticked = call home Tick (begun x fates)
given_to home x fates _ = begun x fates

module _ (home : Home) (may : DeskEvent → Type 0) (P : Service → Type 0) (k : IsKept home may P)
  where
    push : (s : Service) → P s → P (push_all s)
    unfolding push_all
    push s h = k.adds (map (λ m. Pushed m) s.waiting) s (calls_of_pushes s.waiting) h

    -- a Start and what comes of it
    start_pushed : (s : Service) → P s → P (push_all (call home Start s))
    start_pushed s h = push (call home Start s) (k.calls Start s k.starts h)

    grown : (before : ℕ) (s : Service) → P s → P (start_if_grown home before s)
    unfolding start_if_grown
    grown before s h = by_test P (grew before s.seen) _ _ (λ t. start_pushed s h) (λ t. h)

    learnt : (from to pos : ℕ) (es : List Entry) (s : Service)
        → AllMay may (decided_each from to pos es) → P s → P (learn home from to pos es s)
    unfolding learn
    learnt from to pos [] s is h = h
    learnt from to pos (e ∷ es) s is h =
        go (call home (decided from to pos e) (waits [] s)).seen.is_down
        (k.calls (decided from to pos e) (waits [] s) is.0 (k.drops s h))
        (λ t kept. learnt from to (pos + 1) es t is.1 kept)
      where
        go : (b : Bool) → P (call home (decided from to pos e) (waits [] s))
            → ((t : Service) → P t → P (learn home from to (pos + 1) es t))
            → P (if b then call home (decided from to pos e) (waits [] s)
            else learn home from to (pos + 1) es (call home (decided from to pos e) (waits [] s)))
        go true kept later = kept
        go false kept later = later (call home (decided from to pos e) (waits [] s)) kept

    handed : (o : Option DecidedRun) (s : Service) → P s → P (hand_out o s)
    handed None s h = push s h
    handed (Some run) s h = k.adds (Answered run ∷ []) s refl h

    entered : (r : Result (List Message) NodeFault) (s : Service) → P s → P (entered_by home r s)
    entered (Ok ms) s h = start_pushed s h
    entered (Err why) s h = h

    -- what comes after them
    pub later_keeps : (x : Seen) (fates : List Fate) (r : Request) → P (given_to home x fates r)
        → P (served home x fates r)
    unfolding take_event tell answer_out learn_all enter
    later_keeps x fates (Heard m) h =
        grown (length x.desk.log) (push_all (call home (Deliver m) (begun x fates)))
        (push (call home (Deliver m) (begun x fates)) h)
    later_keeps x fates (Lagging m) h =
        let first = call home (Deliver m) (begun x fates) in
        grown (length x.desk.log) (hand_out (run_of home.desk first.waiting) first)
        (handed (run_of home.desk first.waiting) first h)
    later_keeps x fates (Learned run) h =
        let last = learn home run.from run.to run.pos run.entries (begun x fates) in
        grown (length x.desk.log) (push_all last) (push last h)
    later_keeps x fates (Entered e) h =
        entered (reply_to home (Submit e) (begun x fates)).result
        (call home (Submit e) (begun x fates)) h
    later_keeps x fates Ticked h =
        grown (length x.desk.log) (push_all (call home Tick (begun x fates)))
        (push (call home Tick (begun x fates)) h)
    later_keeps x fates _ h = h

    -- a request is served, whose events may be given
    pub served_keeps : (x : Seen) (fates : List Fate) (r : Request) → AllMay may (asks_for r)
        → P (begun x fates) → P (served home x fates r)
    served_keeps x fates r is h = later_keeps x fates r (first r is)
      where
        first : (q : Request) → AllMay may (asks_for q) → P (given_to home x fates q)
        first (Heard m) is = k.calls (Deliver m) (begun x fates) is.0 h
        first (Lagging m) is = k.calls (Deliver m) (begun x fates) is.0 h
        first (Learned run) is = learnt run.from run.to run.pos run.entries (begun x fates) is h
        first (Entered e) is = k.calls (Submit e) (begun x fates) is.0 h
        first Ticked is = k.calls Tick (begun x fates) is.0 h
        first _ is = h
