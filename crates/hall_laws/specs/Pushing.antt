-- What is pushed while a request is served, said of what the calls hand out and not of the order in
-- which serving does things (the project's own).
use Rattle.std.specs.Prelude.{◌≡◌, ℕ, ◌-◌, Bool, true, false, if◌then◌else◌, List, [], ◌∷◌, ◌++◌}
use Rattle.std.specs.Prelude.{length, map, take, drop, Option, None, Some, Result, Err}
use Rattle.acceptor.specs.declared.message.Message.{Message}
use Rattle.answers.specs.Seen.{Seen}
use Rattle.hall_laws.specs.{Arriving.delivers, Served.handed_out}
use Rattle.learner.specs.Learning.{told}
use Rattle.learner.specs.declared.event.DeskEvent.{DeskEvent, TheVariants.Submit, TheVariants.Tick}
use Rattle.replica.specs.declared.roles.fault.NodeFault.{NodeFault}
use Rattle.serving.specs.{Making.calls_of, Nodes.Fate, Telling.run_of}
use Rattle.serving.specs.Serving.{Act, Called, Pushed, Answered, Service, served}
use Rattle.serving.specs.declared.request.Request.{Request, TheVariants.Ticked}
use Rattle.serving.specs.declared.request.Request.TheVariants.{Heard, Lagging, Learned, Entered}
use Rattle.serving.specs.declared.request.DecidedRun.{DecidedRun}
use Rattle.store.specs.declared.home.Home.{Home}
use Rattle.replica.specs.declared.roles.fault.NodeFault.TheVariants as fault

-- the messages that the calls among these acts handed out, in order
abbrev pub handed : List Act → List Message
handed [] = []
handed (Called e r ∷ acts) = handed_out r ++ handed acts
handed (Pushed m ∷ acts) = handed acts
handed (Answered run ∷ acts) = handed acts

-- a run says what a Decided for each of its entries says
abbrev pub said_by : DecidedRun → List Message
said_by run = told run.from run.to run.pos run.entries

-- the messages that were pushed, in order; a run counts as the messages that it stands for
abbrev pub pushed_messages : List Act → List Message
pushed_messages [] = []
pushed_messages (Called e r ∷ acts) = pushed_messages acts
pushed_messages (Pushed m ∷ acts) = m ∷ pushed_messages acts
pushed_messages (Answered run ∷ acts) = said_by run ++ pushed_messages acts

-- the runs that were pushed
abbrev pub runs_pushed : List Act → List DecidedRun
runs_pushed [] = []
runs_pushed (Called e r ∷ acts) = runs_pushed acts
runs_pushed (Pushed m ∷ acts) = runs_pushed acts
runs_pushed (Answered run ∷ acts) = run ∷ runs_pushed acts

-- a call's answer says that the desk is down
abbrev pub says_down : Result (List Message) NodeFault → Bool
says_down (Err fault.Down) = true
says_down _ = false

-- what was done after the first call that said so
abbrev pub after_down : List Act → List Act
after_down [] = []
after_down (Called e r ∷ acts) = if says_down r then acts else after_down acts
after_down (Pushed m ∷ acts) = after_down acts
after_down (Answered run ∷ acts) = after_down acts

-- ---- what is pushed

-- how many acts at the front are left out: of a frame of several Decided entries, the calls for all
-- entries but the last
abbrev pub left_out : Request → ℕ
left_out (Learned run) = length run.entries - 1
left_out _ = 0

-- what is to be pushed: all that the calls hand out, to other desks and to the desk itself, in
-- order, but for what is left out
abbrev pub due : Request → List Act → List Message
due r acts = handed (drop (left_out r) acts)

-- While the desk is up, exactly what is due is pushed: each message once, in the order in which it
-- was handed out, and nothing else. At any moment, whether or not the desk goes down, what was
-- pushed is a front part of what was due by then: no message is pushed before the call that hands
-- it out. Where the desk has gone down, what still waited is dropped: nothing is pushed after the
-- call that said so.
pub record ArePushed (r : Request) (s : Service) : Type 0 where
  pub while_up : s.seen.is_down ≡ false → pushed_messages s.done ≡ due r s.done
  pub so_far : (k : ℕ) → (rest : List Message)
      × (pushed_messages (take k s.done) ++ rest ≡ due r (take k s.done))
  pub none_after : pushed_messages (after_down s.done) ≡ []

abbrev pub MessagesArePushed : Type 0
MessagesArePushed =
    (home : Home) (x : Seen) (fates : List Fate) (r : Request) → ArePushed r (served home x fates r)

-- ---- which of it as a run

abbrev pub as_list : Option DecidedRun → List DecidedRun
as_list None = []
as_list (Some run) = run ∷ []

-- a desk that says how long its log is may be answered by a run, made of what the first call hands
-- out; no other request is
abbrev pub runs_due : Home → Request → List Act → List DecidedRun
runs_due home (Lagging m) acts = as_list (run_of home.desk (handed (take 1 acts)))
runs_due home _ acts = []

-- these runs are pushed, and no others; all else is pushed message by message
abbrev pub RunsAreDue : Type 0
RunsAreDue =
    (home : Home) (x : Seen) (fates : List Fate) (r : Request)
    → runs_pushed (served home x fates r).done ≡ runs_due home r (served home x fates r).done

-- ---- what is called first

-- the events that a request itself asks for
abbrev pub asks_for : Request → List DeskEvent
asks_for (Heard m) = delivers (Heard m)
asks_for (Lagging m) = delivers (Lagging m)
asks_for (Learned run) = delivers (Learned run)
asks_for (Entered e) = Submit e ∷ []
asks_for Ticked = Tick ∷ []
asks_for _ = []

-- The first acts are calls with the events that the request asks for, one each, in order; where the
-- desk goes down, the events that are left are dropped. So what is left out for a frame of several
-- Decided entries is what the calls for all of them but the last hand out.
pub record AreGiven (r : Request) (acts : List Act) (is_down : Bool) : Type 0 where
  pub dropped : List DeskEvent
  pub first : map (λ c. c.event) (calls_of (take (length (asks_for r)) acts)) ++ dropped
      ≡ asks_for r
  pub while_up : is_down ≡ false → dropped ≡ []

abbrev pub EventsComeFirst : Type 0
EventsComeFirst =
    (home : Home) (x : Seen) (fates : List Fate) (r : Request)
    → AreGiven r (served home x fates r).done (served home x fates r).seen.is_down

-- for a request that asks for none, nothing is called and nothing is pushed
abbrev pub OthersDoNothing : Type 0
OthersDoNothing =
    (home : Home) (x : Seen) (fates : List Fate) (r : Request)
    → asks_for r ≡ [] → (served home x fates r).done ≡ []
