-- Serving: what is done for a frame, and for one frame after the other (the project's own).
use Rattle.std.specs.Prelude.{ℕ, ◌+◌, ◌&&◌, not, nat_lt, Bool, if◌then◌else◌, List, [], ◌∷◌, ◌++◌}
use Rattle.std.specs.Prelude.{length, map, Option, None, Some, Result, Ok, Err}
use Rattle.acceptor.specs.declared.{message.Message.Message, message.Body.Body, entry.Entry.Entry}
use Rattle.learner.specs.declared.event.DeskEvent.{DeskEvent}
use Rattle.learner.specs.declared.event.DeskEvent.TheVariants.{Submit, Start, Tick, Deliver}
use Rattle.wire.specs.{declared.values.Version.Version, Spelling.spelling}
use Rattle.wire.specs.declared.frame.{Frame.Frame, FrameBody.FrameBody}
use Rattle.store.specs.declared.home.Home.{Home}
use Rattle.replica.specs.declared.roles.fault.NodeFault.{NodeFault}
use Rattle.serving.specs.{Adding.Push, Answering.copied, declared.request.DecidedRun.DecidedRun}
use Rattle.answers.specs.Seen.{Seen}
use Rattle.serving.specs.Nodes.{Fate, Goes, Reply, reply}
use Rattle.serving.specs.Answering.{answer_of, answer_first, state, told_what, printed, standing}
use Rattle.serving.specs.Telling.{run_of, run_pushed}
use Rattle.serving.specs.declared.request.Request.{Request, TheVariants.Withheld}
use Rattle.serving.specs.declared.request.Request.TheVariants.{Heard, Lagging, Learned, Entered}
use Rattle.serving.specs.declared.request.Request.TheVariants.{Asked, Printed, Ticked, Stopped}
use Rattle.serving.specs.declared.request.Request.TheVariants.{Inspected, Copied, Strange, Denied}
use Rattle.acceptor.specs.declared.message.Body.TheVariants as body
use Rattle.wire.specs.declared.values.ClientRefusal.TheVariants as refusal
use Rattle.wire.specs.declared.frame.FrameBody.TheVariants as what
use Rattle.replica.specs.declared.roles.fault.NodeFault.TheVariants as fault

-- ---- messages as frames

abbrev pub what_of : Body → FrameBody
what_of (body.Prepare b pos) = what.Prepare b pos
what_of (body.Promise b pos vote) = what.Promise b pos vote
what_of (body.Accept b pos e) = what.Accept b pos e
what_of (body.Accepted b pos) = what.Accepted b pos
what_of (body.Nack b pos promised) = what.Nack b pos promised
what_of (body.Behind len) = what.Behind len
what_of (body.Decided pos e) = what.Decided pos (e ∷ [])

abbrev pub framed : Version → ℕ → Message → Frame
framed version hall m =
    record { version = version; hall = hall; from = m.from; to = m.to; what = what_of m.body }

abbrev pub pushed : Version → ℕ → Message → Push
pushed version hall m = record { to = m.to; bytes = spelling (framed version hall m) }

-- ---- one frame

-- what is done while a frame is served: the node is called, with an event and its answer to it, a
-- message is pushed, or a desk that lacks entries is answered by a run of entries
pub data Act : Type 0 where
  Called : DeskEvent → Result (List Message) NodeFault → Act
  Pushed : Message → Act
  Answered : DecidedRun → Act

-- where the service of a frame is: the node, the messages that wait, what was done, and the fates of
-- the calls to come
pub record Service : Type 0 where
  pub seen : Seen
  pub waiting : List Message
  pub done : List Act
  pub fates : List Fate

-- where no fate is told, a call is taken
abbrev pub first_fate : List Fate → Fate
first_fate [] = Goes
first_fate (f ∷ fs) = f

abbrev pub later_fates : List Fate → List Fate
later_fates [] = []
later_fates (f ∷ fs) = fs

-- an answer's messages go after those that wait; a refusal other than Down adds none, and at Down
-- those that wait are dropped
abbrev pub waiting_after : List Message → Result (List Message) NodeFault → List Message
waiting_after ms (Ok more) = ms ++ more
waiting_after ms (Err fault.Down) = []
waiting_after ms _ = ms

-- the node is called
abbrev pub answered : Service → DeskEvent → Reply → Service
answered s event r =
    record {
      seen = r.seen;
      waiting = waiting_after s.waiting r.result;
      done = s.done ++ Called event r.result ∷ [];
      fates = later_fates s.fates;
    }

abbrev pub reply_to : Home → DeskEvent → Service → Reply
reply_to home event s = reply home s.seen event (first_fate s.fates)

unfoldable pub call : Home → DeskEvent → Service → Service
call home event s = answered s event (reply_to home event s)

-- The messages that wait are pushed in order, those to the desk itself as all others.
unfoldable pub push_all : Service → Service
push_all s =
    record {
      seen = s.seen;
      waiting = [];
      done = s.done ++ map (λ m. Pushed m) s.waiting;
      fates = s.fates;
    }

-- these wait
abbrev pub waits : List Message → Service → Service
waits ms s = record { seen = s.seen; waiting = ms; done = s.done; fates = s.fates }

-- ---- what was done

-- the frames that are pushed, in a version: one for a message, and one for a run
abbrev pub pushes_of : Version → ℕ → List Act → List Push
pushes_of version hall [] = []
pushes_of version hall (Called e r ∷ acts) = pushes_of version hall acts
pushes_of version hall (Pushed m ∷ acts) = pushed version hall m ∷ pushes_of version hall acts
pushes_of version hall (Answered run ∷ acts) =
    run_pushed version hall run ∷ pushes_of version hall acts

-- the node after the calls among these acts, which come to these fates
abbrev pub seen_after : Home → Seen → List Act → List Fate → Seen
seen_after home x [] fates = x
seen_after home x (Called e r ∷ acts) fates =
    seen_after home (reply home x e (first_fate fates)).seen acts (later_fates fates)
seen_after home x (Pushed m ∷ acts) fates = seen_after home x acts fates
seen_after home x (Answered run ∷ acts) fates = seen_after home x acts fates

-- ---- the node's part of a frame

-- the log has more than this many entries, entries wait in the queue, and the node is not down
abbrev pub grew : ℕ → Seen → Bool
grew before x = not x.is_down && nat_lt before (length x.desk.log) && nat_lt 0 (length x.desk.queue)

-- Where the log has more than this many entries now, and entries wait in the queue, Start is given,
-- unless the node is down.
unfoldable pub start_if_grown : Home → ℕ → Service → Service
start_if_grown home before s = if grew before s.seen then push_all (call home Start s) else s

-- an event, its messages, and Start where the log grew
unfoldable pub take : Home → DeskEvent → Service → Service
take home event s =
    start_if_grown home (length s.seen.desk.log) (push_all (call home event s))

-- a desk says what was decided at a position
abbrev pub decided : ℕ → ℕ → ℕ → Entry → DeskEvent
decided from to pos e =
    Deliver (record { from = from; to = to; body = body.Decided pos e })

-- the next entries, unless the node is down
abbrev pub unless_down : (Service → Service) → Service → Service
unless_down next s = if s.seen.is_down then s else next s

-- The entries of a frame from a position on are delivered one after the other, each as an event of
-- its own. What waits of an earlier one is dropped, so only the last one's messages are left; at
-- Down the other entries are dropped.
unfoldable pub learn : Home → ℕ → ℕ → ℕ → List Entry → Service → Service
learn home from to pos [] s = s
learn home from to pos (e ∷ es) s =
    unless_down (λ t. learn home from to (pos + 1) es t)
    (call home (decided from to pos e) (waits [] s))

-- entries, the messages of the last one, and Start where the log grew
unfoldable pub learn_all : Home → DecidedRun → Service → Service
learn_all home run s =
    start_if_grown home (length s.seen.desk.log)
    (push_all (learn home run.from run.to run.pos run.entries s))

-- The answer to a desk that lacks entries: a run of entries goes out as one, and anything else as
-- messages.
abbrev pub hand_out : Option DecidedRun → Service → Service
hand_out None s = push_all s
hand_out (Some run) s =
    record {
      seen = s.seen;
      waiting = [];
      done = s.done ++ Answered run ∷ [];
      fates = s.fates;
    }

unfoldable pub answer_out : Home → Service → Service
answer_out home s = hand_out (run_of home.desk s.waiting) s

-- a desk says how long its log is, the answer, and Start where the log grew
unfoldable pub tell : Home → Message → Service → Service
tell home m s =
    start_if_grown home (length s.seen.desk.log) (answer_out home (call home (Deliver m) s))

-- an entry that was taken is followed by Start
abbrev pub entered_by : Home → Result (List Message) NodeFault → Service → Service
entered_by home (Ok ms) s = push_all (call home Start s)
entered_by home (Err why) s = s

unfoldable pub enter : Home → Entry → Service → Service
enter home e s = entered_by home (reply_to home (Submit e) s).result (call home (Submit e) s)

-- before anything is done for a frame
abbrev pub begun : Seen → List Fate → Service
begun x fates = record { seen = x; waiting = []; done = []; fates = fates }

-- the calls and pushes of a request, with the fates of its calls
abbrev pub served : Home → Seen → List Fate → Request → Service
served home x fates (Heard m) = take home (Deliver m) (begun x fates)
served home x fates (Lagging m) = tell home m (begun x fates)
served home x fates (Learned run) = learn_all home run (begun x fates)
served home x fates (Entered e) = enter home e (begun x fates)
served home x fates Ticked = take home Tick (begun x fates)
served home x fates _ = begun x fates

-- ---- answers

-- the answer, where the frame has one: it is that of the first call; at Down, in whichever call, it
-- is Refused
abbrev pub answer : Home → Seen → List Fate → Request → Option FrameBody
answer home x fates (Entered e) =
    Some (answer_first (what.Taken e.id)
    (answer_of (reply_to home (Submit e) (begun x fates)).result)
    (served home x fates (Entered e)).seen)
answer home x fates (Asked id) = Some (told_what id (first_fate fates) (state x id))
answer home x fates (Printed event round position style) =
    Some (printed x (first_fate fates) event round position style)
answer home x fates (Inspected differs) = Some (what.Standing (standing home x differs))
answer home x fates (Copied position) = Some (copied x (first_fate fates) position)
answer home x fates Ticked =
    Some (answer_first what.Fine
    (answer_of (reply_to home Tick (begun x fates)).result) (served home x fates Ticked).seen)
answer home x fates Stopped = Some what.Fine
answer home x fates Strange = Some (what.Refused refusal.Foreign)
answer home x fates Denied = Some (what.Refused refusal.NotAllowed)
answer home x fates Withheld = Some (what.Refused refusal.HallDiffers)
answer home x fates _ = None
