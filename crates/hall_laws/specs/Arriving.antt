-- What a desk is given of a frame that another desk of its hall has pushed (the project's own).
use Rattle.std.specs.Prelude.{◌≡◌, ℕ, ◌+◌, List, [], ◌∷◌, ◌++◌}
use Rattle.acceptor.specs.declared.{entry.Entry.Entry, message.Message.Message}
use Rattle.learner.specs.declared.event.DeskEvent.{DeskEvent, TheVariants.Deliver}
use Rattle.store.specs.declared.home.Home.{Home}
use Rattle.wire.specs.{Laws.AreBytes, Ranges.IsFrame, Stream.front, Stream.Begins}
use Rattle.wire.specs.declared.{frame.Frame.Frame, values.Version.Version}
use Rattle.serving.specs.{Asking.request, Serving.framed, Serving.pushed, Serving.decided}
use Rattle.serving.specs.Telling.{run_frame, run_pushed, entries_said}
use Rattle.serving.specs.declared.request.{Request.Request, DecidedRun.DecidedRun}
use Rattle.serving.specs.declared.request.Request.TheVariants.{Heard, Lagging, Learned}

-- a Decided for each of the entries, the first one at a position and the others after it
abbrev pub decided_each : ℕ → ℕ → ℕ → List Entry → List DeskEvent
decided_each from to pos [] = []
decided_each from to pos (e ∷ es) = decided from to pos e ∷ decided_each from to (pos + 1) es

-- the messages that a request delivers, in order
abbrev pub delivers : Request → List DeskEvent
delivers (Heard m) = Deliver m ∷ []
delivers (Lagging m) = Deliver m ∷ []
delivers (Learned run) = decided_each run.from run.to run.pos run.entries
delivers _ = []

-- Bytes that a desk was pushed, and those that came after them on the connection: the stream begins
-- with this one frame, the later bytes are left, and the frame delivers these messages.
pub record Arrives (home : Home) (bytes more : List ℕ) (events : List DeskEvent) : Type 0 where
  pub frame : Frame
  pub read : front (bytes ++ more) ≡ Begins frame more
  pub given : delivers (request home frame) ≡ events

-- a message that is pushed arrives at the desk that it is for as that message, and as no other
abbrev pub MessagesArrive : Type 0
MessagesArrive =
    (home : Home) (version : Version) (m : Message) (more : List ℕ)
    → m.to ≡ home.desk → IsFrame (framed version home.hall m)
    → AreBytes ((pushed version home.hall m).bytes ++ more)
    → Arrives home (pushed version home.hall m).bytes more (Deliver m ∷ [])

-- a run that is pushed arrives as a Decided for each entry that its frame holds: all of them in
-- version 2, the first one in version 1
abbrev pub RunsArrive : Type 0
RunsArrive =
    (home : Home) (version : Version) (run : DecidedRun) (more : List ℕ)
    → run.to ≡ home.desk → IsFrame (run_frame version home.hall run)
    → AreBytes ((run_pushed version home.hall run).bytes ++ more)
    → Arrives home (run_pushed version home.hall run).bytes more
    (decided_each run.from run.to run.pos (entries_said version run.entries))
