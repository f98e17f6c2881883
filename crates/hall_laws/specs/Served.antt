-- What the calls of served frames come to in the world, and of which log a sheet that was written
-- is (the project's own).
use Rattle.std.specs.Prelude.{◌≡◌, ◌≤◌, ℕ, List, [], ◌∷◌, ◌++◌, length, Some, Result, Ok, Err}
use Rattle.acceptor.specs.declared.message.Message.{Message}
use Rattle.formats.specs.declared.events.Event.{Event as EventOf}
use Rattle.learner.specs.declared.event.DeskEvent.{DeskEvent, TheVariants.Deliver}
use Rattle.learner.specs.{Steps.IsDesk, Worlds.World, Worlds.nth_sent}
use Rattle.replica.specs.{Handles.Handles, Nodes.NodeValue}
use Rattle.hall_laws.specs.Stops.{Happening, real_run, with_desk}
use Rattle.serving.specs.Making.{Call, Lead}
use Rattle.answers.specs.{Seen.Seen, Answers.sheet_at}
use Rattle.serving.specs.{Nodes.Fate, Serving.answer, declared.request.Request.TheVariants.Printed}
use Rattle.store.specs.declared.{home.Home.Home, keeper.Keeper.Ghosts}
use Rattle.formats.specs.declared.styles.SheetStyle.{SheetStyle as Style}
use Rattle.replica.specs.declared.roles.fault.NodeFault.{NodeFault}
use Rattle.wire.specs.declared.frame.FrameBody.TheVariants as what

-- the messages that an answer hands out
abbrev pub handed_out : Result (List Message) NodeFault → List Message
handed_out (Ok messages) = messages
handed_out (Err why) = []

abbrev pub all_handed_out : List Call → List Message
all_handed_out [] = []
all_handed_out (c ∷ cs) = handed_out c.answer ++ all_handed_out cs

-- a message that comes to desk d is among those sent, and is for it
abbrev pub IsSentTo : ℕ → List Message → DeskEvent → Type 0
IsSentTo d sent (Deliver m) = (k : ℕ) × (nth_sent sent k ≡ Some m) × (m.to ≡ d)
IsSentTo d sent _ = Unit {0}

-- so is each that comes in these calls: it was sent before them, or handed out by an earlier one
abbrev pub AreSentTo : ℕ → List Message → List Call → Type 0
AreSentTo d sent [] = Unit {0}
AreSentTo d sent (c ∷ cs) = IsSentTo d sent c.event × AreSentTo d (sent ++ handed_out c.answer) cs

-- the node is desk d of n, and knows what that desk knows in the world
pub record StandsFor {K : Type 0} (k : Ghosts K) (n d : ℕ) (w : World)
    (node : NodeValue K) : Type 0 where
  pub ours : IsDesk n d
  pub desks : (k.home_of node.keeper).desks ≡ n
  pub desk : (k.home_of node.keeper).desk ≡ d
  pub known : node.desk ≡ w.desks d

-- Calls of a desk, each as `handle` makes it, happen in the world, where each message that they
-- deliver was sent by the desk that it names: there are happenings after which the desk knows what
-- the node knows after the calls, what they hand out was sent, and nothing else has changed.
abbrev pub CallsAreARun : {K : Type 0} → Ghosts K → Type 0
CallsAreARun {K} k =
    (n d : ℕ) (w : World) (calls : List Call) (x y : NodeValue K)
    → StandsFor k n d w x → AreSentTo d w.sent calls → Lead (Handles k) x calls y
    → (hs : List Happening) × (with_desk w d y.desk (all_handed_out calls) ≡ real_run n w hs)

-- A sheet that is answered for a position is the Regulations' sheet for the accepted commands of
-- the desk's log up to there, and the log is that long.
abbrev pub SheetsAreOfTheLog : Type 0
SheetsAreOfTheLog =
    (home : Home) (x : Seen) (fates : List Fate) (event : EventOf) (round position : ℕ)
    (style : Style) (text : List ℕ)
    → answer home x fates (Printed event round position style) ≡ Some (what.SheetText text)
    → (position ≤ length x.desk.log) × (sheet_at style x.desk.log position event round ≡ Some text)
