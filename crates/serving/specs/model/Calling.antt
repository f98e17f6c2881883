-- A call of the node, with the messages that wait.
use Rattle.std.specs.Prelude.{◌≡◌, List}
use Rattle.acceptor.specs.declared.message.Message.{Message}
use Rattle.learner.specs.declared.event.DeskEvent.{DeskEvent}
use Rattle.serving.specs.{declared.calls.NodeAnswer.NodeAnswer, Answering.answer_of}
use Rattle.store.specs.declared.home.Home.{Home}
use Rattle.answers.specs.Seen.{Seen}
use Rattle.serving.specs.{Nodes.Fate, Nodes.reply, Making.Handling, Serving.waiting_after}

-- the call came to this fate
pub record Calls (home : Home) (event : DeskEvent) (fate : Fate) (x y : Seen)
    (ms more : List Message) (answer : NodeAnswer) : Type 0 where
  pub answer_is : answer ≡ answer_of (reply home x event fate).result
  pub seen : y ≡ (reply home x event fate).seen
  pub waits : more ≡ waiting_after ms (reply home x event fate).result

-- it is a call of the node's, with the answer of this fate
abbrev pub IsCall : {V : Type 0} → Handling V → Home → DeskEvent → Fate → Seen → V → V → Type 0
IsCall way home event fate x u v = way u event (reply home x event fate).result v

-- the call came to this fate, and its messages were lost
pub record LosesMessages (home : Home) (event : DeskEvent) (fate : Fate) (x y : Seen) : Type 0 where
  pub seen : y ≡ (reply home x event fate).seen
