-- What is seen of a desk while it serves, and what a call of it may come to (the project's own).
use Rattle.std.specs.Prelude.{true, if◌then◌else◌, List, Result, Ok, Err}
use Rattle.acceptor.specs.declared.message.Message.{Message}
use Rattle.proposer.specs.declared.fault.Refusal.{Refusal}
use Rattle.learner.specs.{declared.event.DeskEvent.DeskEvent, Steps.Done, Steps.step}
use Rattle.answers.specs.Seen.{Seen}
use Rattle.replica.specs.{Lengths.told_by, roles.Faults.refused_as}
use Rattle.replica.specs.declared.roles.fault.NodeFault.{NodeFault}
use Rattle.replica.specs.declared.roles.fault.NodeFault.TheVariants.{NoMemory, Down}
use Rattle.store.specs.declared.home.Home.{Home}

-- what happens to a call: it is taken as the protocol has it, memory is refused, or the device
-- fails
pub data Fate : Type 0 where
  Goes : Fate
  Starves : Fate
  Breaks : Fate

-- what a call of the node answers, and what is seen of the node afterwards
pub record Reply : Type 0 where
  pub result : Result (List Message) NodeFault
  pub seen : Seen

abbrev pub by_step : Home → DeskEvent → Seen → Result Done Refusal → Reply
by_step home event x (Ok r) =
    record {
      result = Ok r.messages;
      seen = record {
        desk = r.desk;
        is_down = x.is_down;
        told = told_by home event x.told;
      };
    }
by_step home event x (Err why) = record { result = Err (refused_as why); seen = x }

abbrev pub by_fate : Home → Seen → DeskEvent → Fate → Reply
by_fate home x event Goes = by_step home event x (step home.desks home.desk x.desk event)
by_fate home x event Starves = record { result = Err NoMemory; seen = x }
by_fate home x event Breaks =
    record { result = Err Down; seen = record { desk = x.desk; is_down = true; told = x.told } }

-- a node that is down answers Down
abbrev pub reply : Home → Seen → DeskEvent → Fate → Reply
reply home x event fate =
    if x.is_down then record { result = Err Down; seen = x } else by_fate home x event fate
