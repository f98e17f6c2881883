-- A model of the code: the plan that is worked out for an event is that of its step.
use Rattle.std.specs.Prelude.{◌≡◌, List, Result, Ok, IfOk}
use Rattle.acceptor.specs.declared.message.Message.{Message}
use Rattle.proposer.specs.{Refusals.RefusesAs, declared.plan.Plan.Plan}
use Rattle.proposer.specs.declared.fault.{Refusal.Refusal, StepFault.StepFault}
use Rattle.learner.specs.{declared.event.DeskEvent.DeskEvent, Desks.Desk}
use Rattle.learner.specs.Steps.{Done, done, step}
use Rattle.replica.specs.{declared.roles.fault.NodeFault.NodeFault, Nodes.NodeValue}
use Rattle.replica.specs.{roles.model.RunningDesks.RunningDesk, Stores.HoldsStep}
use Rattle.store.specs.declared.{home.Home.Home, keeper.Keeper.Ghosts}
use Rattle.replica.specs.Handles.{IsIgnored, Takes, step_at}

-- the plan, or the refusal, is that of the step of desk x
pub record IsPlanned (x : Desk) (planned : Result Plan StepFault)
    (step : Result Done Refusal) : Type 0 where
  pub plan : IfOk planned (λ p. step ≡ Ok (done x p))
  pub refused : RefusesAs planned step

-- the protocol's step for the event at a running desk
abbrev pub running_step : RunningDesk → DeskEvent → Result Done Refusal
running_step x event = step x.desks x.number x.desk event

-- what is answered is what this step says
abbrev pub TakesStep : RunningDesk → Result Done Refusal → RunningDesk
    → Result (List Message) NodeFault → Type 0
TakesStep x s y result = Takes s x.desks x.number x.desk y.desk result

-- what is answered is what each step says whose plan this is
abbrev pub TakesPlan : RunningDesk → Result Plan StepFault → RunningDesk
    → Result (List Message) NodeFault → Type 0
TakesPlan x planned y result =
    (s : Result Done Refusal) → IsPlanned x.desk planned s → TakesStep x s y result

-- a store that is opened again holds the state before each such step or the one after it
abbrev pub HoldsPlan : {K : Type 0} → Ghosts K → K → RunningDesk → Result Plan StepFault → Type 0
HoldsPlan k keeper x planned =
    (s : Result Done Refusal) → IsPlanned x.desk planned s → HoldsStep k keeper x.desk s

-- the two stand for the same desk of the same hall
abbrev pub IsSameDesk : RunningDesk → RunningDesk → Type 0
IsSameDesk x y = (y.number ≡ x.number) × (y.desks ≡ x.desks)

-- what is answered to an event at the desk of this home, which is x before it and y after it
abbrev pub TakesAt : Home → Desk → DeskEvent → Desk → Result (List Message) NodeFault → Type 0
TakesAt home x event y result = Takes (step_at home x event) home.desks home.desk x y result

-- the protocol's step for the event at this node
abbrev pub step_of : {K : Type 0} → Ghosts K → NodeValue K → DeskEvent → Result Done Refusal
step_of k node event = step_at (k.home_of node.keeper) node.desk event

-- the node's desk neither changes nor sends anything at the event
abbrev pub Ignores : {K : Type 0} → Ghosts K → NodeValue K → DeskEvent → Type 0
Ignores k node event =
    let home = k.home_of node.keeper in IsIgnored home.desks home.desk node.desk event
