-- How a desk names what keeps it from a step (the project's own).
use Rattle.proposer.specs.declared.fault.{Refusal.Refusal, StepFault.StepFault}
use Rattle.replica.specs.declared.roles.fault.NodeFault.{NodeFault, TheVariants.NoMemory}
use Rattle.replica.specs.declared.roles.fault.NodeFault.TheVariants.{Busy, LogFull, BallotsSpent}
use Rattle.proposer.specs.declared.fault.Refusal.TheVariants as refusal
use Rattle.proposer.specs.declared.fault.StepFault.TheVariants as step

-- the fault for a refusal of the protocol's step
abbrev pub refused_as : Refusal → NodeFault
refused_as refusal.Busy = Busy
refused_as refusal.LogFull = LogFull
refused_as refusal.BallotsSpent = BallotsSpent

abbrev pub fault_of : StepFault → NodeFault
fault_of (step.Refused why) = refused_as why
fault_of step.NoMemory = NoMemory
