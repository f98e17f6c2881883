-- How the answer of a call goes with the step that it stands for (the project's own).
use Rattle.std.specs.Prelude.{◌≡◌, ◌↔◌, Result, Ok, Err, IfOk, IsErrOf}
use Rattle.proposer.specs.declared.{fault.Refusal.Refusal, plan.Plan.Plan}
use Rattle.proposer.specs.declared.fault.StepFault.{StepFault, TheVariants.Refused}

-- the plan of the call is that of the step
abbrev pub PlansAs : Result Plan StepFault → Result Plan Refusal → Type 0
PlansAs result step = IfOk result (λ plan. step ≡ Ok plan)

-- the call is refused exactly where the step is, and for the same reason
abbrev pub RefusesAs : {A B : Type 0} → Result A StepFault → Result B Refusal → Type 0
RefusesAs result step = (why : Refusal) → IsErrOf result (Refused why) ↔ (step ≡ Err why)
