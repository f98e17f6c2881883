use Rattle.std.proofs.Common.{◌∙◌}
use Rattle.learner.specs.declared.event.DeskEvent.TheVariants.{Deliver}
use Rattle.replica.proofs.roles.Steps.{delivery_is_step, if_ok_map}
use Rattle.replica.proofs.roles.running.Running.deliver.Goals as goal

pub ready-requires : goal.ready-requires
ready-requires c = (
  Deliver c.args.message.now,
  delivery_is_step c.args.self.now c.args.message.now c.in_ok-plan.plan c.in_ok-plan.ensures.plan,
)

pub returns-clause-plan : goal.returns-clause-plan
returns-clause-plan c =
    if_ok_map c.ready.result
    (λ p e. delivery_is_step c.args.self.now c.args.message.now p (e ∙ c.in_ok-plan.ensures.plan))
    c.ready.ensures.plan
