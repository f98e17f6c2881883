use Rattle.table_service.specs.Steps.{Submits}
use Rattle.table_service.proofs.Steps.{both, step, still}
use Rattle.table_service.proofs.desks_side.DesksSide.hand_out.Goals as goal

pub returns-clause-keeps : goal.returns-clause-keeps
returns-clause-keeps g c =
    both c.args.service.now c.follow.new.service c.submit-kept.new.self c.follow.ensures.keeps
    (step (Submits c.args.now) c.follow.new.service c.submit-kept.new.self
    (c.submit-kept.ensures.others, c.submit-kept.ensures.asked))

pub returns-clause-hands : goal.returns-clause-hands
returns-clause-hands g c up = (
  c.follow.new.service,
  c.submit-kept.new.self,
  c.follow.ensures.keeps,
  (c.submit-kept.ensures.others, c.submit-kept.ensures.asked),
  still c.submit-kept.new.self,
)
