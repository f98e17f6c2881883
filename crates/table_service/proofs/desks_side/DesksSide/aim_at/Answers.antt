use Rattle.table_service.{specs.Steps.Aims, proofs.Steps.step}
use Rattle.table_service.proofs.desks_side.DesksSide.aim_at.Goals as goal

pub returns-clause-keeps : goal.returns-clause-keeps
returns-clause-keeps g c = step (Aims c.args.desk) c.args.service.now c.aim.new.self c.aim.ensures
