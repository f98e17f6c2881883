use Rattle.table_service.{specs.Steps.Awaits, specs.Steps.Hurries, proofs.Steps.step}
use Rattle.table_service.proofs.desks_side.DesksSide.hurry.Goals as goal

pub returns-in-Some-clause-keeps : goal.returns-in-Some-clause-keeps
returns-in-Some-clause-keeps g c =
    step (Awaits _) c.args.service.now c.await_next.new.self c.await_next.ensures

pub returns-in-None-clause-keeps : goal.returns-in-None-clause-keeps
returns-in-None-clause-keeps g c = step Hurries c.args.service.now c.hurry.new.self c.hurry.ensures
