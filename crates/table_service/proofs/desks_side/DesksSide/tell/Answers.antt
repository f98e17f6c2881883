use Rattle.std.proofs.Common.{ap}
use Rattle.table_service.{specs.Services.ServiceOf, specs.Steps.Tells, proofs.Steps.step}
use Rattle.table_service.proofs.desks_side.DesksSide.tell.Goals as goal

pub returns-clause-keeps : goal.returns-clause-keeps
returns-clause-keeps g c =
    step (Tells _) c.args.service.now c.set_desks.new.self c.set_desks.ensures

pub returns-clause-mirror : goal.returns-clause-mirror
returns-clause-mirror g c = ap (λ (s : ServiceOf). s.mirroring) c.set_desks.ensures
