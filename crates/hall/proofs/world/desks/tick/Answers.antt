use Rattle.std.proofs.Common.{refl, ap, Err}
use Rattle.replica.specs.roles.model.RunningDesks.{RunningDesk}
use Rattle.hall.proofs.world.Happening.{does_refuse}
use Rattle.hall.proofs.world.desks.tick.Goals as goal

pub returns-in-Err-Refused-clause-ok : goal.returns-in-Err-Refused-clause-ok
returns-in-Err-Refused-clause-ok c =
    let e = c.in-Err-Refused.ensures.refused c.in-Err-Refused.why in
    does_refuse c.args.desk.now c.tick.new.self c.args.sent.now.items c.args.sent.now.items
    c.in-Err-Refused.why _ (e.0 (ap (λ x. Err x) c.in-Err-Refused.field-0-is))
    (ap (λ (z : RunningDesk). z.desk) c.in-Err-Refused.ensures.same) refl
