use Rattle.std.proofs.Common.{Err, Ok, refl}
use Rattle.batch.proofs.Connections.{heard_answers}
use Rattle.batch.proofs.keeping.heard.Goals as goal

pub returns-in-Ok-clause-told : goal.returns-in-Ok-clause-told
returns-in-Ok-clause-told g c =
    record { came = Ok c.in-Ok.given; told = c.in-Ok.ensures.told; heard = c.judged.ensures }

pub returns-in-Ok-clause-answered : goal.returns-in-Ok-clause-answered
returns-in-Ok-clause-answered g c =
    heard_answers c.args.request.now c.in-Ok.given c.judged.result c.judged.ensures
    c.in-Ok.ensures.frame

pub returns-in-Err-clause-told : goal.returns-in-Err-clause-told
returns-in-Err-clause-told g c =
    record { came = Err c.in-Err.fault; told = c.in-Err.ensures.told; heard = refl }
