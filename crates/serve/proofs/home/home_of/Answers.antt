use Rattle.serve.proofs.Stored.{allowed_of, lacks_of, same_of}
use Rattle.serve.proofs.home.home_of.Goals as goal

pub returns-in-Ok-keyed-clause-allowed : goal.returns-in-Ok-keyed-clause-allowed
returns-in-Ok-keyed-clause-allowed c =
    allowed_of c.args.service c.in-Ok.home c.in-Ok.ensures.ok c.in_default.ensures.ok
    c.in-Ok-keyed.ensures.ok

pub returns-in-Err-apart-clause-err : goal.returns-in-Err-apart-clause-err
returns-in-Err-apart-clause-err c =
    same_of c.args.service c.in-Ok.home _ c.in-Ok.ensures.ok c.in-Err-apart.ensures.err

pub returns-in-Err-keyed-clause-err : goal.returns-in-Err-keyed-clause-err
returns-in-Err-keyed-clause-err c =
    lacks_of c.args.service c.in-Ok.home _ c.in-Ok.ensures.ok c.in_default.ensures.ok
    c.in-Err-keyed.ensures.err
