use Rattle.std.proofs.{Common.arith, lemmas.Result.on_ok_weaker}
use Rattle.desk_file.proofs.mark.put_byte.Goals as goal

pub returns-in_err-write_at-clause-crash : goal.returns-in_err-write_at-clause-crash
returns-in_err-write_at-clause-crash g c mixes ch leaves =
    c.write_at.ensures.mixed (mixes c.args.db.now) (omega arith) ch leaves

pub returns-clause-crash : goal.returns-clause-crash
returns-clause-crash g c mixes ch leaves =
    c.write_at.ensures.mixed (mixes c.args.db.now) (omega arith) ch (c.sync.ensures.crash ch leaves)

pub returns-clause-put : goal.returns-clause-put
returns-clause-put g c =
    rw c.sync.ensures.seen (on_ok_weaker c.sync.result (λ _.
    c.in_ok-write_at.ensures.written (omega arith)) c.sync.ensures.durable)
