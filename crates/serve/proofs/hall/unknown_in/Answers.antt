use Rattle.std.proofs.Common.{arith}
use Rattle.serve.proofs.Texts.{no_address_at}
use Rattle.serve.proofs.hall.unknown_in.Goals as goal

pub returns-then-is_none : goal.returns-then-is_none
returns-then-is_none g c =
    no_address_at c.args.texts.now _ c.loop-desk.desk _ c.address_of.result
    (omega (arith, c.from-place.ensures, c.loop-desk.auto.desk)) c.if-place-texts.false
    c.address_of.ensures (cc (c.is_none.ensures, c.if-is_none.true))
