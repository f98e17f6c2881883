use Rattle.std.proofs.Common.{refl, arith}
use Rattle.desk_sockets.proofs.asking.question.Goals as goal

pub encode-requires : goal.encode-requires
encode-requires c = record {
  hall = c.ranges.hall.fits;
  goes = (refl, (c.if-desk-lt1.false, c.if-desk-gt5.false));
  body = (omega arith, omega arith);
}
