use Rattle.std.proofs.Common.{refl}
use Rattle.sqlite_wal.specs.Format.{be32}
use Rattle.desk_file.proofs.log_front.get_be32.Goals as goal

pub returns : goal.returns
unfolding be32
returns c = refl
