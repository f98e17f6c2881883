use Rattle.std.proofs.Common.{[]}
use Rattle.std.proofs.KnownBytes.{Consumes-nil}
use Rattle.client.proofs.Heard.{front_none}
use Rattle.client.proofs.hearing.hear.Goals as goal

pub loop-read-init : goal.loop-read-init
loop-read-init g c = ([], Consumes-nil _, c.requires.fresh, front_none)
