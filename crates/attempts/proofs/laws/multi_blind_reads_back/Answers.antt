use Rattle.attempts.proofs.MultiBlind.{reads_back as law}
use Rattle.attempts.proofs.laws.multi_blind_reads_back.Goals as goal

pub returns : goal.returns
returns c = law
