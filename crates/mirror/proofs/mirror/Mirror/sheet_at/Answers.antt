use Rattle.answers.proofs.Transcripts.{whole_front}
use Rattle.mirror.proofs.mirror.Mirror.sheet_at.Goals as goal

pub sheet_at-requires : goal.sheet_at-requires
sheet_at-requires c =
    whole_front c.self.inside.transcript c.self.inside.log.entries c.self.invariant
