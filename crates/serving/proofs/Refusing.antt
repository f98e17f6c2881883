-- Each refusal is an answer in each version.
use Rattle.std.proofs.Common.{refl}
use Rattle.wire.specs.declared.values.{ClientRefusal.ClientRefusal, Version.Version}
use Rattle.wire.proofs.Told.{refusal_told}
use Rattle.serving.specs.Answering.{IsAnswer, IsAnswerIn}
use Rattle.wire.specs.declared.frame.FrameBody.TheVariants as what

pub refuses : (r : ClientRefusal) → IsAnswer (what.Refused r)
refuses r = record { body = λ version. refusal_told version r; way = λ version. refl }

pub refuses_in : (version : Version) (r : ClientRefusal) → IsAnswerIn version (what.Refused r)
refuses_in version r = record { body = refusal_told version r; way = refl }
