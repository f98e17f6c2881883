use Rattle.pages.proofs.Answering.{calls_answered}
use Rattle.pages.proofs.laws.each_call_is_answered.Goals as goal

pub returns : goal.returns
returns g c = λ first last turns x k. calls_answered g.S.Service.answers first last turns x k
