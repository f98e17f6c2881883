use Rattle.pages.proofs.Answering.{Answers-then}
use Rattle.pages.proofs.laws.rounds_follow.Goals as goal

pub returns : goal.returns
returns g c = λ a b d xs ys zs x y. Answers-then g.S.Service.answers a b d xs ys zs x y
