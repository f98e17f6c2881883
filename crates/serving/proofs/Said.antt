-- A request that has no answer: what is done for it, and Start behind it.
use Rattle.std.proofs.Common.{◌≡◌, ◌∙◌, ℕ, List, [], ◌++◌, length, None}
use Rattle.store.specs.declared.home.Home.{Home}
use Rattle.serving.specs.{Making.Way, Making.Outside, Nodes.Fate, declared.request.Request.Request}
use Rattle.answers.specs.Seen.{Seen}
use Rattle.serving.specs.model.Reaching.{at, Does, DoesPart}
use Rattle.serving.specs.model.Requests.{AnswersSome, FailsToAnswer}
use Rattle.serving.specs.Serving.{Service, start_if_grown, begun, served, answer}
use Rattle.serving.proofs.Started.{then_start, then_did, then_not, then_part}
use Rattle.serving.proofs.Answered.{took, took_calls, answers_by, fails}

-- the request is this, and then Start where the log grew
pub record IsSaid (home : Home) (f : Service → Service) (r : Request) (x : Seen) : Type 0 where
  pub served_so : (fates : List Fate) → served home x fates r ≡ then_start home f (begun x fates)
  pub silent : (fates : List Fate) → None ≡ answer home x fates r

-- both were done
pub said : {V : Type 0} {way : Way V} (home : Home) (f : Service → Service) (r : Request)
    (before : ℕ) (x y z : Seen) (a b c : Outside way)
    → IsSaid home f r x → before ≡ length x.desk.log → Does home f (at x []) (at y []) a b
    → Does home (start_if_grown home before) (at y []) (at z []) b c
    → AnswersSome home x z r None a c
said home f r before x y z a b c so is d e =
    let acts = d.0 ++ e.0 in
    let past = d.1 ++ e.1 in
    let both =
    then_did home f before x (at y []) (at z []) d.0 e.0 d.1 e.1 a b c is d.2 e.2 in (
      past,
      answers_by home r x z acts past None a c
          (so.served_so past ∙ took home (then_start home f) x z acts past both.reaches)
          (took_calls home (then_start home f) x z acts past both.reaches) both.made
          (so.silent past),
    )

-- memory was refused in the first
pub said_not : {V : Type 0} {way : Way V} (home : Home) (f : Service → Service) (r : Request)
    (x shown : Seen) (a b : Outside way)
    → IsSaid home f r x → DoesPart home f (at x []) shown a b → FailsToAnswer home x shown r a b
said_not home f r x shown a b so d =
    fails home (then_start home f) r x shown a b so.served_so (then_not home f x shown a b d)

-- memory was refused in Start
pub said_part : {V : Type 0} {way : Way V} (home : Home) (f : Service → Service) (r : Request)
    (before : ℕ) (x y shown : Seen) (a b c : Outside way)
    → IsSaid home f r x → before ≡ length x.desk.log → Does home f (at x []) (at y []) a b
    → DoesPart home (start_if_grown home before) (at y []) shown b c
    → FailsToAnswer home x shown r a c
said_part home f r before x y shown a b c so is d e =
    fails home (then_start home f) r x shown a c so.served_so
    (then_part home f before x shown (at y []) d.0 d.1 a b c is d.2 e)
