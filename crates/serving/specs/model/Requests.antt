-- How a request and a frame are served.
use Rattle.std.specs.Prelude.{◌≡◌, List, ◌++◌, Option}
use Rattle.wire.specs.declared.frame.FrameBody.{FrameBody}
use Rattle.store.specs.declared.home.Home.{Home}
use Rattle.serving.specs.{declared.request.Request.Request, Nodes.Fate}
use Rattle.serving.specs.Making.{Way, Outside, Makes}
use Rattle.answers.specs.Seen.{Seen}
use Rattle.serving.specs.Serving.{Act, served, answer, seen_after}

-- all calls and pushes of the request were made, and this is its answer
pub record Answers {V : Type 0} {way : Way V} (home : Home) (x y : Seen) (fates : List Fate)
    (r : Request) (w : Option FrameBody) (old new : Outside way) : Type 0 where
  pub answer_is : w ≡ answer home x fates r
  pub made : Makes home.hall old new (served home x fates r).done
  pub node : y ≡ (served home x fates r).seen
  pub calls : y ≡ seen_after home x (served home x fates r).done fates

-- a front part of the request's calls and pushes was made
pub record AnswersPart {V : Type 0} {way : Way V} (home : Home) (x y : Seen) (fates : List Fate)
    (r : Request) (acts rest : List Act) (old new : Outside way) : Type 0 where
  pub parts : (served home x fates r).done ≡ acts ++ rest
  pub made : Makes home.hall old new acts
  pub node : y ≡ seen_after home x acts fates

abbrev pub AnswersSome : {V : Type 0} → {way : Way V} → Home → Seen → Seen → Request
    → Option FrameBody → Outside way → Outside way → Type 0
AnswersSome home x y r w old new = (fates : List Fate) × Answers home x y fates r w old new

abbrev pub FailsToAnswer : {V : Type 0} → {way : Way V} → Home → Seen → Seen → Request → Outside way
    → Outside way → Type 0
FailsToAnswer home x y r old new =
    (fates : List Fate) × (acts : List Act) × (rest : List Act)
    × AnswersPart home x y fates r acts rest old new
