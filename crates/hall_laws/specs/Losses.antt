-- Halls whose desks stop at any moments before they have settled what they changed, again and again
-- (the project's own).
use Rattle.std.specs.Prelude.{ℕ, ◌≡◌, ◌⊎◌, ◌==◌, if◌then◌else◌, List, [], ◌∷◌, ◌++◌}
use Rattle.acceptor.specs.declared.message.Message.{Message}
use Rattle.store.specs.declared.keeper.Keeper.{Ghosts}
use Rattle.hall_laws.specs.HallRuns.{AreSteps, Hall, HallStep, IsHallRun, Station, hall_after}
use Rattle.hall_laws.specs.Lost.{Loses}

-- a hall takes these steps, and then this desk loses this work, and is opened again, as this
pub record Loss (K : Type 0) : Type 0 where
  pub steps : List (HallStep K)
  pub desk : ℕ
  pub work : List (HallStep K)
  pub again : Station K

-- nothing of the work has left the desk: what was sent is what was sent before it
abbrev pub hall_without : {K : Type 0} → Hall K → Loss K → Hall K
hall_without h l = record {
  desks = λ j. if j == l.desk then l.again else (hall_after h l.steps).desks j;
  sent = (hall_after h l.steps).sent;
}

-- the hall after these losses, one after the other
abbrev pub hall_past : {K : Type 0} → Hall K → List (Loss K) → Hall K
hall_past h [] = h
hall_past h (l ∷ ls) = hall_past (hall_without h l) ls

abbrev pub AreLosses : {K : Type 0} → Ghosts K → ℕ → Hall K → List (Loss K) → Type 0
AreLosses k n h [] = Unit {0}
AreLosses k n h (l ∷ ls) =
    AreSteps k n h l.steps × Loses k n l.desk (hall_after h l.steps) l.work l.again
    × AreLosses k n (hall_without h l) ls

-- these messages are the others with some left out
abbrev pub ArePartOf : List Message → List Message → Type 0
ArePartOf ms [] = ms ≡ []
ArePartOf ms (x ∷ xs) = ArePartOf ms xs ⊎ ((more : List Message) × (ms ≡ x ∷ more)
    × ArePartOf more xs)

-- the desks are as in the other hall, and whatever was sent here was sent there, in this order
pub record StandsIn {K : Type 0} (real hall : Hall K) : Type 0 where
  pub desks : (j : ℕ) → hall.desks j ≡ real.desks j
  pub sent : ArePartOf real.sent hall.sent

-- a run goes on so that its desks are as in this hall
pub record GoesOnAs {K : Type 0} (k : Ghosts K) (n : ℕ) (first : Hall K)
    (before : List (HallStep K)) (real : Hall K) : Type 0 where
  pub steps : List (HallStep K)
  pub run : IsHallRun k n first (before ++ steps)
  pub stands : StandsIn real (hall_after first (before ++ steps))

-- Whatever desks lose, at any moments, a hall is where a run leads in which nothing is lost: what
-- is said of every run of a hall is said of the logs of such a hall too. And so it is when the hall
-- has gone on from there.
abbrev pub LossesAreNothing : {K : Type 0} → Ghosts K → Type 0
LossesAreNothing {K} k =
    (n : ℕ) (first : Hall K) (before : List (HallStep K)) (real : Hall K)
    (losses : List (Loss K)) (more : List (HallStep K))
    → IsHallRun k n first before → StandsIn real (hall_after first before)
    → AreLosses k n real losses → AreSteps k n (hall_past real losses) more
    → GoesOnAs k n first before (hall_after (hall_past real losses) more)
