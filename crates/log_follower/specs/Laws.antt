-- Laws of followers, whatever calls are made (the project's own).
use Rattle.std.specs.Prelude.{◌≡◌, ◌⊎◌, ◌↔◌, ℕ, ◌+◌, ◌≤◌, ◌<◌, List, [], ◌∷◌, length, take}
use Rattle.std.specs.Prelude.{Bool, Option, None, Some, true, false, Contains}
use Rattle.mirror.specs.declared.mirror.MirrorGrowth.TheVariants.{Grew}
use Rattle.desk_talks.specs.KeptConnections.{is_used_up}
use Rattle.log_follower.specs.declared.stages.FollowAction.{FollowAction}
use Rattle.log_follower.specs.declared.stages.FollowAction.TheVariants.{Rest, Open, Ask, Close, Stop}
use Rattle.log_follower.specs.Following.{IsPlace, next_place, wait_of}
use Rattle.log_follower.specs.Histories.{Answered, Followed, History, Leads, Then, acted, action_at}
use Rattle.log_follower.specs.Histories.{IsTimed, differed, last_question, last_try, latest}
use Rattle.log_follower.specs.Histories.{longest, behind_since, opening, openings, tried_in_vain}
use Rattle.log_follower.specs.Histories.{unanswered}

-- a follower after a history, and a time that isn't before it
pub record IsReached (desks : ℕ) (h : History) (s : Followed) (now : ℕ) : Type 0 where
  pub leads : Leads desks h s
  pub timed : IsTimed h
  pub later : latest h ≤ now

-- ---- pace

-- a quarter of a second after this time
abbrev pub IsAfter : Option ℕ → ℕ → Type 0
IsAfter None now = Unit {0}
IsAfter (Some last) now = last + 250 ≤ now

abbrev pub IsPaced : FollowAction → History → ℕ → Type 0
IsPaced (Open desk) h now = IsAfter (last_try h) now
IsPaced (Ask desk) h now = IsAfter (last_question h) now
IsPaced _ h now = Unit {0}

-- A question is asked a quarter of a second after the one before, whichever desks they go to,
-- unless a full answer came since, or it was answered with something of use and then somebody said
-- that the next may come at once. A connection is opened a quarter of a second after the last
-- question or opening, with the same exceptions.
abbrev pub QuestionsArePaced : Type 0
QuestionsArePaced =
    (desks : ℕ) (h : History) (s : Followed) (now : ℕ) → IsReached desks h s now
    → IsPaced (action_at s now) h now

-- However often the caller is in a hurry: where nothing of use was answered since the last question
-- or opening, a connection is opened a quarter of a second after it.
abbrev pub HurriesNeedAnswers : Type 0
HurriesNeedAnswers =
    (desks : ℕ) (h : History) (s : Followed) (now since desk : ℕ) → Leads desks h s
    → tried_in_vain h ≡ Some since → action_at s now ≡ Open desk → since + 250 ≤ now

-- Over a connection that is used up the desk answers no more: it is closed, and the next desk's may
-- be opened at once. Over any other one the desk is to be asked.
abbrev pub GoesOn : Bool → Followed → ℕ → Type 0
GoesOn false s now = action_at s now ≡ Ask s.follower.desk
GoesOn true s now =
    (action_at s now ≡ Close s.follower.desk)
    × (action_at (acted s now) now ≡ Open (next_place s.follower.desks s.follower.desk))

-- an answer that brings new entries and leaves some of the log, of a desk that isn't behind, lets
-- the next question come at any time
abbrev pub FullAnswersGoOn : Type 0
FullAnswersGoOn =
    (desks : ℕ) (h : History) (s : Followed) (now held length later : ℕ)
    → Leads desks (Then h (Answered now (Some Grew) held length)) s → differed h ≡ false
    → held < length → longest h ≤ length → GoesOn (is_used_up s.line.asked) s later

-- ---- desks that are left

-- the connection is to be closed, and the next desk to be followed
pub record IsLeft (s : Followed) (now : ℕ) : Type 0 where
  pub closes : action_at s now ≡ Close s.follower.desk
  pub next : (acted s now).follower.desk ≡ next_place s.follower.desks s.follower.desk

-- a desk to which no connection is open two seconds after its opening was begun, or that has not
-- answered two seconds after a question, is left
abbrev pub SilentDesksAreLeft : Type 0
SilentDesksAreLeft =
    (desks : ℕ) (h : History) (s : Followed) (now since : ℕ) → Leads desks h s → differed h ≡ false
    → (opening h ≡ Some since) ⊎ (unanswered h ≡ Some since) → since + 2000 ≤ now → IsLeft s now

-- a desk that has been behind for five seconds is left
abbrev pub BehindDesksAreLeft : Type 0
BehindDesksAreLeft =
    (desks : ℕ) (h : History) (s : Followed) (now since : ℕ) → Leads desks h s
    → differed h ≡ false → behind_since h ≡ Some since → since + 5000 ≤ now → IsLeft s now

-- ---- turns

-- the first connection is opened to the first desk, and each later one to the next desk
abbrev pub IsNextOf : ℕ → ℕ → List ℕ → Type 0
IsNextOf desks desk [] = desk ≡ 1
IsNextOf desks desk (before ∷ more) = desk ≡ next_place desks before

abbrev pub AreInTurn : ℕ → List ℕ → Type 0
AreInTurn desks [] = Unit {0}
AreInTurn desks (desk ∷ more) = IsNextOf desks desk more × AreInTurn desks more

-- each desk is among the last to which connections were opened, as many as there are desks
abbrev pub EachIsAmong : ℕ → List ℕ → Type 0
EachIsAmong desks opened =
    (desk : ℕ) → IsPlace desk desks → desks ≤ length opened → Contains (take desks opened) desk

abbrev pub NoneIsForgotten : Type 0
NoneIsForgotten =
    (desks : ℕ) (h : History) (s : Followed) → IsPlace 1 desks → Leads desks h s
    → AreInTurn desks (openings h) × EachIsAmong desks (openings h)

-- ---- the end, and waiting

-- nothing is done any more exactly if entries came that differ from those that were held
abbrev pub StopsForGood : Type 0
StopsForGood =
    (desks : ℕ) (h : History) (s : Followed) (now : ℕ) → Leads desks h s
    → (action_at s now ≡ Stop) ↔ (differed h ≡ true)

-- a caller that waits as long as `wait` says finds something to be done, and before that there is
-- nothing to be done
abbrev pub Wakes : Type 0
Wakes =
    (desks : ℕ) (h : History) (s : Followed) (now moment : ℕ)
    → IsReached desks h s now → now ≤ moment
    → (¬ (action_at s moment ≡ Rest)) ↔ (now + wait_of s.follower s.line now ≤ moment)
