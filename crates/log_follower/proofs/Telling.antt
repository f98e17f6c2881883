-- A follower and its history say the same.
use Rattle.std.proofs.Common.{◌≡◌, ℕ, ◌≤◌, arith, Bool, true, false, List, Option, None, Some}
use Rattle.std.proofs.Common.{if◌then◌else◌}
use Rattle.desk_talks.specs.KeptConnections.{is_closed, last_of}
use Rattle.desk_talks.specs.declared.kept_connection.ConnectionStage.{ConnectionStage}
use Rattle.log_follower.specs.Following.{Following, behind_after, goes_on, is_behind, is_stopped}
use Rattle.log_follower.specs.Histories.{Acted, Asked, IsTimed, Lost, Start, Then, longest, rests}
use Rattle.log_follower.specs.Histories.{Answered, History, Hurried, last_try, openings, unanswered}
use Rattle.log_follower.specs.Histories.{behind_since, latest, last_question, opening as opening_of}
use Rattle.log_follower.{specs.Laws.IsAfter, proofs.Turns.IsTurn}
use Rattle.log_follower.specs.declared.stages.FollowAction.TheVariants.{Open, Close}
use Rattle.log_follower.proofs.Choices.{asked_in, fresh_in, is_of_use, opening_in, rests_in}

-- the first time is there only where the second is, and isn't after it
abbrev pub IsUpTo : Option ℕ → Option ℕ → Type 0
IsUpTo None last = Unit {0}
IsUpTo (Some question) None = ⊥
IsUpTo (Some question) (Some last) = question ≤ last

-- what a history shows
pub record Shown : Type 0 where
  pub asked : Option ℕ
  pub opening : Option ℕ
  pub question : Option ℕ
  pub tried : Option ℕ
  pub rests : Bool
  pub longest : ℕ
  pub behind : Option ℕ
  pub opened : List ℕ

abbrev pub shown : History → Shown
shown h = record {
  asked = unanswered h;
  opening = opening_of h;
  question = last_question h;
  tried = last_try h;
  rests = rests h;
  longest = longest h;
  behind = behind_since h;
  opened = openings h;
}

-- once the connection is closed or lost
abbrev pub gone : Shown → Shown
gone h = record h { asked = None; opening = None; behind = None }

-- once the next question may come at once
abbrev pub hastened : Bool → Shown → Shown
hastened rested h = record h {
  question = if rested then None else h.question;
  tried = if rested then None else h.tried;
}

-- of a follower to which no entries that differ were reported
pub record Tells (desks : ℕ) (h : Shown) (s : Following) (st : ConnectionStage) : Type 0 where
  pub number : s.desks ≡ desks
  pub runs : is_stopped s.worth ≡ false
  pub asked : asked_in st ≡ h.asked
  pub opening : opening_in st ≡ h.opening
  pub last : last_of st ≡ h.tried
  pub rests : is_of_use s.worth ≡ h.rests
  pub rested : is_of_use s.worth ≡ true → rests_in st ≡ true
  pub most : s.most ≡ h.longest
  pub behind : s.behind ≡ h.behind
  pub alone : is_closed st ≡ true → s.behind ≡ None
  pub turn : IsTurn desks s.desk (is_closed st) h.opened
  pub paced : IsUpTo h.question (last_of st)
  pub fresh : (since : ℕ) → fresh_in st ≡ Some since → IsAfter h.question since

-- ---- times

pub up_to_after : (question last : Option ℕ) (now : ℕ) → IsUpTo question last → IsAfter last now
    → IsAfter question now
up_to_after None last now h free = tt
up_to_after (Some question) None now h free = absurd h
up_to_after (Some question) (Some last) now h free = omega (arith, h, free)

pub after_up_to : (question : Option ℕ) (now : ℕ) → IsAfter question now
    → IsUpTo question (Some now)
after_up_to None now h = tt
after_up_to (Some question) now h = omega (arith, h)

pub after_later : (question : Option ℕ) (now moment : ℕ) → IsAfter question now → now ≤ moment
    → IsAfter question moment
after_later None now moment h later = tt
after_later (Some question) now moment h later = omega (arith, h, later)

-- there is no such time, or it isn't after this one
abbrev pub IsBy : Option ℕ → ℕ → Type 0
IsBy None now = Unit {0}
IsBy (Some time) now = time ≤ now

pub by_later : (time : Option ℕ) (now moment : ℕ) → now ≤ moment → IsBy time now → IsBy time moment
by_later None now moment later h = tt
by_later (Some time) now moment later h = omega (arith, later, h)

behind_by : (is : Bool) (behind : Option ℕ) (now : ℕ) → IsBy behind now
    → IsBy (behind_after is behind now) now
behind_by true None now h = omega arith
behind_by true (Some since) now h = h
behind_by false behind now h = tt

if_by : (none : Bool) (time : Option ℕ) (now : ℕ) → IsBy time now
    → IsBy (if none then None else time) now
if_by true time now h = tt
if_by false time now h = h

abbrev pub AreBy : Option ℕ → Option ℕ → ℕ → Type 0
AreBy last behind now = IsBy last now × IsBy behind now

pub are_later : (last behind : Option ℕ) (now moment : ℕ) → now ≤ moment → AreBy last behind now
    → AreBy last behind moment
are_later last behind now moment later h =
    (by_later last now moment later h.0, by_later behind now moment later h.1)

-- no time that a history shows is after its last call
pub times_of : (h : History) → IsTimed h → AreBy (last_try h) (behind_since h) (latest h)
times_of Start t = (tt, tt)
times_of (Then h (Acted now (Open d))) t =
    (omega arith, by_later (behind_since h) (latest h) now t.1 (times_of h t.0).1)
times_of (Then h (Acted now (Close d))) t =
    (by_later (last_try h) (latest h) now t.1 (times_of h t.0).0, tt)
times_of (Then h (Acted now _)) t =
    are_later (last_try h) (behind_since h) (latest h) now t.1 (times_of h t.0)
times_of (Then h (Asked now question)) t =
    (omega arith, by_later (behind_since h) (latest h) now t.1 (times_of h t.0).1)
times_of (Then h (Answered now taken held length)) t =
    let k = are_later (last_try h) (behind_since h) (latest h) now t.1 (times_of h t.0) in (
      if_by (goes_on taken held length) (last_try h) now k.0,
      behind_by (is_behind (longest h) held length) (behind_since h) now k.1,
    )
times_of (Then h Lost) t = ((times_of h t).0, tt)
times_of (Then h Hurried) t =
    let k = times_of h t in (if_by (rests h) (last_try h) (latest h) k.0, k.1)
times_of (Then h _) t = times_of h t
