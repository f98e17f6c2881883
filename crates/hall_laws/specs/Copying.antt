-- Entries that desks of a hall answer, and what they come to, put one after the other (the
-- project's own).
use Rattle.std.specs.Prelude.{ℕ, ◌≡◌, ◌≤◌, ◌⊎◌, List, [], ◌∷◌, ◌++◌, length, take, Some, slice_get}
use Rattle.acceptor.specs.declared.entry.Entry.{Entry}
use Rattle.learner.specs.{Laws.IsPrefix, Steps.IsDesk}
use Rattle.serving.specs.{Answering.entries_from, Asking.request}
use Rattle.serving.specs.Connection.{Begun, answer_frame, serve_frame}
use Rattle.serving.specs.declared.request.Request.TheVariants.{Copied}
use Rattle.store.specs.declared.keeper.Keeper.{Ghosts}
use Rattle.hall_laws.specs.HallRuns.{Hall, HallStep, IsHallRun, ServesAt, hall_after, hall_log}
use Rattle.hall_laws.specs.HallRuns.{home_at, seen_of}
use Rattle.wire.specs.declared.frame.FrameBody.TheVariants as what

-- ---- one answer

-- what an Entries says: the position of its first entry, the length of the log, and the entries
pub record Copy : Type 0 where
  pub position : ℕ
  pub length : ℕ
  pub entries : List Entry

-- in the step after the first `at` desk d begins a frame that asks for entries from this position
-- on, on one of its connections, and its answer is an Entries that says so
pub record AnswersCopy {K : Type 0} (k : Ghosts K) (h : Hall K) (steps : List (HallStep K))
    (at d : ℕ) (copy : Copy) : Type 0 where
  pub step : HallStep K
  pub number : ℕ
  pub one : Begun
  pub serves : ServesAt steps at d number one step
  pub asked : request (home_at k ((hall_after h (take at steps)).desks d)) one.frame
      ≡ Copied copy.position
  pub answered : let x = (hall_after h (take at steps)).desks d in
      (serve_frame (home_at k x) (seen_of x.node) one).answers
      ≡ answer_frame one.frame.version (home_at k x)
      (what.Entries copy.position copy.length copy.entries) ∷ []

-- it says the length of this log and the entries that it has there, as many as an answer has
abbrev pub IsCopyOf : List Entry → Copy → Type 0
IsCopyOf log copy = (copy.length ≡ length log) × (copy.entries ≡ entries_from copy.position log)

-- what any desk answers on any connection is of its log then
abbrev pub HallCopiesAreOfLogs : {K : Type 0} → Ghosts K → Type 0
HallCopiesAreOfLogs {K} k =
    (h : Hall K) (steps : List (HallStep K)) (at d : ℕ) (copy : Copy)
    → AnswersCopy k h steps at d copy → IsCopyOf (hall_log h steps at d) copy

-- ---- logs grow

-- the log of a desk at a moment is a prefix of its log at every later one
abbrev pub HallLogsGrow : {K : Type 0} → Ghosts K → Type 0
HallLogsGrow {K} k =
    (n : ℕ) (h : Hall K) (steps : List (HallStep K)) (i j d : ℕ)
    → IsHallRun k n h steps → IsDesk n d → i ≤ j
    → IsPrefix (hall_log h steps i d) (hall_log h steps j d)

-- ---- answers, one after the other

-- an answer, the desk that gave it, and how many steps were before it
pub record Given : Type 0 where
  pub at : ℕ
  pub desk : ℕ
  pub copy : Copy

-- entries are held, and then those of each answer are put after them
abbrev pub collected : List Entry → List Given → List Entry
collected held [] = held
collected held (one ∷ more) = collected (held ++ one.copy.entries) more

-- Each answer was given by some desk of the hall at some moment, and was asked for from the
-- position at which the entries end that were held before it.
abbrev pub AreCollected : {K : Type 0} → Ghosts K → ℕ → Hall K → List (HallStep K) → List Entry
    → List Given → Type 0
AreCollected k n h steps held [] = Unit {0}
AreCollected k n h steps held (one ∷ more) =
    IsDesk n one.desk × AnswersCopy k h steps one.at one.desk one.copy
    × (one.copy.position ≡ length held) × AreCollected k n h steps (held ++ one.copy.entries) more

-- each was given by desk d, after the first j steps or before
abbrev pub AreOf : ℕ → ℕ → List Given → Type 0
AreOf d j [] = Unit {0}
AreOf d j (one ∷ more) = (one.desk ≡ d) × (one.at ≤ j) × AreOf d j more

-- the entries begin the log of the desk that gave one of these answers, as it was then
pub record BeginsALog {K : Type 0} (h : Hall K) (steps : List (HallStep K)) (given : List Given)
    (entries : List Entry) : Type 0 where
  pub place : ℕ
  pub one : Given
  pub here : slice_get given place ≡ Some one
  pub begins : IsPrefix entries (hall_log h steps one.at one.desk)

-- What was collected is a prefix of a log, whichever desks gave it and at whatever moments, in any
-- order. (Where nothing was asked for it is empty, and begins every log.)
abbrev pub HallCopiesBeginALog : {K : Type 0} → Ghosts K → Type 0
HallCopiesBeginALog {K} k =
    (n : ℕ) (h : Hall K) (steps : List (HallStep K)) (given : List Given)
    → IsHallRun k n h steps → AreCollected k n h steps [] given
    → (given ≡ []) ⊎ BeginsALog h steps given (collected [] given)

-- what one desk alone gave, in any order, is a prefix of its log from the last of these moments on
abbrev pub HallCopiesBeginItsLog : {K : Type 0} → Ghosts K → Type 0
HallCopiesBeginItsLog {K} k =
    (n : ℕ) (h : Hall K) (steps : List (HallStep K)) (given : List Given) (d j : ℕ)
    → IsHallRun k n h steps → AreCollected k n h steps [] given → AreOf d j given
    → IsPrefix (collected [] given) (hall_log h steps j d)

-- and of two lists that were collected in this way, one is a prefix of the other
abbrev pub HallCopiesAgree : {K : Type 0} → Ghosts K → Type 0
HallCopiesAgree {K} k =
    (n : ℕ) (h : Hall K) (steps : List (HallStep K)) (given other : List Given)
    → IsHallRun k n h steps → AreCollected k n h steps [] given → AreCollected k n h steps [] other
    → IsPrefix (collected [] given) (collected [] other)
    ⊎ IsPrefix (collected [] other) (collected [] given)
