-- Laws of tickers (the project's own).
use Rattle.std.specs.Prelude.{◌≡◌, ◌⊎◌, ◌↔◌, ℕ, zero, suc, ◌+◌, ◌*◌, ◌≤◌, ◌<◌, min, Bool, true}
use Rattle.std.specs.Prelude.{false, List, [], ◌∷◌, ◌++◌, IsTrue, IsFalse}
use Rattle.std.specs.List.{AllByRecursion}
use Rattle.ticking.specs.Ticking.{IsPeriod, IsDesk, Ticking, Look, new_ticker, slot, first_pause}
use Rattle.ticking.specs.Ticking.{pause, due_at, waits, is_new, is_due, counts_from, after}
use Rattle.ticking.specs.Ticking.{after_all, left}

-- a ticker that was made at a moment, with a good period and for a desk of a hall
pub record IsMadeAt (t : Ticking) (moment : ℕ) : Type 0 where
  pub log : ℕ
  pub period : IsPeriod t.period
  pub desk : IsDesk t.desk t.desks
  pub made : t ≡ new_ticker t.period t.desk t.desks log moment

-- a ticker that was made so and looked at, however often
pub record IsReached (t : Ticking) : Type 0 where
  pub start : Ticking
  pub moment : ℕ
  pub made : IsMadeAt start moment
  pub looks : List Look
  pub ran : t ≡ after_all start looks

-- ---- pauses

pub record AreBounded (t : Ticking) : Type 0 where
  pub least : t.period ≤ pause t true
  pub most : pause t true < 32 * t.period
  pub idle_least : 10 * t.period ≤ pause t false
  pub idle_most : pause t false < 20 * t.period

abbrev pub PausesAreBounded : Ticking → Type 0
PausesAreBounded t = IsReached t → AreBounded t

abbrev pub BacksOff : Ticking → Look → Type 0
BacksOff t l =
    IsReached t → IsTrue (is_due t l)
    → pause (after t l) true ≡ min (2 * pause t true) (16 * first_pause t)

pub record IsFirst (t : Ticking) (moment : ℕ) : Type 0 where
  pub first : pause t true ≡ first_pause t
  pub most : pause t true < 2 * t.period
  pub counts : t.since ≡ moment

abbrev pub FallsBack : Ticking → Look → Type 0
FallsBack t l = IsReached t → IsTrue (is_new t l) → IsFirst (after t l) l.now

-- ---- time

-- a look at this moment saw something new, or a Tick was taken at it
pub record IsLookedAt (t : Ticking) (moment : ℕ) : Type 0 where
  pub before : Ticking
  pub reached : IsReached before
  pub look : Look
  pub counts : IsTrue (counts_from before look)
  pub then : t ≡ after before look
  pub at : moment ≡ look.now

-- the moment at which the ticker was made, or at which it last saw something new or took a Tick
abbrev pub CountsFrom : Ticking → ℕ → Type 0
CountsFrom t moment = IsMadeAt t moment ⊎ IsLookedAt t moment

-- nothing new is seen at these looks
abbrev pub SeesNothingNew : Ticking → List Look → Type 0
SeesNothingNew t [] = Unit {0}
SeesNothingNew t (l ∷ ls) = IsFalse (is_new t l) × SeesNothingNew (after t l) ls

-- nor is a Tick taken
abbrev pub IsQuiet : Ticking → List Look → Type 0
IsQuiet t [] = Unit {0}
IsQuiet t (l ∷ ls) = IsFalse (counts_from t l) × IsQuiet (after t l) ls

-- a Tick is taken at one of these looks
abbrev pub TakesTick : Ticking → List Look → Type 0
TakesTick t [] = ⊥
TakesTick t (l ∷ ls) = IsTrue (is_due t l) ⊎ TakesTick (after t l) ls

-- a Tick is taken exactly where the pause has passed since that moment, so never before a period
-- has, and always after 32
pub record IsInTime (t : Ticking) (moment : ℕ) (due : Bool) (l : Look) : Type 0 where
  pub exact : IsTrue due ↔ (moment + pause t (waits l) ≤ l.now)
  pub early : IsTrue due → moment + t.period ≤ l.now
  pub late : moment + 32 * t.period ≤ l.now → IsTrue due

abbrev pub KeepsTime : Ticking → ℕ → List Look → Look → Type 0
KeepsTime t moment quiet l =
    CountsFrom t moment → IsQuiet t quiet → IsFalse (is_new (after_all t quiet) l)
    → IsInTime t moment (is_due (after_all t quiet) l) l

abbrev pub TicksInTime : Ticking → ℕ → List Look → Look → Type 0
TicksInTime t moment looks last =
    CountsFrom t moment → SeesNothingNew t (looks ++ last ∷ [])
    → moment + 32 * t.period ≤ last.now → TakesTick t (looks ++ last ∷ [])

-- commands wait at a look, and the log is this long
abbrev pub IsStill : ℕ → Look → Type 0
IsStill log l = (l.log ≡ log) × (1 ≤ l.queued)

-- from one look to another nothing happens but that time passes, 16 first pauses or more: at both,
-- and at each between, commands wait, and the log is as long
pub record NothingHappens (t : Ticking) (log : ℕ) (first : Look) (looks : List Look) (last : Look)
    : Type 0 where
  pub still : AllByRecursion (IsStill log) (first ∷ (looks ++ last ∷ []))
  pub begun : t.since ≤ first.now
  pub late : first.now + 16 * first_pause t ≤ last.now

-- said of what is shown alone: what counts as new does not matter
abbrev pub TicksWhereNothingHappens : Ticking → ℕ → Look → List Look → Look → Type 0
TicksWhereNothingHappens t log first looks last =
    IsReached t → NothingHappens t log first looks last
    → TakesTick t (first ∷ (looks ++ last ∷ []))

-- a later look, at which commands wait as at the last one
pub record GoesOn (t : Ticking) (now : ℕ) (l : Look) : Type 0 where
  pub old : IsFalse (is_new t l)
  pub waits : waits l ≡ t.waiting
  pub begun : t.since ≤ now
  pub later : now ≤ l.now

abbrev pub Wakes : Ticking → ℕ → Look → Type 0
Wakes t now l = GoesOn t now l → IsTrue (is_due t l) ↔ (now + left t now ≤ l.now)

-- ---- two desks

-- two desks of one hall whose time counts from the same moment
pub record AreFellows (a b : Ticking) : Type 0 where
  pub period : a.period ≡ b.period
  pub desks : a.desks ≡ b.desks
  pub others : ¬ (a.desk ≡ b.desk)
  pub since : a.since ≡ b.since

-- one moment comes this long after the other
abbrev pub AreApart : ℕ → ℕ → ℕ → Type 0
AreApart gap m n = (m + gap ≤ n) ⊎ (n + gap ≤ m)

-- they are due a slot apart, which is 20 milliseconds or more
pub record AreDueApart (a b : Ticking) (waiting : Bool) : Type 0 where
  pub wide : 20 ≤ slot a
  pub apart : AreApart (slot a) (due_at a waiting) (due_at b waiting)

abbrev pub AreSpread : Ticking → Ticking → Bool → Type 0
AreSpread a b waiting = IsReached a → IsReached b → AreFellows a b → AreDueApart a b waiting

-- the look at which a Tick is due, not later, with commands waiting
abbrev pub due_look : Ticking → Look
due_look t = record { log = t.log; queued = 1; now = due_at t true }

-- the moment of a Tick after this many others, where each is taken when it is due
abbrev pub tick_at : Ticking → ℕ → ℕ
tick_at t zero = due_at t true
tick_at t (suc k) = tick_at (after t (due_look t)) k

-- two desks with commands waiting that saw something new, and have taken no Tick since
pub record HaveBegun (a b : Ticking) : Type 0 where
  pub fellows : AreFellows a b
  pub waiting : IsTrue a.waiting
  pub waiting_too : IsTrue b.waiting
  pub first : a.times ≡ 1
  pub first_too : b.times ≡ 1

-- any of their next five Ticks is a slot apart from any of the other's
abbrev pub StaySpread : Ticking → Ticking → ℕ → ℕ → Type 0
StaySpread a b j k =
    IsReached a → IsReached b → HaveBegun a b → j < 5 → k < 5
    → AreApart (slot a) (tick_at a j) (tick_at b k)
