-- What is asked in the parts of a step (the project's own).
use Rattle.std.specs.Prelude.{◌≡◌, ◌⊎◌, ℕ, ◌+◌, Bool, true, false, not, List, [], ◌∷◌, length}
use Rattle.std.specs.Prelude.{Option, None, Some, All, map}
use Rattle.indexmap.specs.IndexMap.{index_map_len}
use Rattle.http_server.specs.declared.state.Config.{Config}
use Rattle.http_server.specs.History.{History, IsDone, Rests}
use Rattle.pages.specs.{Kept.places_of, Musts.is_late_at, declared.waiting.TurnOutcome.TurnOutcome}
use Rattle.pages.specs.Musts.{GoesOn, IsAt, IsGone, IsIn, IsLongest, IsMove, IsSame, Musts, Offers}
use Rattle.pages.specs.Musts.{WasLate, came_by, has_failed, has_more, is_in_round, is_offer, joined}
use Rattle.polled.specs.Requests.{Request, Reading, Watching, Closing}
use Rattle.polled.specs.declared.answers.{ReadOutcome.ReadOutcome, Ready.Ready}
use Rattle.pages.specs.declared.table.{Browser.Browser, Step.Step, BrowserTable.BrowserTable}
use Rattle.polled.specs.declared.answers.Ready.TheVariants as ready_is
use Rattle.pages.specs.declared.table.Step.TheVariants as step
use Rattle.pages.specs.declared.waiting.TurnOutcome.TheVariants as turn

-- ---- one browser

-- one offer alone, which failed or not
abbrev pub OffersOnce : ℕ → Bool → List Request → Type 0
OffersOnce k ok asked =
    (one : Request) × Offers k one × (asked ≡ one ∷ []) × (has_failed one ≡ not ok)

abbrev pub ReadsOnce : ℕ → List Request → Type 0
ReadsOnce k asked = (g : ReadOutcome) × (asked ≡ Reading k g ∷ [])

-- the first move, which fails where the offer fails, or where what is read fails or finds no memory
pub record AsksMove (k : ℕ) (h : History) (ok : Bool) (asked : List Request) : Type 0 where
  pub first : Request
  pub move : IsMove k h first
  pub fails : ok ≡ false → (has_failed first ≡ true) ⊎ (is_offer first ≡ false)
  pub all : asked ≡ first ∷ []

-- what came is answered, and what is to be sent by that is offered once
abbrev pub AsksAnswer : ℕ → Config → History → TurnOutcome → List Request → Type 0
AsksAnswer k config h turn.Over asked = OffersOnce k false asked
AsksAnswer k config h turn.Answered asked = OffersOnce k true asked × Rests config h
AsksAnswer k config h turn.Waits asked =
    (asked ≡ []) × (length h.pending ≡ 0) × Rests config h

-- how a turn ends whose moves all succeeded
abbrev pub Comes : History → Bool → TurnOutcome → Type 0
Comes h sent turn.Over = IsDone h
Comes h sent turn.Answered = ¬ (IsDone h) × (turn.Answered ≡ came_by sent h)
Comes h sent turn.Waits = ¬ (IsDone h) × (turn.Waits ≡ came_by sent h)

-- ---- the table

module _ {C : Type 0} where
  -- it has its place, or not, in the latter case whether or not it is watched
  abbrev pub KeepsOn : ℕ → Browser → Bool → BrowserTable C → BrowserTable C → List Request → Type 0
  KeepsOn k b true old new asked =
      (asked ≡ Watching k (has_more b.connection) true ∷ []) × IsAt k b old new
  KeepsOn k b false old new asked =
      ((w : Bool) × (asked ≡ Watching k (has_more b.connection) w ∷ [])) × IsSame old new

  -- it has its place, or its connection is ended
  abbrev pub SettlesBy : ℕ → Browser → Bool → BrowserTable C → BrowserTable C → List Request
      → Type 0
  SettlesBy k b false old new asked = (asked ≡ Closing k ∷ []) × IsSame old new
  SettlesBy k b true old new asked =
      ((asked ≡ Watching k (has_more b.connection) true ∷ []) × IsAt k b old new)
      ⊎ (((w : Bool) × (asked ≡ Watching k (has_more b.connection) w ∷ Closing k ∷ []))
      × IsSame old new)

  -- the connection of this one is ended, if it is open
  abbrev pub LetsGo : ℕ → BrowserTable C → BrowserTable C → List Request → Type 0
  LetsGo k old new asked =
      ((places_of old k ≡ None) × (asked ≡ []) × IsSame old new)
      ⊎ (((b : Browser) × (places_of old k ≡ Some b)) × (asked ≡ Closing k ∷ []) × IsGone k old new
      × (index_map_len new.browsers + 1 ≡ index_map_len old.browsers))

  abbrev pub FindsLongest : BrowserTable C → Option ℕ → Type 0
  FindsLongest t None = index_map_len t.browsers ≡ 0
  FindsLongest t (Some k) = IsLongest (places_of t) k

  abbrev pub FindsLate : BrowserTable C → Option ℕ → Type 0
  FindsLate t None =
      (k : ℕ) (b : Browser) → places_of t k ≡ Some b → is_late_at t t.now b ≡ false
  FindsLate t (Some k) =
      (b : Browser) × (places_of t k ≡ Some b) × (is_late_at t t.now b ≡ true)

  -- some of those that are late were let go, and no others
  pub record EndsSome (now : ℕ) (old new : BrowserTable C) (asked : List Request) : Type 0 where
    pub gone : List ℕ
    pub all : asked ≡ map Closing gone
    pub late : All (WasLate old now) gone
    pub closed : (k : ℕ) (b : Browser) → places_of old k ≡ Some b
        → (places_of new k ≡ Some b) ⊎ IsIn k gone
    pub fewer : (k : ℕ) (b : Browser) → places_of new k ≡ Some b → places_of old k ≡ Some b
    pub stay : (k : ℕ) (b : Browser) → places_of old k ≡ Some b → is_late_at old now b ≡ false
        → places_of new k ≡ Some b

  -- this many steps, after each of which the round goes on
  pub record AsksSteps (wait count : ℕ) (a b : BrowserTable C) (asked : List Request) : Type 0 where
    pub steps : List (List Request)
    pub goes : GoesOn wait a steps b
    pub counted : length steps ≡ count
    pub all : asked ≡ joined steps

  -- what was to be done at what was ready, and whether the round goes on
  abbrev pub StepsBy : ℕ → Step → BrowserTable C → BrowserTable C → List Request → Type 0
  StepsBy wait step.GoesOn old new asked =
      (ready : Ready) × (is_in_round ready ≡ true) × Musts wait ready old new asked
  StepsBy wait (step.Over now) old new asked = Musts wait (ready_is.Round now) old new asked
  StepsBy wait step.Failed old new asked = Musts wait ready_is.Failed old new asked
