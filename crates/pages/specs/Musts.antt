-- What has to be asked of browsers in a round (the project's own).
use Rattle.std.specs.Prelude.{◌≡◌, ◌≢◌, ◌⊎◌, ◌+◌, ◌≤◌, ◌<◌, [], ◌∷◌, ◌++◌, None, Some, map, All}
use Rattle.std.specs.Prelude.{ℕ, ◌==◌, ◌&&◌, Bool, true, false, if◌then◌else◌, List, length, Option}
use Rattle.std.specs.List.{list_any}
use Rattle.indexmap.specs.IndexMap.{index_map_len}
use Rattle.http_server.specs.declared.{connection.Connection.Connection, state.Config.Config}
use Rattle.http_server.specs.Connection.{config_of, history}
use Rattle.http_server.specs.History.{History, IsDone, Rests, new_history}
use Rattle.pages.specs.{Kept.Places, Kept.places_of, declared.waiting.TurnOutcome.TurnOutcome}
use Rattle.polled.specs.Requests.{Request, Waited, Accepting, Reading, Writing, Watching, Closing}
use Rattle.pages.specs.Waiting.{after, is_late, is_longer, waits}
use Rattle.polled.specs.declared.answers.{AcceptedPeer.AcceptedPeer, ReadOutcome.ReadOutcome}
use Rattle.polled.specs.declared.answers.{Ready.Ready, WriteOutcome.WriteOutcome}
use Rattle.pages.specs.declared.table.{Browser.Browser, BrowserTable.BrowserTable}
use Rattle.polled.specs.declared.answers.AcceptedPeer.TheVariants as accepted_is
use Rattle.polled.specs.declared.answers.ReadOutcome.TheVariants as given_is
use Rattle.polled.specs.declared.answers.Ready.TheVariants as ready_is
use Rattle.polled.specs.declared.answers.WriteOutcome.TheVariants as taken_is
use Rattle.pages.specs.declared.waiting.TurnOutcome.TheVariants as turn

-- ---- a browser's turn

-- bytes are offered to it, at least one
abbrev pub Offers : ℕ → Request → Type 0
Offers k asked = (n : ℕ) × (t : WriteOutcome) × (0 < n) × (asked ≡ Writing k n t)

-- something of what is to be sent is offered to it, or else it is read from
abbrev pub IsMove : ℕ → History → Request → Type 0
IsMove k h asked =
    ((0 < length h.pending) × Offers k asked)
    ⊎ ((length h.pending ≡ 0) × ((g : ReadOutcome) × (asked ≡ Reading k g)))

-- once more, or nothing
abbrev pub MayOffer : ℕ → List Request → Type 0
MayOffer k more = (more ≡ []) ⊎ ((one : Request) × Offers k one × (more ≡ one ∷ []))

abbrev pub is_offer : Request → Bool
is_offer (Writing k n t) = true
is_offer _ = false

abbrev pub has_failed : Request → Bool
has_failed (Writing k n taken_is.Broke) = true
has_failed (Reading k given_is.Broke) = true
has_failed _ = false

-- it took all that was to be sent, where something was offered, or is waited for
abbrev pub came_by : Bool → History → TurnOutcome
came_by offered h = if offered && length h.pending == 0 then turn.Answered else turn.Waits

abbrev pub turned_by : List Request → History → TurnOutcome
turned_by asked h = came_by (list_any is_offer asked) h

-- Its connection goes on: each whole request that came has its call; HTTP has more to do; and where
-- nothing was offered after the first move nothing is to be sent.
pub record TurnGoes (config : Config) (h : History) (came : TurnOutcome) (asked more : List Request)
    : Type 0 where
  pub rests : Rests config h
  pub has_more : ¬ (IsDone h)
  pub prompt : more ≡ [] → length h.pending ≡ 0
  pub how : came ≡ turned_by asked h

-- Its connection is over: a read or a write failed, HTTP has nothing more to do, or there was no
-- memory for what was read.
abbrev pub TurnEnds : History → List Request → List Request → Type 0
TurnEnds h asked more =
    (list_any has_failed asked ≡ true)
    ⊎ (IsDone h ⊎ ((list_any is_offer asked ≡ false) × (more ≡ [])))

abbrev pub TurnsTo : Config → History → TurnOutcome → List Request → List Request → Type 0
TurnsTo config h turn.Over asked more = TurnEnds h asked more
TurnsTo config h turn.Answered asked more = TurnGoes config h turn.Answered asked more
TurnsTo config h turn.Waits asked more = TurnGoes config h turn.Waits asked more

-- It is offered what is to be sent, or read from. What came is answered, and that is offered to it
-- at once.
pub record Turns (k : ℕ) (config : Config) (old new : History) (came : TurnOutcome)
    (asked : List Request) : Type 0 where
  pub first : Request
  pub move : IsMove k old first
  pub more : List Request
  pub offer : MayOffer k more
  pub all : asked ≡ first ∷ more
  pub ends : TurnsTo config new came asked more

-- ---- the browsers after that

module _ {C : Type 0} where
  -- the same browsers are open
  abbrev pub IsSame : BrowserTable C → BrowserTable C → Type 0
  IsSame old new = (j : ℕ) → places_of new j ≡ places_of old j

  -- but for this one
  abbrev pub IsSameBut : ℕ → BrowserTable C → BrowserTable C → Type 0
  IsSameBut k old new = (j : ℕ) → j ≢ k → places_of new j ≡ places_of old j

  -- which isn't open any more
  abbrev pub IsGone : ℕ → BrowserTable C → BrowserTable C → Type 0
  IsGone k old new = (places_of new k ≡ None) × IsSameBut k old new

  -- which is open, and is so
  abbrev pub IsAt : ℕ → Browser → BrowserTable C → BrowserTable C → Type 0
  IsAt k b old new = (places_of new k ≡ Some b) × IsSameBut k old new

-- ---- a browser was named as ready

-- whether something is still to be sent
abbrev pub has_some : List ℕ → Bool
has_some [] = false
has_some (byte ∷ bytes) = true

abbrev pub has_more : Connection → Bool
has_more c = has_some (history c).pending

-- It goes on, and is to be named when it can take bytes, where some are still to be sent, or else
-- when it can be read from. It is ended where the system refuses that, and where there is no memory
-- for its place.
abbrev pub SettlesOn : {C : Type 0} → ℕ → Browser → BrowserTable C → BrowserTable C → List Request
    → Type 0
SettlesOn k b old new asked =
    ((asked ≡ Watching k (has_more b.connection) true ∷ []) × IsAt k b old new)
    ⊎ (((w : Bool) × (asked ≡ Watching k (has_more b.connection) w ∷ Closing k ∷ []))
    × IsGone k old new)

-- or its connection is ended
abbrev pub Settles : {C : Type 0} → ℕ → Browser → TurnOutcome → BrowserTable C → BrowserTable C
    → List Request → Type 0
Settles k b turn.Over old new asked = (asked ≡ Closing k ∷ []) × IsGone k old new
Settles k b turn.Answered old new asked = SettlesOn k b old new asked
Settles k b turn.Waits old new asked = SettlesOn k b old new asked

abbrev pub turned_as : Browser → Connection → TurnOutcome → ℕ → Browser
turned_as b later came now =
    record { connection = later; waiting = after came now b.waiting }

-- what is asked where its connection is open
pub record IsAttended {C : Type 0} (k : ℕ) (old new : BrowserTable C) (asked : List Request)
    : Type 0 where
  pub one : Browser
  pub found : places_of old k ≡ Some one
  pub later : Connection
  pub came : TurnOutcome
  pub moves : List Request
  pub turns : Turns k (config_of one.connection) (history one.connection) (history later) came moves
  pub limits : config_of later ≡ config_of one.connection
  pub last : List Request
  pub settles : Settles k (turned_as one later came old.now) came old new last
  pub all : asked ≡ moves ++ last

-- nothing is asked where it is not
abbrev pub Attends : {C : Type 0} → ℕ → BrowserTable C → BrowserTable C → List Request → Type 0
Attends k old new asked =
    ((places_of old k ≡ None) × (asked ≡ []) × IsSame old new) ⊎ IsAttended k old new asked

-- ---- a browser waits

-- no other one is waited for longer
pub record IsLongest (places : Places) (k : ℕ) : Type 0 where
  pub one : Browser
  pub found : places k ≡ Some one
  pub longest : (j : ℕ) (b : Browser) → places j ≡ Some b
      → is_longer j one.waiting.since k b.waiting ≡ false

-- the one that is waited for since the longest time is let go, if one is open
abbrev pub LetsLongestGo : {C : Type 0} → BrowserTable C → BrowserTable C → List Request → Type 0
LetsLongestGo old new asked =
    ((index_map_len old.browsers ≡ 0) × (asked ≡ []) × IsSame old new)
    ⊎ ((k : ℕ) × IsLongest (places_of old) k × (asked ≡ Closing k ∷ []) × IsGone k old new)

-- one that came
abbrev pub IsNewcomer : Config → ℕ → Browser → Type 0
IsNewcomer config now b =
    (history b.connection ≡ new_history) × (config_of b.connection ≡ config)
    × (b.waiting ≡ waits now false)

-- it has a place
abbrev pub Seats : {C : Type 0} → BrowserTable C → BrowserTable C → Type 0
Seats old new =
    (b : Browser) × IsNewcomer old.terms.config old.now b × IsAt old.next b old new

-- The one that waits is given a place, where there is memory for it. Where the system has no socket
-- for it, another one is let go.
abbrev pub GivesPlace : {C : Type 0} → AcceptedPeer → BrowserTable C → BrowserTable C → List Request
    → Type 0
GivesPlace (accepted_is.Came random) old new more =
    (new.next ≡ old.next + 1)
    × (((more ≡ []) × Seats old new) ⊎ ((more ≡ Closing old.next ∷ []) × IsSame old new))
GivesPlace accepted_is.Nobody old new more =
    (new.next ≡ old.next) × (more ≡ []) × IsSame old new
GivesPlace accepted_is.Full old new more =
    (new.next ≡ old.next) × LetsLongestGo old new more

-- it is accepted, as long as there are numbers
abbrev pub Accepts : {C : Type 0} → BrowserTable C → BrowserTable C → List Request → Type 0
Accepts old new asked =
    ((old.next ≡ 18446744073709551615) × (new.next ≡ old.next) × (asked ≡ []) × IsSame old new)
    ⊎ ((a : AcceptedPeer) × (more : List Request) × (asked ≡ Accepting old.next a ∷ more)
    × GivesPlace a old new more)

-- where as many are open as may be, one of them is let go first
abbrev pub MakesRoom : {C : Type 0} → BrowserTable C → BrowserTable C → List Request → Type 0
MakesRoom old new asked =
    ((index_map_len old.browsers < old.terms.most) × (asked ≡ []) × IsSame old new)
    ⊎ ((old.terms.most ≤ index_map_len old.browsers) × LetsLongestGo old new asked)

pub record Admits {C : Type 0} (old new : BrowserTable C) (asked : List Request) : Type 0 where
  pub mid : BrowserTable C
  pub first : List Request
  pub room : MakesRoom old mid first
  pub next : mid.next ≡ old.next
  pub time : mid.now ≡ old.now
  pub more : List Request
  pub accepts : Accepts mid new more
  pub all : asked ≡ first ++ more

-- ---- a round is over

-- a browser is waited for too long at this time
abbrev pub is_late_at : {C : Type 0} → BrowserTable C → ℕ → Browser → Bool
is_late_at t now b = is_late now t.terms.patience b.waiting

-- the one with this number is open, and is waited for too long
abbrev pub WasLate : {C : Type 0} → BrowserTable C → ℕ → ℕ → Type 0
WasLate t now k = (b : Browser) × (places_of t k ≡ Some b) × (is_late_at t now b ≡ true)

-- it is one of these
abbrev pub IsIn : ℕ → List ℕ → Type 0
IsIn k ks = (before : List ℕ) × (after : List ℕ) × (ks ≡ before ++ k ∷ after)

-- Those are let go that are waited for too long at this time, and no others.
pub record EndsRound {C : Type 0} (now : ℕ) (old new : BrowserTable C) (asked : List Request)
    : Type 0 where
  pub time : new.now ≡ now
  pub gone : List ℕ
  pub all : asked ≡ map Closing gone
  pub late : All (WasLate old now) gone
  pub closed : (k : ℕ) (b : Browser) → places_of old k ≡ Some b
      → (places_of new k ≡ Some b) ⊎ IsIn k gone
  pub left : (k : ℕ) (b : Browser) → places_of new k ≡ Some b
      → (places_of old k ≡ Some b) × (is_late_at old now b ≡ false)
  pub stay : (k : ℕ) (b : Browser) → places_of old k ≡ Some b → is_late_at old now b ≡ false
      → places_of new k ≡ Some b

-- ---- a step, and a round

-- none has come yet
abbrev pub IsFresh : {C : Type 0} → BrowserTable C → Type 0
IsFresh t = (t.browsers.entries ≡ []) × (t.next ≡ 0) × (t.now ≡ 0)

-- what is to be done, by what is ready
abbrev pub Follows : {C : Type 0} → Ready → BrowserTable C → BrowserTable C → List Request → Type 0
Follows ready_is.Waits old new more = Admits old new more × (new.now ≡ old.now)
Follows (ready_is.Peer k) old new more =
    Attends k old new more × (new.now ≡ old.now) × (new.next ≡ old.next)
Follows (ready_is.Round now) old new more =
    EndsRound now old new more × (new.next ≡ old.next)
Follows ready_is.Failed old new more = more ≡ []

-- it is waited until something is ready, this long at most, and then that is done which is to be
-- done
pub record Musts {C : Type 0} (wait : ℕ) (ready : Ready) (old new : BrowserTable C)
    (asked : List Request) : Type 0 where
  pub terms : new.terms ≡ old.terms
  pub more : List Request
  pub all : asked ≡ Waited wait ready ∷ more
  pub follows : Follows ready old new more

-- a step after which the round goes on
abbrev pub is_in_round : Ready → Bool
is_in_round ready_is.Waits = true
is_in_round (ready_is.Peer k) = true
is_in_round (ready_is.Round now) = false
is_in_round ready_is.Failed = false

-- steps after each of which it goes on, with what was asked at each
abbrev pub GoesOn : {C : Type 0} → ℕ → BrowserTable C → List (List Request) → BrowserTable C
    → Type 0
GoesOn wait a [] b = a ≡ b
GoesOn {C} wait a (asked ∷ steps) b =
    (ready : Ready) × (m : BrowserTable C) × (is_in_round ready ≡ true) × Musts wait ready a m asked
    × GoesOn wait m steps b

abbrev pub joined : List (List Request) → List Request
joined [] = []
joined (asked ∷ steps) = asked ++ joined steps

-- the last step: the round is over at this time; or the system doesn't tell what is ready any more,
-- or 2^64 - 1 steps were taken
abbrev pub Ends : {C : Type 0} → ℕ → ℕ → Option ℕ → BrowserTable C → BrowserTable C → List Request
    → Type 0
Ends wait count (Some now) a b last = Musts wait (ready_is.Round now) a b last
Ends wait count None a b last =
    Musts wait ready_is.Failed a b last ⊎ ((count ≡ 18446744073709551615) × (a ≡ b) × (last ≡ []))

-- all that is asked in a round that is over at this time, if it ever is
pub record AsksRound {C : Type 0} (wait : ℕ) (over : Option ℕ) (a b : BrowserTable C)
    (asked : List Request) : Type 0 where
  pub steps : List (List Request)
  pub mid : BrowserTable C
  pub last : List Request
  pub goes : GoesOn wait a steps mid
  pub ends : Ends wait (length steps) over mid b last
  pub all : asked ≡ joined steps ++ last
