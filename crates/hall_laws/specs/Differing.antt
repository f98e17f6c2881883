-- A desk reports that another one differs only where it heard that; and the desks of a hall send
-- nothing by which one of them would be found to differ (the project's own).
use Rattle.std.specs.Prelude.{ℕ, ◌+◌, ◌-◌, ◌≡◌, ◌≢◌, ◌≤◌, ◌<◌, ◌⊎◌, true, List, [], ◌∷◌, Some, None}
use Rattle.std.specs.Prelude.{IsOk, IsSome, map, slice_get, slice_index, take}
use Rattle.std.specs.List.{AllByRecursion}
use Rattle.acceptor.specs.Messages.{Sent}
use Rattle.acceptor.specs.declared.{entry.Entry.Entry, message.Message.Message}
use Rattle.acceptor.specs.declared.message.Body.TheVariants.{Behind, Decided}
use Rattle.learner.specs.{Steps.IsDesk, Worlds.nth_sent}
use Rattle.learner.specs.declared.event.DeskEvent.{DeskEvent, TheVariants.Deliver}
use Rattle.replica.specs.Lengths.{length_told, nothing_told}
use Rattle.serving.specs.{Asking.request, declared.permission.Permission.Permission}
use Rattle.serving.specs.Differing.{differs_by, hears, known_after, other_from}
use Rattle.serving.specs.Making.{Call, calls_of}
use Rattle.store.specs.declared.{home.Home.Home, keeper.Keeper.Ghosts}
use Rattle.wire.specs.Ranges.{IsFrame}
use Rattle.wire.specs.declared.{frame.Frame.Frame, standing.Difference.Difference}
use Rattle.wire.specs.declared.standing.Difference.TheVariants.{OtherEntry, Shorter}
use Rattle.hall_laws.specs.{Arriving.decided_each, Arriving.delivers, OwnMessages.WereSentTo}
use Rattle.hall_laws.specs.HallExample.{KeepThree, said_frame, small_run, third_home, three_desks}
use Rattle.hall_laws.specs.HallRuns.{Hall, HallStep, IsHallRun, acts_of, desk_of, hall_after}
use Rattle.hall_laws.specs.HallRuns.{hall_log, home_at}
use Rattle.wire.specs.declared.frame.FrameBody.TheVariants as what

-- ---- what is said was heard

-- the frame reports an entry of a position where another one is
pub record TellsOther (log : List Entry) (f : Frame) (d : Difference) : Type 0 where
  pub first : ℕ
  pub entries : List Entry
  pub index : ℕ
  pub told : Entry
  pub there : Entry
  pub body : f.what ≡ what.Decided first entries
  pub has : slice_get entries index ≡ Some told
  pub stands : slice_get log (first + index) ≡ Some there
  pub other : there ≢ told
  pub is : d ≡ OtherEntry f.from (first + index)

-- the frame reports a length below the one that its sender reported before
pub record TellsShorter (known : List ℕ) (f : Frame) (d : Difference) : Type 0 where
  pub len : ℕ
  pub body : f.what ≡ what.Behind len
  pub below : len < slice_index known (f.from - 1)
  pub is : d ≡ Shorter f.from len

-- a difference is found in a frame only where a desk of the hall says it by that frame
abbrev pub DifferencesAreHeard : Type 0
DifferencesAreHeard =
    (home : Home) (may : Permission) (log : List Entry) (known : List ℕ) (f : Frame)
    (d : Difference) → differs_by home may log known f ≡ Some d
    → (hears home may f ≡ true) × (TellsOther log f d ⊎ TellsShorter known f d)

-- and wherever one does, one is found
abbrev pub DifferencesAreFound : Type 0
DifferencesAreFound =
    (home : Home) (may : Permission) (log : List Entry) (known : List ℕ) (f : Frame)
    (d : Difference) → hears home may f ≡ true → (TellsOther log f d ⊎ TellsShorter known f d)
    → IsSome (differs_by home may log known f)

-- ---- what is said

-- where a desk said by then that an entry was decided at a position, no desk's log has another one
-- there
abbrev pub HallDecidedsStand : {K : Type 0} → Ghosts K → Type 0
HallDecidedsStand {K} k =
    (n : ℕ) (h : Hall K) (steps : List (HallStep K)) (i d from pos : ℕ) (e f : Entry)
    → IsHallRun k n h steps → IsDesk n d
    → Sent (hall_after h (take i steps)).sent from (Decided pos e)
    → slice_get (hall_log h steps i d) pos ≡ Some f → f ≡ e

-- so no entry that a frame which was sent says to be decided differs from the one in the log
abbrev pub HallRunsAgree : {K : Type 0} → Ghosts K → Type 0
HallRunsAgree {K} k =
    (n : ℕ) (h : Hall K) (steps : List (HallStep K)) (i d from pos : ℕ) (es : List Entry)
    → IsHallRun k n h steps → IsDesk n d
    → WereSentTo d (hall_after h (take i steps)).sent (decided_each from d pos es)
    → other_from from pos es (hall_log h steps i d) ≡ None

-- Of two messages that one desk has sent, the earlier one reports no longer log than the later one,
-- if that reports a length. So a length that came over a connection, in the order in which it was
-- sent, is no less than what was reported before: on that connection, or before it was opened.
abbrev pub HallLengthsGrow : {K : Type 0} → Ghosts K → Type 0
HallLengthsGrow {K} k =
    (n : ℕ) (h : Hall K) (steps : List (HallStep K)) (i a b len : ℕ) (earlier later : Message)
    → IsHallRun k n h steps → a ≤ b → nth_sent (hall_after h (take i steps)).sent a ≡ Some earlier
    → nth_sent (hall_after h (take i steps)).sent b ≡ Some later
    → earlier.from ≡ later.from → later.body ≡ Behind len → length_told earlier.body ≤ len

-- ---- connections in order

-- the message is among those that are delivered
abbrev pub IsGiven : Message → List DeskEvent → Type 0
IsGiven m [] = ⊥
IsGiven m (e ∷ es) = (e ≡ Deliver m) ⊎ IsGiven m es

-- one of these frames brings the message to the desk
abbrev pub IsBrought : Home → Message → List Frame → Type 0
IsBrought home m [] = ⊥
IsBrought home m (f ∷ fs) = IsGiven m (delivers (request home f)) ⊎ IsBrought home m fs

-- one of these calls delivered it, and was answered Ok
abbrev pub IsHeardIn : Message → List Call → Type 0
IsHeardIn m [] = ⊥
IsHeardIn m (c ∷ cs) = ((c.event ≡ Deliver m) × IsOk c.answer) ⊎ IsHeardIn m cs

-- desk d heard it in one of these steps
pub record WasHeard {K : Type 0} (steps : List (HallStep K)) (d : ℕ) (m : Message) : Type 0 where
  pub at : ℕ
  pub step : HallStep K
  pub here : slice_get steps at ≡ Some step
  pub desk : desk_of step.event ≡ d
  pub heard : IsHeardIn m (calls_of (acts_of step.event))

-- the one was sent no later than the other
pub record WereSentInOrder (sent : List Message) (one other : Message) : Type 0 where
  pub first : ℕ
  pub second : ℕ
  pub order : first ≤ second
  pub one_sent : nth_sent sent first ≡ Some one
  pub other_sent : nth_sent sent second ≡ Some other

-- The premise on connections. A desk accepted one after the first j steps of a run, and by the
-- first i steps these frames had come on it, and then this one. What the last one says was sent by
-- then. It was sent no earlier than what its sender said in a frame before it, and no earlier than
-- what the desk had heard of that sender when it accepted the connection.
pub record ComesInOrder {K : Type 0} (home : Home) (h : Hall K) (steps : List (HallStep K))
    (i j : ℕ) (before : List Frame) (f : Frame) : Type 0 where
  pub spelled : AllByRecursion (λ g. IsFrame g) before
  pub sent : WereSentTo home.desk (hall_after h (take i steps)).sent (delivers (request home f))
  pub after_frames : (m x : Message) → m.from ≡ x.from → IsBrought home m before
      → IsGiven x (delivers (request home f))
      → WereSentInOrder (hall_after h (take i steps)).sent m x
  pub after_heard : (m x : Message) → m.from ≡ x.from → WasHeard (take j steps) home.desk m
      → IsGiven x (delivers (request home f))
      → WereSentInOrder (hall_after h (take i steps)).sent m x

-- the lengths that the hall's desks reported, after these frames of a connection
abbrev pub known_behind : Home → Permission → List ℕ → List Frame → List ℕ
known_behind home may known [] = known
known_behind home may known (f ∷ fs) = known_behind home may (known_after home may known f) fs

-- So no desk finds by a frame of a connection in order that the frame's sender differs. It compares
-- the frame with its log at that time, with what it had heard when it accepted the connection, and
-- with what it heard on it since. Before the run it heard nothing.
abbrev pub HallNeverDiffers : {K : Type 0} → Ghosts K → Type 0
HallNeverDiffers {K} k =
    (n : ℕ) (h : Hall K) (steps : List (HallStep K)) (i j d : ℕ) (may : Permission)
    (before : List Frame) (f : Frame)
    → IsHallRun k n h steps → IsDesk n d → (h.desks d).node.told ≡ nothing_told
    → ComesInOrder (home_at k (h.desks d)) h steps i j before f
    → differs_by (home_at k (h.desks d)) may (hall_log h steps i d)
    (known_behind (home_at k (h.desks d)) may
    ((hall_after h (take j steps)).desks d).node.told before) f ≡ None

-- There are such connections: in the small run desk 1 reports to desk 2 twice how long its log is.
-- Desk 2 accepts a connection once it has heard the first message, and both come on it.
abbrev pub SmallRunComesInOrder : {K : Type 0} → Ghosts K → Type 0
SmallRunComesInOrder {K} k =
    (keeper : ℕ → K) → KeepThree k keeper → (steps : List (HallStep K))
    × (map (λ (s : HallStep K). s.event) steps ≡ small_run)
    × IsHallRun k 3 (three_desks keeper) steps
    × ComesInOrder (third_home 2) (three_desks keeper) steps 5 4 (said_frame ∷ []) said_frame
