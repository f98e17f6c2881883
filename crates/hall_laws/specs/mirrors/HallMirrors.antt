-- A mirror that is given what desks of a hall answer (the project's own).
use Rattle.std.specs.Prelude.{ℕ, ◌≡◌, ◌≤◌, ◌⊎◌, List, [], ◌∷◌, length, Option, Some, slice_get}
use Rattle.acceptor.specs.declared.entry.Entry.{Entry}
use Rattle.answers.specs.Answers.{sheet_at}
use Rattle.formats.specs.declared.{events.Event.Event, styles.SheetStyle.SheetStyle as Style}
use Rattle.learner.specs.{Laws.IsPrefix, Steps.IsDesk}
use Rattle.store.specs.declared.keeper.Keeper.{Ghosts}
use Rattle.mirror.specs.Fronts.{TakesAs}
use Rattle.mirror.specs.declared.mirror.MirrorGrowth.{MirrorGrowth, TheVariants.Differs}
use Rattle.hall_laws.specs.Copying.{AnswersCopy, Given}
use Rattle.hall_laws.specs.HallRuns.{Hall, HallStep, IsHallRun, hall_log}

-- an answer, and what came of it at the mirror: nothing is said where memory was refused
pub record Mirrored : Type 0 where
  pub given : Given
  pub outcome : Option MirrorGrowth

-- A mirror that held the first list holds the last after it took these answers, one after the
-- other, each of a desk of the hall.
abbrev pub MirrorsHall : {K : Type 0} → Ghosts K → ℕ → Hall K → List (HallStep K) → List Entry
    → List Mirrored → List Entry → Type 0
MirrorsHall k n h steps held [] after = after ≡ held
MirrorsHall k n h steps held (one ∷ more) after =
    (next : List Entry) × IsDesk n one.given.desk
    × AnswersCopy k h steps one.given.at one.given.desk one.given.copy
    × TakesAs held one.given.copy.position one.given.copy.entries one.outcome next
    × MirrorsHall k n h steps next more after

-- entries begin the log of the desk that gave one of these answers, as it was then
pub record BeginsMirrored {K : Type 0} (h : Hall K) (steps : List (HallStep K))
    (all : List Mirrored) (entries : List Entry) : Type 0 where
  pub place : ℕ
  pub one : Mirrored
  pub here : slice_get all place ≡ Some one
  pub begins : IsPrefix entries (hall_log h steps one.given.at one.given.desk)

abbrev pub HallMirrorsHoldFronts : {K : Type 0} → Ghosts K → Type 0
HallMirrorsHoldFronts {K} k =
    (n : ℕ) (h : Hall K) (steps : List (HallStep K)) (all : List Mirrored) (after : List Entry)
    → IsHallRun k n h steps → MirrorsHall k n h steps [] all after
    → ((place : ℕ) (one : Mirrored) (at : ℕ) → slice_get all place ≡ Some one
    → one.outcome ≡ Some (Differs at) → ⊥) × ((after ≡ []) ⊎ BeginsMirrored h steps all after)

abbrev pub HallMirrorsPrintAlike : {K : Type 0} → Ghosts K → Type 0
HallMirrorsPrintAlike {K} k =
    (n : ℕ) (h : Hall K) (steps : List (HallStep K)) (all : List Mirrored) (after : List Entry)
    (i d : ℕ) (style : Style) (position : ℕ) (event : Event) (round : ℕ)
    → IsHallRun k n h steps → MirrorsHall k n h steps [] all after → IsDesk n d
    → position ≤ length after → position ≤ length (hall_log h steps i d)
    → sheet_at style after position event round
    ≡ sheet_at style (hall_log h steps i d) position event round
