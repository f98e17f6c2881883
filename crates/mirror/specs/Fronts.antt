-- Mirrors of logs of which one begins the other (the project's own).
use Rattle.std.specs.Prelude.{ℕ, ◌≡◌, ◌≤◌, ◌⊎◌, List, [], ◌∷◌, length, take, drop, Option, None}
use Rattle.std.specs.Prelude.{Some, slice_get}
use Rattle.acceptor.specs.declared.entry.Entry.{Entry}
use Rattle.formats.specs.declared.{events.Event.Event, styles.SheetStyle.SheetStyle as Style}
use Rattle.answers.specs.Answers.{sheet_at}
use Rattle.learner.specs.Laws.{IsPrefix}
use Rattle.mirror.specs.Mirrors.{Takes, TakesPart}
use Rattle.mirror.specs.declared.mirror.MirrorGrowth.{MirrorGrowth, TheVariants.Differs}

-- entries that a log has from a position on, as many as were reported, and what came of them:
-- nothing is said where memory was refused
pub record Telling : Type 0 where
  pub log : List Entry
  pub position : ℕ
  pub count : ℕ
  pub outcome : Option MirrorGrowth

-- the entries that were reported
abbrev pub told_by : Telling → List Entry
told_by one = take one.count (drop one.position one.log)

-- what a mirror holds before and after a call, by its contract
abbrev pub TakesAs : List Entry → ℕ → List Entry → Option MirrorGrowth → List Entry → Type 0
TakesAs held position told (Some taken) after = Takes held position told taken after
TakesAs held position told None after = TakesPart held position told after

-- a mirror that held the first list holds the last after it took them, one after the other
abbrev pub TakesAll : List Entry → List Telling → List Entry → Type 0
TakesAll held [] after = after ≡ held
TakesAll held (one ∷ more) after =
    (next : List Entry) × TakesAs held one.position (told_by one) one.outcome next
    × TakesAll next more after

-- of the logs of two of these one begins the other
abbrev pub LogsOfAgree : List Telling → Type 0
LogsOfAgree tellings =
    (i j : ℕ) (one other : Telling) → slice_get tellings i ≡ Some one
    → slice_get tellings j ≡ Some other → IsPrefix one.log other.log ⊎ IsPrefix other.log one.log

-- entries begin the log of one of these
pub record BeginsOne (tellings : List Telling) (entries : List Entry) : Type 0 where
  pub place : ℕ
  pub one : Telling
  pub here : slice_get tellings place ≡ Some one
  pub begins : IsPrefix entries one.log

-- none is found to differ
abbrev pub NoneDiffers : List Telling → Type 0
NoneDiffers tellings =
    (place : ℕ) (one : Telling) (at : ℕ) → slice_get tellings place ≡ Some one
    → one.outcome ≡ Some (Differs at) → ⊥

-- Entries that are reported of logs of which one begins the other, in any order and from any
-- positions, are never found to differ, and a mirror that began with none holds the beginning of
-- one of these logs.
abbrev pub MirrorsHoldFronts : Type 0
MirrorsHoldFronts =
    (tellings : List Telling) (after : List Entry) → LogsOfAgree tellings
    → TakesAll [] tellings after → NoneDiffers tellings × ((after ≡ []) ⊎ BeginsOne tellings after)

-- Where one of two lists begins the other, their sheets are the same at each position that both
-- have.
abbrev pub FrontsPrintAlike : Type 0
FrontsPrintAlike =
    (style : Style) (xs ys : List Entry) (position : ℕ) (event : Event) (round : ℕ)
    → IsPrefix xs ys ⊎ IsPrefix ys xs → position ≤ length xs → position ≤ length ys
    → sheet_at style xs position event round ≡ sheet_at style ys position event round
