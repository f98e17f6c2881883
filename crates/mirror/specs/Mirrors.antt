-- What a mirror does with entries that it is given: from a position of a log on, those that are
-- there one after the other (the project's own).
use Rattle.std.specs.Prelude.{ℕ, ◌≡◌, ◌≢◌, ◌+◌, ◌-◌, ◌<◌, ◌≤◌, List, ◌∷◌, ◌++◌, length, drop}
use Rattle.std.specs.Prelude.{slice_get, Some}
use Rattle.acceptor.specs.declared.entry.Entry.{Entry}
use Rattle.mirror.specs.declared.mirror.MirrorGrowth.{MirrorGrowth}
use Rattle.mirror.specs.declared.mirror.MirrorGrowth.TheVariants.{Grew, Known, Gap, Differs}

-- at each position below this one that is held and was reported, it is the same entry
abbrev pub AreHeldBelow : ℕ → List Entry → ℕ → List Entry → Type 0
AreHeldBelow end held position told =
    (place : ℕ) (mine its : Entry) → position + place < end
    → slice_get held (position + place) ≡ Some mine → slice_get told place ≡ Some its → mine ≡ its

-- another entry is held at this position than was reported for it, and at none before it
pub record DiffersFirst (held : List Entry) (position : ℕ) (told : List Entry) (at : ℕ)
    : Type 0 where
  pub place : ℕ
  pub there : at ≡ position + place
  pub mine : Entry
  pub its : Entry
  pub holds : slice_get held at ≡ Some mine
  pub tells : slice_get told place ≡ Some its
  pub other : mine ≢ its
  pub before : AreHeldBelow at held position told

-- there is no gap, and no other entry is held than was reported
abbrev pub Fits : List Entry → ℕ → List Entry → Type 0
Fits held position told =
    (position ≤ length held) × AreHeldBelow (length held) held position told

-- those that were reported for positions from the end of the held ones on
abbrev pub beyond : List Entry → ℕ → List Entry → List Entry
beyond held position told = drop (length held - position) told

-- what is held after it, where memory was not refused
abbrev pub Takes : List Entry → ℕ → List Entry → MirrorGrowth → List Entry → Type 0
Takes held position told Gap after = (length held < position) × (after ≡ held)
Takes held position told (Differs at) after =
    (position ≤ length held) × DiffersFirst held position told at × (after ≡ held)
Takes held position told Known after =
    Fits held position told × (position + length told ≤ length held) × (after ≡ held)
Takes held position told Grew after =
    Fits held position told × (length held < position + length told)
    × (after ≡ held ++ beyond held position told)

-- the first of some entries were put after the held ones, or none, and not all
pub record HoldsPart (held more after : List Entry) : Type 0 where
  pub got : List Entry
  pub next : Entry
  pub later : List Entry
  pub parts : got ++ next ∷ later ≡ more
  pub holds : after ≡ held ++ got

-- what is held after it, where memory was refused
abbrev pub TakesPart : List Entry → ℕ → List Entry → List Entry → Type 0
TakesPart held position told after =
    Fits held position told × HoldsPart held (beyond held position told) after
