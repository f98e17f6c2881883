-- A file of which it is known what a crash leaves, and the journal in it (the project's own).
use Rattle.std.specs.Prelude.{ℕ, ◌≡◌, ◌⊎◌, ◌≤◌, ◌<◌, ◌+◌, ◌^◌, ◌++◌, Bool, true, false, List}
use Rattle.std.specs.Prelude.{Option, None, Some, length, min, option_map, take}

-- the bytes of a file, how many of the first of them a crash leaves, and how many calls failed
pub record DiskOf : Type 0 where
  pub bytes : List ℕ
  pub synced : ℕ
  pub failures : ℕ

abbrev pub disk : List ℕ → ℕ → ℕ → DiskOf
disk bytes synced failures = record { bytes = bytes; synced = synced; failures = failures }

-- a call failed, and nothing else changed
abbrev pub failed_once : DiskOf → DiskOf
failed_once d = disk d.bytes d.synced (d.failures + 1)

-- where nothing is known of a file, nothing is known of it later
abbrev pub Told : (DiskOf → DiskOf → Type 0) → Option DiskOf → Option DiskOf → Type 0
Told becomes None None = Unit {0}
Told becomes (Some old) (Some new) = becomes old new
Told becomes _ _ = ⊥

-- bytes are put after the others; or a front part of them is
abbrev pub AppendsTo : Bool → List ℕ → DiskOf → DiskOf → Type 0
AppendsTo true bytes old new = new ≡ disk (old.bytes ++ bytes) old.synced old.failures
AppendsTo false bytes old new =
    (count : ℕ) × (new ≡ disk (old.bytes ++ take count bytes) old.synced (old.failures + 1))

abbrev pub Appends : Bool → List ℕ → Option DiskOf → Option DiskOf → Type 0
Appends done bytes old new = Told (AppendsTo done bytes) old new

-- a crash leaves all bytes
abbrev pub SyncsTo : Bool → DiskOf → DiskOf → Type 0
SyncsTo true old new = new ≡ disk old.bytes (length old.bytes) old.failures
SyncsTo false old new = new ≡ failed_once old

abbrev pub Syncs : Bool → Option DiskOf → Option DiskOf → Type 0
Syncs done old new = Told (SyncsTo done) old new

abbrev pub CutsTo : Bool → ℕ → DiskOf → DiskOf → Type 0
CutsTo true count old new = new ≡ disk (take count old.bytes) (min count old.synced) old.failures
CutsTo false count old new = new ≡ failed_once old

abbrev pub Cuts : Bool → ℕ → Option DiskOf → Option DiskOf → Type 0
Cuts done count old new = Told (CutsTo done count) old new

-- bytes are put after the others, and a crash leaves all; or a front part of them is put there, and
-- a crash leaves what it left before
abbrev pub PutsTo : Bool → List ℕ → DiskOf → DiskOf → Type 0
PutsTo true bytes old new =
    new ≡ disk (old.bytes ++ bytes) (length (old.bytes ++ bytes)) old.failures
PutsTo false bytes old new =
    (count : ℕ) × (new ≡ disk (old.bytes ++ take count bytes) old.synced (old.failures + 1))

abbrev pub Puts : Bool → List ℕ → Option DiskOf → Option DiskOf → Type 0
Puts done bytes old new = Told (PutsTo done bytes) old new

-- what follows this many bytes is removed, and a crash leaves these bytes; or it stays; or it is
-- removed, but a crash may bring it back
abbrev pub CutsBackTo : Bool → ℕ → DiskOf → DiskOf → Type 0
CutsBackTo true count old new =
    new ≡ disk (take count old.bytes) (length (take count old.bytes)) old.failures
CutsBackTo false count old new =
    (new ≡ failed_once old)
    ⊎ (new ≡ disk (take count old.bytes) (min count old.synced) (old.failures + 1))

abbrev pub CutsBack : Bool → ℕ → Option DiskOf → Option DiskOf → Type 0
CutsBack done count old new = Told (CutsBackTo done count) old new

-- ---- the journal

-- the file of a journal, the bytes of its whole lines, and whether a part of a line may be after
-- them that could not be taken away
pub record JournalOf : Type 0 where
  pub disk : Option DiskOf
  pub length : ℕ
  pub broken : Bool

abbrev pub journal : Option DiskOf → ℕ → Bool → JournalOf
journal disk length broken = record { disk = disk; length = length; broken = broken }

-- nothing is after this many bytes
abbrev pub IsWholeIn : ℕ → Option DiskOf → Type 0
IsWholeIn count None = Unit {0}
IsWholeIn count (Some d) = length d.bytes ≡ count

-- the bytes of its lines, where that is known
abbrev pub lines_in : JournalOf → Option (List ℕ)
lines_in j = option_map (λ d. take j.length d.bytes) j.disk

-- a crash leaves its lines
abbrev pub IsSyncedIn : ℕ → Option DiskOf → Type 0
IsSyncedIn count None = Unit {0}
IsSyncedIn count (Some d) = count ≤ d.synced

abbrev pub IsSynced : JournalOf → Type 0
IsSynced j = IsSyncedIn j.length j.disk

-- these bytes are kept after the others; where nothing is known, nothing is known of them either
abbrev pub with_kept : Option (List ℕ) → List ℕ → Option (List ℕ)
with_kept None bytes = None
with_kept (Some before) bytes = Some (before ++ bytes)

-- a call of the file failed, as far as that is known
abbrev pub HasFailed : Option DiskOf → Option DiskOf → Type 0
HasFailed old new = Told (λ old new. old.failures < new.failures) old new

-- why lines can't be kept: the file fails; it failed before, so that a part of a line may be after
-- those that were kept; or they would be 2^64 bytes and more
abbrev pub CannotKeep : List ℕ → JournalOf → JournalOf → Type 0
CannotKeep lines old new =
    HasFailed old.disk new.disk ⊎ ((old.broken ≡ true) ⊎ (2 ^ 64 ≤ old.length + length lines))

-- lines are kept, or it fails
abbrev pub kept_if : Bool → Option (List ℕ) → List ℕ → Option (List ℕ)
kept_if true before lines = with_kept before lines
kept_if false before lines = before

-- if lines are kept, they follow the others, and a crash leaves them; else the lines are those that
-- were there, and the answer says why. Nothing more can be kept only after the file failed
pub record Keeps (kept : Bool) (lines : List ℕ) (old new : JournalOf) : Type 0 where
  pub told : lines_in new ≡ kept_if kept (lines_in old) lines
  pub synced : IsSynced new
  pub whole : kept ≡ true → new.broken ≡ false
  pub failed : kept ≡ false → CannotKeep lines old new
  pub broken : new.broken ≡ true → (old.broken ≡ true) ⊎ HasFailed old.disk new.disk

-- ---- a journal is opened

-- a file begins with this many bytes of whole lines; after them a part of a line may be, if the
-- file was cut, and else nothing
abbrev pub HasLinesTo : Bool → ℕ → DiskOf → Type 0
HasLinesTo true count d = count ≤ length d.bytes
HasLinesTo false count d = length d.bytes ≡ count

abbrev pub HasLines : Bool → ℕ → Option DiskOf → Type 0
HasLines cut count None = Unit {0}
HasLines cut count (Some d) = HasLinesTo cut count d

-- the file of a journal over a file with this many bytes of whole lines: these are its lines, a
-- crash leaves them, and it continues after them
pub record OpensOver (count : ℕ) (old : Option DiskOf) (new : JournalOf) : Type 0 where
  pub long : new.length ≡ count
  pub whole : new.broken ≡ false
  pub synced : IsSynced new
  pub lines : lines_in new ≡ option_map (λ d. take count d.bytes) old
