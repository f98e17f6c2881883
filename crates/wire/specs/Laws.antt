-- What the spellings of frames keep to (as docs/FORMATS.md has it).
use Rattle.std.specs.Prelude.{◌≡◌, ◌⊎◌, ◌↔◌, ℕ, ◌+◌, ◌<◌, ◌≤◌, true, false, List, [], ◌++◌, length}
use Rattle.std.specs.{Prelude.take, Prelude.slice_index, Int.w32, Int.from_be_bytes}
use Rattle.wire.specs.declared.fault.WireFault.{WireFault, TheVariants.NoMemory}
use Rattle.wire.specs.declared.fault.WireFault.TheVariants.{BadLength, BadVersion, BadKind, BadBody}
use Rattle.wire.specs.declared.{frame.Frame.Frame, values.Version.Version}
use Rattle.wire.specs.{Numbers.version_number, Ranges.IsFrame, Spelling.spelling, Reading.is_kind}
use Rattle.wire.specs.Stream.{front, Begins, Breaks}

-- each number is one of a byte
abbrev pub AreBytes : List ℕ → Type 0
AreBytes bytes = (i : ℕ) → slice_index bytes i < 256

-- a frame is at the front of bytes exactly where they begin with its spelling, and what is after it
-- comes the rest
abbrev pub IsReadWhereSpelled : List ℕ → Frame → List ℕ → Type 0
IsReadWhereSpelled bytes f rest =
    (front bytes ≡ Begins f rest) ↔ (IsFrame f × (bytes ≡ spelling f ++ rest))

-- where one frame's spelling begins another's, the frames are one, and nothing comes after
abbrev pub BeginsNoOther : Frame → Frame → List ℕ → Type 0
BeginsNoOther f g more = spelling g ≡ spelling f ++ more → (f ≡ g) × (more ≡ [])

-- the number in the first four bytes: how many bytes are after them
abbrev pub length_at : List ℕ → ℕ
length_at bytes = from_be_bytes w32 (take 4 bytes)

abbrev pub IsLength : ℕ → Type 0
IsLength n = (8 ≤ n) × (n ≤ 300000)

-- the first length is good, and all bytes that it counts are there
pub record IsWhole (bytes : List ℕ) : Type 0 where
  pub counted : IsLength (length_at bytes)
  pub there : 4 + length_at bytes ≤ length bytes

abbrev pub BeginsWithFrame : List ℕ → Type 0
BeginsWithFrame bytes = (f : Frame) × (rest : List ℕ) × IsFrame f × (bytes ≡ spelling f ++ rest)

abbrev pub IsVersion : ℕ → Type 0
IsVersion n = (n ≡ 1) ⊎ (n ≡ 2) ⊎ (n ≡ 3) ⊎ (n ≡ 4) ⊎ (n ≡ 5)

-- whether the version with this number has the kind with that one
abbrev pub HasKind : ℕ → ℕ → Type 0
HasKind number kind = (v : Version) × (number ≡ version_number v) × (is_kind v kind ≡ true)

abbrev pub LacksKind : ℕ → ℕ → Type 0
LacksKind number kind = (v : Version) × (number ≡ version_number v) × (is_kind v kind ≡ false)

-- which fault is the first: the version is byte 4, the kind byte 11
abbrev pub IsFirstFault : WireFault → List ℕ → Type 0
IsFirstFault BadLength bytes = (4 ≤ length bytes) × ¬ IsLength (length_at bytes)
IsFirstFault BadVersion bytes = IsWhole bytes × ¬ IsVersion (slice_index bytes 4)
IsFirstFault BadKind bytes =
    IsWhole bytes × LacksKind (slice_index bytes 4) (slice_index bytes 11)
IsFirstFault BadBody bytes =
    IsWhole bytes × HasKind (slice_index bytes 4) (slice_index bytes 11) × ¬ BeginsWithFrame bytes
IsFirstFault NoMemory bytes = ⊥

-- a fault is at the front of bytes exactly where it is the first
abbrev pub IsFaultWhereFirst : List ℕ → WireFault → Type 0
IsFaultWhereFirst bytes e = (front bytes ≡ Breaks e) ↔ IsFirstFault e bytes
