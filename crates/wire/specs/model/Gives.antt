-- What the functions that read a frame return, beside what reading gives.
use Rattle.acceptor.specs.declared.entry.Entry.{Entry}
use Rattle.std.specs.Prelude.{List, ◌++◌, ℕ, ◌≡◌, Option, Some, None, IsSome, Result, Ok, Err, IsOk}
use Rattle.wire.specs.declared.fault.WireFault.{WireFault, TheVariants.NoMemory}
use Rattle.wire.specs.declared.fault.WireFault.TheVariants.{BadLength, BadVersion, BadKind, BadBody}
use Rattle.wire.specs.declared.frame.{Frame.Frame, FrameBody.FrameBody}

-- a field, seen by view; without a value it is a fault of the body
abbrev pub Lacks : {A : Type 0} → WireFault → Option A → Type 0
Lacks BadBody read = read ≡ None
Lacks _ read = ⊥

abbrev pub GivesField : {X A : Type 0} → (X → A) → Result X WireFault → Option A → Type 0
GivesField view (Ok x) read = read ≡ Some (view x)
GivesField view (Err e) read = Lacks e read

-- the fields of a kind; memory is wanted only where they are good
abbrev pub LacksBody : WireFault → Option FrameBody → Type 0
LacksBody BadBody read = read ≡ None
LacksBody NoMemory read = IsSome read
LacksBody _ read = ⊥

abbrev pub GivesBody : Result FrameBody WireFault → Option FrameBody → Type 0
GivesBody (Ok what) read = read ≡ Some what
GivesBody (Err e) read = LacksBody e read

-- entries were put after others; memory may be refused whatever is there
abbrev pub LacksEntries : WireFault → Option (List Entry × List ℕ) → Type 0
LacksEntries BadBody read = read ≡ None
LacksEntries NoMemory read = Unit {0}
LacksEntries _ read = ⊥

abbrev pub PushesEntries : {U : Type 0} → Result U WireFault → List Entry → List Entry
    → Option (List Entry × List ℕ) → Type 0
PushesEntries (Ok done) old new read =
    (entries : List Entry) × (rest : List ℕ) × (read ≡ Some (entries, rest))
    × (new ≡ old ++ entries)
PushesEntries (Err e) old new read = LacksEntries e read

-- a frame, or the first fault; memory is wanted only where there is a frame
abbrev pub GivesFrame : Result Frame WireFault → Result Frame WireFault → Type 0
GivesFrame (Ok f) read = read ≡ Ok f
GivesFrame (Err BadLength) read = ⊥
GivesFrame (Err BadVersion) read = read ≡ Err BadVersion
GivesFrame (Err BadKind) read = read ≡ Err BadKind
GivesFrame (Err BadBody) read = read ≡ Err BadBody
GivesFrame (Err NoMemory) read = IsOk read
