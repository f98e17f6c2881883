-- What is looked at again after a fault, what may be met there, and the line that says it (the
-- project's own).
use Rattle.std.specs.Prelude.{◌≡◌, ◌⊎◌, ◌≤◌, ◌++◌, ℕ, List, Option, Some, None, IfSome, codes}
use Rattle.std.specs.{Prelude.option_map, Borrow.Bor, Io.KnownBytes.Appends, Io.KnownBytes.Keeps}
use Rattle.batch.specs.declared.dialing.Contact.{Contact}
use Rattle.desk_requests.specs.declared.fault.DeskFault.{DeskFault}
use Rattle.hall_file.specs.Addresses.{IsAddress}
use Rattle.lines.specs.Bytes.{AppendsPart}
use Rattle.wire.specs.declared.frame.Frame.{Frame}
use Rattle.fault_hints.specs.declared.findings.{AddressFinding.AddressFinding, Finding.Finding}
use Rattle.fault_hints.specs.declared.findings.{FileFinding.FileFinding, KeyFinding.KeyFinding}
use Rattle.fault_hints.specs.{declared.matters.FaultSubject.FaultSubject, Sentences.finding_text}
use Rattle.fault_hints.specs.Judged.{length_in, of_key, other_desk}
use Rattle.desk_requests.specs.declared.fault.DeskFault.TheVariants as fault
use Rattle.wire.specs.declared.values.ClientRefusal.TheVariants as refusal
use Rattle.fault_hints.specs.declared.findings.AddressFinding.TheVariants as address
use Rattle.fault_hints.specs.declared.findings.FileFinding.TheVariants as file
use Rattle.fault_hints.specs.declared.findings.Finding.TheVariants as finding
use Rattle.fault_hints.specs.declared.matters.FaultSubject.TheVariants as about

-- ---- files

-- what an error of the system says of a file
abbrev pub IsOfSystem : FileFinding → Type 0
IsOfSystem file.NoFolder = Unit {0}
IsOfSystem file.IsFolder = Unit {0}
IsOfSystem file.NotPlain = Unit {0}
IsOfSystem file.NotAllowed = Unit {0}
IsOfSystem file.ReadOnly = Unit {0}
IsOfSystem file.Full = Unit {0}
IsOfSystem _ = ⊥

-- what may be met of a file that a desk is to be served from; where it is not there, it is to be
-- made
abbrev pub IsOfDevice : FileFinding → Type 0
IsOfDevice file.FolderClosed = Unit {0}
IsOfDevice file.HeldOpen = Unit {0}
IsOfDevice file.HasJournal = Unit {0}
IsOfDevice file.OpensNow = Unit {0}
IsOfDevice what = IsOfSystem what

-- what may be met of a file whose log is to be read
abbrev pub IsOfReading : FileFinding → Type 0
IsOfReading file.NotThere = Unit {0}
IsOfReading file.FolderClosed = Unit {0}
IsOfReading file.LogHeldOpen = Unit {0}
IsOfReading file.HasJournal = Unit {0}
IsOfReading file.OpensNow = Unit {0}
IsOfReading what = IsOfSystem what

-- what may be met of a file that is no desk's store: what it is, or why it can't be read now
abbrev pub IsOfDamage : FileFinding → Type 0
IsOfDamage file.Empty = Unit {0}
IsOfDamage file.Text = Unit {0}
IsOfDamage file.NoDatabase = Unit {0}
IsOfDamage file.LogMissing = Unit {0}
IsOfDamage file.NotWhole = Unit {0}
IsOfDamage what = IsOfSystem what

-- something of this kind was met of the file at this path, or nothing
abbrev pub IsOfFile : Bor (List ℕ) → (FileFinding → Type 0) → Option Finding → Type 0
IsOfFile path May found =
    (what : Option FileFinding) × IfSome what May
    × (found ≡ option_map (λ w. finding.File path w) what)

-- ---- addresses

-- what may be met at an address where a desk should listen
abbrev pub IsOfConnecting : AddressFinding → Type 0
IsOfConnecting address.UnknownHost = Unit {0}
IsOfConnecting address.NobodyListens = Unit {0}
IsOfConnecting address.Silent = Unit {0}
IsOfConnecting address.NoWay = Unit {0}
IsOfConnecting address.ListensNow = Unit {0}
IsOfConnecting _ = ⊥

-- what may be met at an address where a desk of this machine is to listen
abbrev pub IsOfListening : AddressFinding → Type 0
IsOfListening address.UnknownHost = Unit {0}
IsOfListening address.Taken = Unit {0}
IsOfListening address.NotOurs = Unit {0}
IsOfListening address.NotAllowed = Unit {0}
IsOfListening address.FreeNow = Unit {0}
IsOfListening _ = ⊥

-- a text that is no address, or an address whose host nobody knows
abbrev pub IsMissed : List ℕ → AddressFinding → Type 0
IsMissed text address.NotAddress = ¬ IsAddress text
IsMissed text address.UnknownHost = IsAddress text
IsMissed text _ = ⊥

-- something of this kind was met at an address, or nothing; of a text that is no address, that is
-- said
pub record IsMetAt (text : List ℕ) (May : AddressFinding → Type 0) (what : Option AddressFinding)
    : Type 0 where
  pub host : IsAddress text → IfSome what May
  pub other : ¬ IsAddress text → what ≡ Some address.NotAddress

abbrev pub IsOfAddress : Bor (List ℕ) → (AddressFinding → Type 0) → Option Finding → Type 0
IsOfAddress text May found =
    (what : Option AddressFinding) × IsMetAt text.now May what
    × (found ≡ option_map (λ w. finding.Address text w) what)

-- ---- a desk

-- what the frame says that comes from the desk of this number, where one comes; a desk has a
-- number from 1 to 5
abbrev pub IsHeard : ℕ → (Frame → Option Finding) → Option Finding → Type 0
IsHeard desk told_by found =
    (found ≡ None) ⊎ ((given : Frame) × (1 ≤ desk) × (desk ≤ 5) × (found ≡ told_by given))

-- ---- what a fault is about

abbrev pub IsOfServing : DeskFault → (store text : Bor (List ℕ)) → Option Finding → Type 0
IsOfServing fault.StoreDevice store text found = IsOfFile store IsOfDevice found
IsOfServing fault.StoreDown store text found = IsOfFile store IsOfDevice found
IsOfServing fault.DamagedStore store text found = IsOfFile store IsOfDamage found
IsOfServing fault.WrongDesk store text found = found ≡ Some (finding.File store file.OtherDesk)
IsOfServing fault.CannotListen store text found = IsOfAddress text IsOfListening found
IsOfServing _ store text found = found ≡ None

abbrev pub IsOfLog : DeskFault → Bor (List ℕ) → Option Finding → Type 0
IsOfLog fault.StoreDevice store found = IsOfFile store IsOfReading found
IsOfLog fault.DamagedStore store found = IsOfFile store IsOfDamage found
IsOfLog _ store found = found ≡ None

abbrev pub IsOfAsking : DeskFault → (hall desk : ℕ) → Contact → Option Finding → Type 0
IsOfAsking fault.CannotConnect hall desk contact found =
    IsOfAddress contact.address IsOfConnecting found
IsOfAsking (fault.Refused refusal.Foreign) hall desk contact found =
    IsHeard desk (λ given. other_desk given hall desk) found
IsOfAsking (fault.Refused refusal.NotThere) hall desk contact found = IsHeard desk length_in found
IsOfAsking (fault.Refused refusal.HallDiffers) hall desk contact found =
    found ≡ Some finding.Differs
IsOfAsking _ hall desk contact found = found ≡ None

abbrev pub IsLookedAt : FaultSubject → DeskFault → Option Finding → Type 0
IsLookedAt about.Finding f found = found ≡ None
IsLookedAt (about.Serving store text) f found = IsOfServing f store text found
IsLookedAt (about.Log store) f found = IsOfLog f store found
IsLookedAt (about.Asking hall desk contact) f found = IsOfAsking f hall desk contact found

-- ---- what is met, and its line

-- a fault of a key is its own finding, whatever it is about; for other faults the program looks
-- again
abbrev pub IsFoundBy : Option KeyFinding → DeskFault → FaultSubject → Option Finding → Type 0
IsFoundBy (Some what) f matter found = found ≡ Some (finding.Key what)
IsFoundBy None f matter found = IsLookedAt matter f found

abbrev pub IsFound : DeskFault → FaultSubject → Option Finding → Type 0
IsFound f matter found = IsFoundBy (of_key f) f matter found

abbrev pub line_of : Finding → List ℕ
line_of found = finding_text found ++ codes "\n"

-- the line is written, and nothing where nothing was met
abbrev pub IsTold : Option Finding → (old new : Option (List ℕ)) → Type 0
IsTold None old new = Keeps old new
IsTold (Some found) old new = Appends old new (line_of found)

-- so a fault is explained
abbrev pub IsExplained : DeskFault → FaultSubject → (old new : Option (List ℕ)) → Type 0
IsExplained f matter old new =
    (found : Option Finding) × IsFound f matter found × IsTold found old new

-- something was met, and of the line that says it a front part is written
abbrev pub IsCutShort : DeskFault → FaultSubject → (old new : Option (List ℕ)) → Type 0
IsCutShort f matter old new =
    (found : Finding) × IsFound f matter (Some found) × AppendsPart old new (line_of found)

-- a program that was to listen at this address, and has no file
abbrev pub serving_at : Bor (List ℕ) → FaultSubject
serving_at address = about.Serving address address
