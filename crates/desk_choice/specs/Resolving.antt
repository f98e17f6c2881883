-- The desk that arguments ask for: of an address, or of a hall's file (the project's own).
use Rattle.std.specs.Prelude.{◌≡◌, ◌≢◌, ◌⊎◌, ◌++◌, ℕ, List, Option, None, Some, Result, Ok, Err}
use Rattle.std.specs.Prelude.{codes, decimal, option_map, string_bytes, vec_len}
use Rattle.std.specs.{Borrow.Bor, Io.KnownBytes.Keeps}
use Rattle.arguments.specs.declared.places.Place.{Place}
use Rattle.batch.specs.Dialing.{Dialed}
use Rattle.desk_requests.specs.declared.fault.DeskFault.{DeskFault}
use Rattle.hall_file.specs.Halls.{Says, address_at, texts_of}
use Rattle.hall_file.specs.declared.hall_file.HallFile.{HallFile}
use Rattle.lines.specs.Bytes.{AppendsPart}
use Rattle.desk_choice.specs.{Files.IsOfFile, declared.resolving.DeskAddress.DeskAddress}
use Rattle.desk_choice.specs.Keys.{FailsKey, IsKeyOf, Naming, key_file_of, naming}
use Rattle.desk_choice.specs.Seeking.{Seeks, no_memory, seeking}
use Rattle.arguments.specs.declared.places.Place.TheVariants as place
use Rattle.desk_requests.specs.declared.fault.DeskFault.TheVariants as fault

-- what became of connections, and what the fault stream has, before a call and afterwards
pub record Outside : Type 0 where
  pub dialed : Option (List Dialed)
  pub dialed_then : Option (List Dialed)
  pub told : Option (List ℕ)
  pub told_then : Option (List ℕ)

abbrev pub outside : {D F : Type 0} → (D → Option (List Dialed)) → (F → Option (List ℕ))
    → (dial dial_then : D) → (faults faults_then : F) → Outside
outside dialed contents dial dial_then faults faults_then =
    record {
      dialed = dialed dial;
      dialed_then = dialed dial_then;
      told = contents faults;
      told_then = contents faults_then;
    }

-- no desk was asked, and nothing was said
pub record IsQuiet (o : Outside) : Type 0 where
  pub dialed : o.dialed ≡ o.dialed_then
  pub told : Keeps o.told o.told_then

-- the desk of this number of a hall's file, the address that the file has for it, and this key
pub record IsDeskOf (file : HallFile) (key : Option (List ℕ)) (desk : ℕ) (a : DeskAddress) : Type 0
  where
    pub hall : a.hall ≡ file.hall
    pub desk_is : a.desk ≡ desk
    pub key_is : a.key ≡ key
    pub listens : address_at (texts_of file) desk ≡ Some (string_bytes a.address)

-- the hall has no desk of this number, or memory ran out
abbrev pub MissesDesk : HallFile → ℕ → DeskFault → Type 0
MissesDesk file desk f =
    ((f ≡ fault.BadDesk) × (address_at (texts_of file) desk ≡ None)) ⊎ (f ≡ no_memory)

-- the line that says which desk is asked, and where
abbrev pub asking_text : ℕ → List ℕ → List ℕ
asking_text desk address =
    codes "asking desk " ++ decimal desk ++ codes " at " ++ address ++ codes "\n"

-- that line is written, or, where it cannot be written, a front part of it; nothing is said of the
-- last desk of the hall
pub record IsTold (file : HallFile) (a : DeskAddress) (old new : Option (List ℕ)) : Type 0 where
  pub last : a.desk ≡ vec_len file.desks → Keeps old new
  pub other : a.desk ≢ vec_len file.desks
      → AppendsPart old new (asking_text a.desk (string_bytes a.address))

-- the desks of a hall's file were asked under this key from the last one to the first, and this is
-- what was found
abbrev pub SeeksAll : HallFile → Option (List ℕ) → ℕ → Outside → Result ℕ DeskFault → Type 0
SeeksAll file key patience o found =
    Seeks (seeking file patience key) (vec_len file.desks) o.dialed o.dialed_then found

-- the last desk of a hall's file that answers
pub record Chooses (file : HallFile) (key : Option (List ℕ)) (patience : ℕ) (a : DeskAddress)
    (o : Outside) : Type 0 where
  pub seeks : SeeksAll file key patience o (Ok a.desk)
  pub desk : IsDeskOf file key a.desk a
  pub told : IsTold file a o.told o.told_then

-- none answers, or memory ran out
pub record FailsToChoose (f : DeskFault) (file : HallFile) (key : Option (List ℕ)) (patience : ℕ)
    (o : Outside) : Type 0 where
  pub found : Result ℕ DeskFault
  pub seeks : SeeksAll file key patience o found
  pub cause : (found ≡ Err f) ⊎ (f ≡ no_memory)
  pub quiet : Keeps o.told o.told_then

-- a file's bytes say a hall, and its key is this one, where it has one, of which this holds
abbrev pub IsSaid : Naming → (HallFile → Option (List ℕ) → Type 0) → Type 0
IsSaid n Holds =
    (file : HallFile) × (bytes : List ℕ) × Says bytes file
    × (key : Option (List ℕ)) × IsKeyOf (key_file_of n file) key × Holds file key

-- a file's bytes say a hall, and its key cannot be read
abbrev pub IsKeyless : Naming → DeskFault → Type 0
IsKeyless n f =
    (file : HallFile) × (bytes : List ℕ) × Says bytes file × FailsKey (key_file_of n file) f

-- the desk of a number in a hall's file, or the last one that answers
abbrev pub FindsDesk : Naming → Option ℕ → ℕ → DeskAddress → Outside → Type 0
FindsDesk n (Some desk) patience a o = IsSaid n (λ file key. IsDeskOf file key desk a × IsQuiet o)
FindsDesk n None patience a o = IsSaid n (λ file key. Chooses file key patience a o)

-- no desk was asked: the file gives no hall, or its key cannot be read
abbrev pub IsUnread : DeskFault → Naming → Outside → Type 0
IsUnread f n o = (IsOfFile f × (o.dialed ≡ o.dialed_then)) ⊎ (IsQuiet o × IsKeyless n f)

-- or its hall has no such desk, or none answers
abbrev pub FailsToFind : DeskFault → Naming → Option ℕ → ℕ → Outside → Type 0
FailsToFind f n (Some desk) patience o =
    IsUnread f n o ⊎ (IsQuiet o × IsSaid n (λ file key. MissesDesk file desk f))
FailsToFind f n None patience o =
    IsUnread f n o ⊎ IsSaid n (λ file key. FailsToChoose f file key patience o)

-- the desk of a hall at an address, and the key of a file, or none
pub record IsAt (hall desk : ℕ) (address : List ℕ) (given : Option (Bor (List ℕ)))
    (a : DeskAddress) : Type 0 where
  pub hall_is : a.hall ≡ hall
  pub desk_is : a.desk ≡ desk
  pub listens : string_bytes a.address ≡ address
  pub key : IsKeyOf (option_map (λ k. k.now) given) a.key

-- the desk that is asked for
abbrev pub Resolves : Place → ℕ → DeskAddress → Outside → Type 0
Resolves (place.Desk hall desk address key) patience a o =
    IsAt hall desk address.now key a × IsQuiet o
Resolves (place.File file desk key) patience a o = FindsDesk (naming file key) desk patience a o

-- there is none
abbrev pub FailsToResolve : DeskFault → Place → ℕ → Outside → Type 0
FailsToResolve f (place.Desk hall desk address key) patience o =
    FailsKey (option_map (λ k. k.now) key) f × IsQuiet o
FailsToResolve f (place.File file desk key) patience o =
    FailsToFind f (naming file key) desk patience o
