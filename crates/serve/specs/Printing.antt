-- What a desk that serves prints, and when it may (the project's own).
use Rattle.std.specs.Prelude.{◌≡◌, ◌⊎◌, ◌≤◌, ℕ, List, ◌++◌, codes, decimal, length, Option, IfSome}
use Rattle.std.specs.Prelude.{Some, None, Bool, true, false, map}
use Rattle.std.specs.Io.KnownBytes.{Keeps, Appends}
use Rattle.lines.specs.Bytes.{AppendsPart}
use Rattle.store.specs.Ranges.{IsHome, home_at}
use Rattle.store.specs.declared.{fault.OpenFault.OpenFault, home.Home.Home}
use Rattle.serve.specs.Addresses.{AreApart, HasTwins, IsNoAddress}
use Rattle.serve.specs.Keys.{IsKeyed, IsOfKeys, LacksKey}
use Rattle.serve.specs.declared.fault.ServeFault.{ServeFault}
use Rattle.hall_file.specs.declared.service.{StoreOrigin.StoreOrigin, Service.Service}
use Rattle.store.specs.declared.fault.OpenFault.TheVariants as opening
use Rattle.serve.specs.declared.fault.ServeFault.TheVariants as fault
use Rattle.hall_file.specs.declared.service.StoreOrigin.TheVariants as making

-- which desk it is, of how many, and how long its log is
abbrev pub first_line : Home → ℕ → List ℕ
first_line home len =
    codes "desk " ++ decimal home.desk ++ codes " of " ++ decimal home.desks ++ codes " len "
    ++ decimal len ++ codes "\n"

-- how many clients came
abbrev pub last_line : ℕ → List ℕ
last_line count = codes "served " ++ decimal count ++ codes "\n"

abbrev pub both_lines : Home → ℕ → ℕ → List ℕ
both_lines home len count = first_line home len ++ last_line count

-- the desk, of a hall of as many desks as there are addresses
abbrev pub home_of : Service → Home
home_of s = home_at s.hall s.options.desk (length s.addresses.now)

abbrev pub IsCount : Service → Type 0
IsCount s = (length s.addresses.now ≡ 3) ⊎ (length s.addresses.now ≡ 5)

-- three addresses or five, and one of these desks
abbrev pub IsPlaced : Service → Type 0
IsPlaced s = IsHome (home_of s)

-- the arguments say whether the store is opened or made, as they do with a hall's file
abbrev pub IsOfFile : StoreOrigin → Type 0
IsOfFile making.AsNeeded = ⊥
IsOfFile making.Open = Unit {0}
IsOfFile making.New = Unit {0}

abbrev pub texts_of : Service → List (List ℕ)
texts_of s = map (λ t. t.now) s.addresses.now

-- one of the desks of a hall, and of a hall's file each desk has an address of its own
abbrev pub IsInHall : Service → Type 0
IsInHall s = IsPlaced s × (IsOfFile s.options.making → AreApart (texts_of s))

-- and without a hall's key nothing is said of others
abbrev pub IsAllowed : Service → Type 0
IsAllowed s = IsInHall s × IsKeyed s

-- the four refusals by name, in this order
abbrev pub IsRefused : ServeFault → Service → Type 0
IsRefused fault.BadCount s = ¬ IsCount s
IsRefused fault.BadDesk s = IsCount s × (¬ IsPlaced s)
IsRefused fault.SameAddresses s = IsPlaced s × IsOfFile s.options.making × HasTwins (texts_of s)
IsRefused fault.NoHallKey s = IsInHall s × LacksKey s
IsRefused _ s = ⊥

-- Why a file is not opened in which a store is, or none: a store that has to be there is not, or
-- one that has to be made is there already.
abbrev pub refusal_of : StoreOrigin → Bool → Option ServeFault
refusal_of making.AsNeeded there = None
refusal_of making.Open true = None
refusal_of making.Open false = Some fault.NoStore
refusal_of making.New true = Some fault.StoreThere
refusal_of making.New false = None

-- those of the file
abbrev pub IsOfStore : ServeFault → Type 0
IsOfStore fault.WrongDesk = Unit {0}
IsOfStore fault.Damaged = Unit {0}
IsOfStore fault.Device = Unit {0}
IsOfStore fault.NoMemory = Unit {0}
IsOfStore _ = ⊥

-- those of the file and of the desks' addresses, before the desk is opened
abbrev pub IsOfOpening : ServeFault → Service → Type 0
IsOfOpening fault.NoStore s = s.options.making ≡ making.Open
IsOfOpening fault.StoreThere s = s.options.making ≡ making.New
IsOfOpening (fault.UnknownHost desk) s = IsOfFile s.options.making × IsNoAddress (texts_of s) desk
IsOfOpening fault.CannotListen s = s.options.making ≡ making.New
IsOfOpening f s = IsOfStore f

-- each fault of the store goes by its own name
abbrev pub opening_fault : OpenFault → ServeFault
opening_fault opening.WrongDesk = fault.WrongDesk
opening_fault opening.Damaged = fault.Damaged
opening_fault opening.Device = fault.Device
opening_fault opening.NoMemory = fault.NoMemory

-- those of the address
abbrev pub IsOfListener : ServeFault → Type 0
IsOfListener f = (f ≡ fault.CannotListen) ⊎ (f ≡ fault.NoMemory)

-- those of a line
abbrev pub IsOfLine : ServeFault → Type 0
IsOfLine f = (f ≡ fault.Write) ⊎ (f ≡ fault.NoMemory)

-- what the writer had and has
pub record Output : Type 0 where
  pub old : Option (List ℕ)
  pub new : Option (List ℕ)

abbrev pub output : Option (List ℕ) → Option (List ℕ) → Output
output old new = record { old = old; new = new }

-- at most as many clients came as the arguments say, if they say it
abbrev pub IsFew : ℕ → Service → Type 0
IsFew count s = IfSome s.options.connections (λ most. count ≤ most)

-- the desk served, and printed both lines
pub record Prints (s : Service) (o : Output) : Type 0 where
  pub allowed : IsAllowed s
  pub len : ℕ
  pub count : ℕ
  pub few : IsFew count s
  pub written : Appends o.old o.new (both_lines (home_of s) len count)

-- at most a part of both lines was printed
pub record PrintsPart (s : Service) (o : Output) : Type 0 where
  pub allowed : IsAllowed s
  pub len : ℕ
  pub count : ℕ
  pub few : IsFew count s
  pub written : AppendsPart o.old o.new (both_lines (home_of s) len count)

-- the cause of each fault that is in front of serving: the named ones in this order; the others are
-- the file's and the socket's, of which no more is known
abbrev pub Hinders : ServeFault → Service → Type 0
Hinders fault.BadCount s = ¬ IsCount s
Hinders fault.BadDesk s = IsCount s × (¬ IsPlaced s)
Hinders fault.SameAddresses s = IsPlaced s × IsOfFile s.options.making × HasTwins (texts_of s)
Hinders fault.NoHallKey s = IsInHall s × LacksKey s
Hinders (fault.KeyFile e) s = IsAllowed s × IsOfKeys (fault.KeyFile e) s
Hinders fault.SameKeys s = IsAllowed s × IsOfKeys fault.SameKeys s
Hinders fault.NoStore s = IsAllowed s × (s.options.making ≡ making.Open)
Hinders fault.StoreThere s = IsAllowed s × (s.options.making ≡ making.New)
Hinders (fault.UnknownHost desk) s =
    IsAllowed s × IsOfFile s.options.making × IsNoAddress (texts_of s) desk
Hinders fault.Down s = ⊥
Hinders fault.Write s = ⊥
Hinders _ s = IsAllowed s

-- what is printed at each fault: nothing where the desk did not serve
abbrev pub PrintsAt : ServeFault → Service → Output → Type 0
PrintsAt fault.Down s o = Prints s o
PrintsAt fault.CannotListen s o = (IsAllowed s × Keeps o.old o.new) ⊎ Prints s o
PrintsAt fault.Write s o = PrintsPart s o
PrintsAt fault.NoMemory s o = (IsAllowed s × Keeps o.old o.new) ⊎ PrintsPart s o
PrintsAt f s o = Hinders f s × Keeps o.old o.new
