-- What the members of a hall's file say: the hall's number, the addresses of its desks, and where
-- its key is (the project's own).
use Rattle.std.specs.Prelude.{◌≡◌, ◌+◌, ℕ, pos, negsuc, ◌||◌, true, false, IsTrue, if◌then◌else◌}
use Rattle.std.specs.Prelude.{nat_le, List, [], ◌∷◌, ◌++◌, map, length, codes, bytes_eq, Option, Ok}
use Rattle.std.specs.{Prelude.Some, Prelude.None, Prelude.Result, Prelude.Err, List.list_any}
use Rattle.toml.specs.Data.{Data, string, integer, array, Members, no_members, member, as_str}
use Rattle.toml.specs.{Data.as_array, Data.get_member, View.items_of}
use Rattle.hall_file.specs.Addresses.{IsAddress, AreAddresses, is_count}
use Rattle.hall_file.specs.declared.fault.{HallNumberFault.HallNumberFault, DesksFault.DesksFault}
use Rattle.hall_file.specs.declared.fault.HallNumberFault.TheVariants.{NotInteger, OutOfRange}
use Rattle.hall_file.specs.declared.fault.DesksFault.TheVariants.{NotList, BadCount, NotText, Twice}
use Rattle.hall_file.specs.declared.fault.{DesksFault.TheVariants.NotAddress, KeyFault.KeyFault}
use Rattle.hall_file.specs.declared.fault.KeyFault.TheVariants as key

abbrev pub hall_name : List ℕ
hall_name = codes "hall"

abbrev pub desks_name : List ℕ
desks_name = codes "desks"

abbrev pub key_name : List ℕ
key_name = codes "key"

-- the first member, in the order of the names' bytes, that a hall's file does not have
abbrev pub unknown_name : Members → Option (List ℕ)
unknown_name no_members = None
unknown_name (member name d ms) =
    if bytes_eq name hall_name || bytes_eq name desks_name || bytes_eq name key_name
    then unknown_name ms else Some name

-- The hall.

abbrev pub last_hall : ℕ
last_hall = 4294967295

-- the hall's number that a value is
abbrev pub hall_of : Data → Result ℕ HallNumberFault
hall_of (integer (pos n)) = if nat_le n last_hall then Ok n else Err OutOfRange
hall_of (integer (negsuc n)) = Err OutOfRange
hall_of _ = Err NotInteger

-- The desks.

-- a list of these values
abbrev pub list_of : List Data → Data
list_of ds = array (items_of ds)

-- the value is a list of these texts, which are the addresses of a hall's desks
pub record SaysDesks (d : Data) (desks : List (List ℕ)) : Type 0 where
  pub value : d ≡ list_of (map string desks)
  pub count : IsTrue (is_count (length desks))
  pub addresses : AreAddresses desks

-- the value is a list of three or five items, of which this one, after the addresses of other
-- desks, is that of desk k
pub record HasItem (d : Data) (front : List (List ℕ)) (item : Data) (k : ℕ) : Type 0 where
  pub rest : List Data
  pub value : d ≡ list_of (map string front ++ item ∷ rest)
  pub count : IsTrue (is_count (length (map string front ++ item ∷ rest)))
  pub addresses : AreAddresses front
  pub desk : k ≡ length front + 1

-- why the value is no list of a hall's desks: the first item that cannot be there is told
abbrev pub FailsDesks : Data → DesksFault → Type 0
FailsDesks d NotList = as_array d ≡ None
FailsDesks d (BadCount n) =
    (ds : List Data) × (d ≡ list_of ds) × (n ≡ length ds) × (is_count n ≡ false)
FailsDesks d (NotText k) =
    (front : List (List ℕ)) × (item : Data) × HasItem d front item k × (as_str item ≡ None)
FailsDesks d (NotAddress k) =
    (front : List (List ℕ)) × (text : List ℕ) × HasItem d front (string text) k
    × (IsAddress text → ⊥)
FailsDesks d (Twice k) =
    (front : List (List ℕ)) × (text : List ℕ) × HasItem d front (string text) k
    × IsAddress text × (list_any (bytes_eq text) front ≡ true)

-- The key.

-- the path of the key's file that a value is
abbrev pub key_of : Data → Result (List ℕ) KeyFault
key_of (string []) = Err key.Empty
key_of (string (b ∷ text)) = Ok (b ∷ text)
key_of _ = Err key.NotText

-- the path that the members say, where they have one
abbrev pub SaysKey : Members → Option (List ℕ) → Type 0
SaysKey ms None = get_member key_name ms ≡ None
SaysKey ms (Some path) = (d : Data) × (get_member key_name ms ≡ Some d) × (key_of d ≡ Ok path)
