-- The file of a hall as the program has it (the project's own).
use Rattle.std.specs.Prelude.{◌≡◌, ℕ, zero, suc, List, [], map, Option, None, String, Vec}
use Rattle.std.specs.Prelude.{option_map, string_bytes, slice_get, unwrap_or}
use Rattle.std.specs.{Path.path_parent, declared.alloc.Global.Global}
use Rattle.toml.specs.Data.{Data, Members, string}
use Rattle.hall_file.specs.{Addresses.AreAddresses, Members.list_of}
use Rattle.hall_file.specs.{Files.ListsDesks, Files.SaysHall, declared.hall_file.HallFile.HallFile}

-- the addresses of the desks
abbrev pub texts_of : HallFile → List (List ℕ)
texts_of file = map string_bytes file.desks.items

-- the path of its key, where it has one
abbrev pub key_text : HallFile → Option (List ℕ)
key_text file = option_map string_bytes file.key

-- the folder of the file at this path
abbrev pub folder_of : List ℕ → List ℕ
folder_of path = unwrap_or (path_parent path) []

-- the address of a desk, counted from 1
abbrev pub address_at : List (List ℕ) → ℕ → Option (List ℕ)
address_at texts zero = None
address_at texts (suc n) = slice_get texts n

-- texts as the list of a file
abbrev pub data_of : List (List ℕ) → Data
data_of texts = list_of (map string texts)

-- the hall has this number, its desks listen at these texts, which are addresses, and it names no
-- key
pub record HasDesks (hall : ℕ) (texts : List (List ℕ)) (file : HallFile) : Type 0 where
  pub number : file.hall ≡ hall
  pub desks : texts_of file ≡ texts
  pub addresses : AreAddresses texts
  pub no_key : file.key ≡ None

-- the bytes say this hall
abbrev pub Says : List ℕ → HallFile → Type 0
Says bytes file = SaysHall bytes file.hall (texts_of file) (key_text file)

-- the member `desks` says these addresses
abbrev pub FindsDesks : Members → Vec (String Global) Global → Type 0
FindsDesks ms desks = ListsDesks ms (map string_bytes desks.items)
