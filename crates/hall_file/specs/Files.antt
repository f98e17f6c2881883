-- The file of a hall: what it says, and why a file says nothing (the project's own).
use Rattle.std.specs.Prelude.{◌≡◌, ◌≤◌, ◌<◌, ℕ, pos, List, map, length, Option, Some, None, Ok, Err}
use Rattle.std.specs.{Prelude.string_bytes, Str.IsUtf8, Str.Lossy.utf8_valid_len}
use Rattle.toml.specs.Data.{Data, Members, no_members, member, integer, string, get_member}
use Rattle.toml.specs.{Parse.parse_document, Errors.IsWithin, Errors.IsMemory, Errors.span_start}
use Rattle.hall_file.specs.Lines.{IsDocument, IsLineOf, line_at}
use Rattle.hall_file.specs.Members.{hall_name, desks_name, key_name, unknown_name, hall_of, key_of}
use Rattle.hall_file.specs.Members.{list_of, SaysDesks, FailsDesks, SaysKey}
use Rattle.hall_file.specs.declared.fault.HallFault.{HallFault, TheVariants.NoMemory}
use Rattle.hall_file.specs.declared.fault.HallFault.TheVariants.{TooLong, NotUtf8, NotToml, Unknown}
use Rattle.hall_file.specs.declared.fault.HallFault.TheVariants.{Missing, Hall, Desks, Key}
use Rattle.hall_file.specs.declared.fault.Member.TheVariants as name

-- 8 KiB
abbrev pub most_bytes : ℕ
most_bytes = 8192

-- the file is not too long, and these are its members
pub record Opens (bytes : List ℕ) (ms : Members) : Type 0 where
  pub short : length bytes ≤ most_bytes
  pub document : IsDocument bytes ms

-- no member is there but `hall`, `desks` and `key`
pub record IsKnown (bytes : List ℕ) (ms : Members) : Type 0 where
  pub opens : Opens bytes ms
  pub known : unknown_name ms ≡ None

-- and `hall` is this number
pub record HasHall (bytes : List ℕ) (ms : Members) (hall : ℕ) : Type 0 where
  pub known : IsKnown bytes ms
  pub value : Data
  pub found : get_member hall_name ms ≡ Some value
  pub says : hall_of value ≡ Ok hall

-- `desks` has the addresses of these desks
abbrev pub ListsDesks : Members → List (List ℕ) → Type 0
ListsDesks ms desks = (d : Data) × (get_member desks_name ms ≡ Some d) × SaysDesks d desks

-- the file says this hall, the addresses of these desks, and the path of its key, where it has one
pub record SaysHall (bytes : List ℕ) (hall : ℕ) (desks : List (List ℕ)) (key : Option (List ℕ))
    : Type 0 where
  pub members : Members
  pub has_hall : HasHall bytes members hall
  pub lists : ListsDesks members desks
  pub says : SaysKey members key

-- why a file is refused: the first of these that applies
abbrev pub Refuses : List ℕ → HallFault → Type 0
Refuses bytes TooLong = most_bytes < length bytes
Refuses bytes (NotUtf8 line) =
    (length bytes ≤ most_bytes) × (IsUtf8 bytes → ⊥) × (line ≡ line_at bytes (utf8_valid_len bytes))
Refuses bytes (NotToml line reason) =
    (length bytes ≤ most_bytes) × IsUtf8 bytes × (parse_document bytes ≡ None)
    × (IsMemory reason → ⊥) × IsWithin bytes reason × (line ≡ line_at bytes (span_start reason))
Refuses bytes (Unknown line text) =
    (ms : Members) × Opens bytes ms × (unknown_name ms ≡ Some (string_bytes text))
    × IsLineOf bytes (string_bytes text) line
Refuses bytes (Missing name.Hall) =
    (ms : Members) × IsKnown bytes ms × (get_member hall_name ms ≡ None)
Refuses bytes (Hall line fault) =
    (ms : Members) × IsKnown bytes ms
    × (d : Data) × (get_member hall_name ms ≡ Some d) × (hall_of d ≡ Err fault)
    × IsLineOf bytes hall_name line
Refuses bytes (Missing name.Desks) =
    (ms : Members) × (hall : ℕ) × HasHall bytes ms hall × (get_member desks_name ms ≡ None)
Refuses bytes (Desks line fault) =
    (ms : Members) × (hall : ℕ) × HasHall bytes ms hall
    × (d : Data) × (get_member desks_name ms ≡ Some d) × FailsDesks d fault
    × IsLineOf bytes desks_name line
Refuses bytes (Key line fault) =
    (ms : Members) × (hall : ℕ) × (desks : List (List ℕ)) × HasHall bytes ms hall
    × ListsDesks ms desks × (d : Data) × (get_member key_name ms ≡ Some d) × (key_of d ≡ Err fault)
    × IsLineOf bytes key_name line
Refuses bytes NoMemory = Unit {0}

-- the member `key`, where there is one
abbrev pub key_members : Option (List ℕ) → Members
key_members None = no_members
key_members (Some path) = member key_name (string path) no_members

-- the members of a hall's file, in the order of their names
abbrev pub members_of : ℕ → List (List ℕ) → Option (List ℕ) → Members
members_of hall desks key =
    member desks_name (list_of (map string desks))
    (member hall_name (integer (pos hall)) (key_members key))
