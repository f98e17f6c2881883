-- What options name: numbers, a hall, its desks and its key (the project's own).
use Rattle.std.specs.Prelude.{◌≡◌, ◌⊎◌, ◌≤◌, ◌||◌, ℕ, Bool, true, false, List, codes, decimal}
use Rattle.std.specs.Prelude.{Option, None, Some, is_some, length, option_map, unwrap_or, vec_len}
use Rattle.clap.specs.Words.{Text, first_value, matched_of, raw_values}
use Rattle.clap.specs.declared.parser.matches.Found.{Found}
use Rattle.hall_file.specs.{Halls.Says, Opening.IsOfPath, declared.hall_file.HallFile.HallFile}
use Rattle.hall_file.specs.{Halls.key_text, declared.hall_options.finding.FoundHall.FoundHall}
use Rattle.keys.specs.key_file.KeyFiles.{IsSpelt}
use Rattle.hall_file.specs.declared.hall_options.mistakes.Mistake.{Mistake}
use Rattle.hall_file.specs.declared.hall_options.mistakes.Mistake.TheVariants as mistake

-- the option has this number in decimal, without a sign or leading zeros
abbrev pub HasNumber : Found → Text → ℕ → Type 0
HasNumber found id n = first_value found id ≡ Some (decimal n)

-- the option has a value
abbrev pub is_given : Found → Text → Bool
is_given found id = is_some (first_value found id)

-- how many values the option has
abbrev pub count_of : Found → Text → Option ℕ
count_of found id = option_map (λ a. length (raw_values a)) (matched_of found id)

-- a key that some text spells where a key's file is named, and none else
abbrev pub IsKeyOf : Bool → Option (List ℕ) → Type 0
IsKeyOf false key = key ≡ None
IsKeyOf true None = ⊥
IsKeyOf true (Some key) = IsSpelt key

-- ---- a hall

-- the hall has the number of `--hall`, a desk for each value of `--to`, and the key of `--key`
pub record IsGiven (found : Found) (hall : FoundHall) : Type 0 where
  pub number : HasNumber found (codes "hall") hall.hall
  pub desks : count_of found (codes "to") ≡ Some (vec_len hall.desks)
  pub key : IsKeyOf (is_given found (codes "key")) hall.key

-- the hall is the one that a file says: its number, its desks, and the key of `--key`, or else the
-- one that the file names
pub record IsOfFile (found : Found) (file : HallFile) (hall : FoundHall) : Type 0 where
  pub number : hall.hall ≡ file.hall
  pub desks : vec_len hall.desks ≡ vec_len file.desks
  pub key : IsKeyOf (is_given found (codes "key") || is_some (key_text file)) hall.key

abbrev pub IsOfSomeFile : Found → FoundHall → Type 0
IsOfSomeFile found hall =
    (bytes : List ℕ) × (file : HallFile) × Says bytes file × IsOfFile found file hall

-- the hall of `--hall`, where that is given, and else that of a file
abbrev pub IsHallIn : Bool → Found → FoundHall → Type 0
IsHallIn true found hall = IsGiven found hall
IsHallIn false found hall = IsOfSomeFile found hall

abbrev pub IsHallOf : Found → FoundHall → Type 0
IsHallOf found hall = IsHallIn (is_given found (codes "hall")) found hall

-- ---- mistakes

-- an address is not known, or memory was refused
abbrev pub IsUnknown : Mistake → Mistake → Type 0
IsUnknown said m = (m ≡ said) ⊎ (m ≡ mistake.NoMemory)

-- the file at this path describes no hall, or memory was refused
abbrev pub IsMistakeOfFile : Text → Mistake → Type 0
IsMistakeOfFile path (mistake.File fault) = IsOfPath path fault
IsMistakeOfFile path mistake.NoMemory = Unit {0}
IsMistakeOfFile path _ = ⊥

-- the key's file gives no key, or memory was refused
abbrev pub IsMistakeOfKey : Mistake → Type 0
IsMistakeOfKey (mistake.Key fault) = Unit {0}
IsMistakeOfKey mistake.NoMemory = Unit {0}
IsMistakeOfKey _ = ⊥

-- the address of a desk of a hall's file is not known, or memory was refused
abbrev pub IsMistakeOfDesk : HallFile → Mistake → Type 0
IsMistakeOfDesk file (mistake.Unknown desk) = (1 ≤ desk) × (desk ≤ vec_len file.desks)
IsMistakeOfDesk file mistake.NoMemory = Unit {0}
IsMistakeOfDesk file _ = ⊥

-- the path of the hall's file: that of `--config`, or else hall.toml
abbrev pub path_of : Found → Text
path_of found = unwrap_or (first_value found (codes "config")) (codes "hall.toml")

-- what can be wrong where `--hall` is given, and where it isn't
abbrev pub IsMistakeIn : Bool → Found → Mistake → Type 0
IsMistakeIn true found (mistake.Number id) = id.now ≡ codes "hall"
IsMistakeIn true found (mistake.Address id) = id.now ≡ codes "to"
IsMistakeIn false found (mistake.File fault) = IsOfPath (path_of found) fault
IsMistakeIn false found (mistake.Unknown desk) = (1 ≤ desk) × (desk ≤ 5)
IsMistakeIn given found (mistake.Key fault) = Unit {0}
IsMistakeIn given found mistake.NoMemory = Unit {0}
IsMistakeIn given found _ = ⊥

abbrev pub IsHallMistake : Found → Mistake → Type 0
IsHallMistake found m = IsMistakeIn (is_given found (codes "hall")) found m
