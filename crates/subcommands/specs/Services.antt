-- What is asked of a desk that is to serve the hall of a file (the project's own).
use Rattle.std.specs.Prelude.{◌≡◌, ◌⊎◌, ℕ, List, Option, None, Some, codes, map, option_map}
use Rattle.std.specs.{Borrow.Bor, Path.path_join}
use Rattle.hall_file.specs.Halls.{folder_of}
use Rattle.hall_file.specs.declared.service.{ServeOptions.ServeOptions, Service.Service}

-- no path, or that of `entry.key` beside the hall's file
abbrev pub IsBeside : List ℕ → Option (List ℕ) → Type 0
IsBeside file path = (path ≡ None) ⊎ (path ≡ Some (path_join (folder_of file) (codes "entry.key")))

-- the path of the entry key's file: the one that is wanted, or else such a one
abbrev pub IsEntryKeyFile : Option (Bor (List ℕ)) → List ℕ → Option (List ℕ) → Type 0
IsEntryKeyFile (Some given) file path = path ≡ Some given.now
IsEntryKeyFile None file path = IsBeside file path

-- the desk that is wanted, of this hall, whose desks have the key of this file, or none, and the
-- entry key of this one, or none, and listen at these addresses
pub record IsServiceOf (s : Service) (hall : ℕ) (wanted : ServeOptions)
    (key entry_key : Option (List ℕ)) (addresses : List (List ℕ)) : Type 0 where
  pub hall_is : s.hall ≡ hall
  pub there : map (λ a. a.now) s.addresses.now ≡ addresses
  pub key_is : option_map (λ k. k.now) s.options.key ≡ key
  pub entry_key_is : option_map (λ k. k.now) s.options.entry_key ≡ entry_key
  pub others :
      s.options ≡ record wanted { key = s.options.key; entry_key = s.options.entry_key }
