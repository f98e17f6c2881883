-- The key under which the desks of a hall are asked (the project's own).
use Rattle.std.specs.Prelude.{◌≡◌, ◌⊎◌, ℕ, List, Option, None, Some, IsSome, option_map}
use Rattle.std.specs.{Borrow.Bor, Path.path_join}
use Rattle.desk_requests.specs.declared.fault.DeskFault.{DeskFault}
use Rattle.hall_file.specs.{Halls.folder_of, Halls.key_text, declared.hall_file.HallFile.HallFile}
use Rattle.keys.specs.{key_file.KeyFiles.IsSpelt, declared.key_file.fault.KeyFileFault.KeyFileFault}
use Rattle.desk_requests.specs.declared.fault.DeskFault.TheVariants as fault
use Rattle.lines.specs.declared.fault.RunFault.TheVariants as run

-- the path of a hall's file, and that of a key's file, where one is given
pub record Naming : Type 0 where
  pub file : List ℕ
  pub key : Option (List ℕ)

abbrev pub naming : Bor (List ℕ) → Option (Bor (List ℕ)) → Naming
naming file key = record { file = file.now; key = option_map (λ k. k.now) key }

-- the path of the key's file: the one that is given, or else the one that the hall's file names
abbrev pub key_file_or : Option (List ℕ) → List ℕ → HallFile → Option (List ℕ)
key_file_or (Some given) file hall = Some given
key_file_or None file hall = option_map (path_join (folder_of file)) (key_text hall)

abbrev pub key_file_of : Naming → HallFile → Option (List ℕ)
key_file_of n hall = key_file_or n.key n.file hall

-- a key that some text spells where a key's file is named, and none else
abbrev pub IsKeyOf : Option (List ℕ) → Option (List ℕ) → Type 0
IsKeyOf None key = key ≡ None
IsKeyOf (Some file) None = ⊥
IsKeyOf (Some file) (Some key) = IsSpelt key

-- memory ran out, or the key's file that is named gives none
abbrev pub FailsKey : Option (List ℕ) → DeskFault → Type 0
FailsKey file f =
    (f ≡ fault.Run run.NoMemory) ⊎ (IsSome file × (e : KeyFileFault) × (f ≡ fault.KeyFile e))
