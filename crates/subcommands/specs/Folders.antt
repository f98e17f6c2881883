-- The files of a hall that are made: its file, its keys, and a folder for each machine (the
-- project's own).
use Rattle.std.specs.Prelude.{◌≡◌, ◌⊎◌, ◌++◌, ◌∷◌, [], ℕ, List, Option, codes}
use Rattle.std.specs.Io.KnownBytes.{Appends}
use Rattle.desk_requests.specs.{Statuses.status_of, declared.fault.DeskFault.DeskFault}
use Rattle.subcommands.specs.declared.folders.{File.File as Made, Folder.Folder}
use Rattle.subcommands.specs.declared.folders.File.TheVariants.{Hall, Key, EntryKey}
use Rattle.subcommands.specs.declared.folders.Folder.TheVariants.{Here, Desk, Table, Board}
use Rattle.subcommands.specs.declared.folders.HallTexts.{HallTexts}

abbrev pub name_of : Made → List ℕ
name_of Hall = codes "hall.toml"
name_of Key = codes "hall.key"
name_of EntryKey = codes "entry.key"

-- only the owner of a key reads it (0o644 and 0o600)
abbrev pub mode_of : Made → ℕ
mode_of Hall = 420
mode_of Key = 384
mode_of EntryKey = 384

-- where the hall's file is made, and at a desk, both keys; at a score table the entry key
abbrev pub names_in : Folder → List Made
names_in Here = Hall ∷ Key ∷ EntryKey ∷ []
names_in (Desk number) = Hall ∷ Key ∷ EntryKey ∷ []
names_in Table = Hall ∷ EntryKey ∷ []
names_in Board = Hall ∷ []

-- the hall's file names the key that is beside it
abbrev pub hall_text : HallTexts → Folder → List ℕ
hall_text texts Here = texts.desk.items
hall_text texts (Desk number) = texts.desk.items
hall_text texts Table = texts.table.items
hall_text texts Board = texts.board.items

abbrev pub text_of : HallTexts → Folder → Made → List ℕ
text_of texts folder Hall = hall_text texts folder
text_of texts folder Key = texts.key.items
text_of texts folder EntryKey = texts.entry_key.items

-- what is printed once all is made
abbrev pub made_text : List ℕ
made_text =
    codes "hall.toml, hall.key and entry.key are made, and a folder for each machine:\n"
    ++ codes "for-desk-1 and so on, for-table, for-board; "
    ++ codes "the board needs --open-sheets at each desk\n"

-- all was made, and that was printed; or there is a fault
abbrev pub EndsFolders : ℕ → (old new : Option (List ℕ)) → Type 0
EndsFolders status old new =
    ((status ≡ 0) × Appends old new made_text) ⊎ ((f : DeskFault) × (status ≡ status_of f))
