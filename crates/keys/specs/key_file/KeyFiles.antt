-- The file of a hall's key (the project's own).
use Rattle.std.specs.Prelude.{◌≡◌, ◌≢◌, ◌⊎◌, ℕ, List, [], ◌∷◌, ◌++◌, length, Option, Some, None, Ok}
use Rattle.std.specs.{Prelude.bit_and, Prelude.replicate, Fs.IsFile, Fs.file_type, Fs.metadata_mode}
use Rattle.std.specs.{List.AllPass, Io.KnownBytes.Appends, declared.fs.attrs.Metadata.Metadata}
use Rattle.hex.specs.Hex.{decode_of, encode_lower, is_hex_digit}
use Rattle.keys.specs.{Keys.digits_of, declared.key_file.fault.KeyFileFault.KeyFileFault}
use Rattle.keys.specs.declared.key_file.fault.KeyFileFault.TheVariants.{NotThere, Unreadable}
use Rattle.keys.specs.declared.key_file.fault.KeyFileFault.TheVariants.{NotFile, Open, Mark, Return}
use Rattle.keys.specs.declared.key_file.fault.KeyFileFault.TheVariants.{Zeros, NoKey, NoMemory}

-- one of the permissions of the file's group or of others is set
abbrev pub IsOpenToOthers : ℕ → Type 0
IsOpenToOthers mode = bit_and mode 0o077 ≢ 0

-- a regular file that is its owner's alone
abbrev pub IsAlone : Metadata → Type 0
IsAlone file = IsFile (file_type file) × (bit_and (metadata_mode file) 0o077 ≡ 0)

-- why a file is refused, whatever its bytes are
abbrev pub RefusesFile : Metadata → KeyFileFault → Type 0
RefusesFile file NotFile = IsFile (file_type file) → ⊥
RefusesFile file Open = IsFile (file_type file) × IsOpenToOthers (metadata_mode file)
RefusesFile file _ = ⊥

-- the bytes are 64 hexadecimal digits and at most one line feed
abbrev pub IsKeyText : List ℕ → Type 0
IsKeyText bytes = (length (digits_of bytes) ≡ 64) × AllPass is_hex_digit (digits_of bytes)

-- the bytes spell this key
abbrev pub Spells : List ℕ → List ℕ → Type 0
Spells bytes key = decode_of (digits_of bytes) ≡ Ok key

-- the bytes begin with a byte-order mark
abbrev pub HasMark : List ℕ → Type 0
HasMark bytes = (rest : List ℕ) × (bytes ≡ 239 ∷ 187 ∷ 191 ∷ rest)

-- a carriage return and a line feed are after a key's text
abbrev pub HasReturn : List ℕ → Type 0
HasReturn bytes = (text : List ℕ) × (bytes ≡ text ++ 13 ∷ 10 ∷ []) × IsKeyText text

-- the bytes, where they are known, spell this key, which is not all zeros
abbrev pub HasKey : Option (List ℕ) → List ℕ → Type 0
HasKey (Some bytes) key = Spells bytes key × (key ≢ replicate 32 0)
HasKey None key = Unit {0}

-- bytes that were read spell this key, which is not all zeros
abbrev pub IsSpelt : List ℕ → Type 0
IsSpelt key = (bytes : List ℕ) × HasKey (Some bytes) key

-- why these bytes give no key
abbrev pub RefusesBytes : List ℕ → KeyFileFault → Type 0
RefusesBytes bytes Mark = HasMark bytes
RefusesBytes bytes Return = HasReturn bytes
RefusesBytes bytes Zeros = Spells bytes (replicate 32 0)
RefusesBytes bytes NoKey =
    (IsKeyText bytes → ⊥) × (HasMark bytes → ⊥) × (HasReturn bytes → ⊥)
RefusesBytes bytes _ = ⊥

-- why bytes give no key, where they are known and where they are not
abbrev pub RefusesHad : Option (List ℕ) → KeyFileFault → Type 0
RefusesHad (Some bytes) fault = RefusesBytes bytes fault
RefusesHad None fault = (bytes : List ℕ) × RefusesBytes bytes fault

-- why a reader gives no key: a read failed, memory ran out, or its bytes spell none
abbrev pub Refuses : Option (List ℕ) → KeyFileFault → Type 0
Refuses had fault = (fault ≡ Unreadable) ⊎ (fault ≡ NoMemory) ⊎ RefusesHad had fault

-- ---- files of which it is told what stands in them

-- a file: what is known of it beside its bytes, and its bytes
pub record KeyFileOf : Type 0 where
  pub about : Metadata
  pub bytes : List ℕ

-- where the file is known, this is known of it
abbrev pub IsAbout : Option KeyFileOf → Metadata → Type 0
IsAbout None about = Unit {0}
IsAbout (Some file) about = about ≡ file.about

-- and a reader of it has its bytes
abbrev pub HasBytes : Option KeyFileOf → Option (List ℕ) → Type 0
HasBytes None had = Unit {0}
HasBytes (Some file) had = had ≡ Some file.bytes

-- the file, where it is known, is its owner's alone, and its bytes spell this key, which is not all
-- zeros; where it is not known, some bytes do
abbrev pub IsKeyAt : Option KeyFileOf → List ℕ → Type 0
IsKeyAt None key = IsSpelt key
IsKeyAt (Some file) key = IsAlone file.about × HasKey (Some file.bytes) key

-- nothing is known of a file, or of its bytes: the system that was asked for them refused
abbrev pub IsOfAsking : KeyFileFault → Type 0
IsOfAsking NotThere = Unit {0}
IsOfAsking Unreadable = Unit {0}
IsOfAsking NoMemory = Unit {0}
IsOfAsking _ = ⊥

-- why the file, where it is known, gives no key
abbrev pub RefusesAt : Option KeyFileOf → KeyFileFault → Type 0
RefusesAt None fault = Unit {0}
RefusesAt (Some file) fault =
    IsOfAsking fault ⊎ (RefusesFile file.about fault ⊎ RefusesBytes file.bytes fault)

-- ---- keys that are made

-- the source, where that is known, gave this key
abbrev pub IsDrawn : Option (List ℕ) → List ℕ → Type 0
IsDrawn None key = Unit {0}
IsDrawn (Some given) key = key ≡ given

-- a key's digits in lower case and a line feed were written
abbrev pub PrintsKey : List ℕ → Option (List ℕ) → Option (List ℕ) → Type 0
PrintsKey key old new = Appends old new (encode_lower key ++ 10 ∷ [])

-- those of some key of 32 bytes
abbrev pub PrintsSomeKey : Option (List ℕ) → Option (List ℕ) → Type 0
PrintsSomeKey old new = (key : List ℕ) × (length key ≡ 32) × PrintsKey key old new

-- and where the source tells what it gives, those of that key
abbrev pub PrintsDrawn : Option (List ℕ) → Option (List ℕ) → Option (List ℕ) → Type 0
PrintsDrawn None old new = PrintsSomeKey old new
PrintsDrawn (Some key) old new = PrintsKey key old new
