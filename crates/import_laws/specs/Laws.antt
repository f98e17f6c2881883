-- What a competition's file is imported to (the project's own).
use Rattle.std.specs.Prelude.{◌≡◌, List, ℕ}
use Rattle.texts.specs.declared.command.Command.{Command}
use Rattle.wcif.specs.declared.file.FileFault.{FileFault, TheVariants.NoMemory}
use Rattle.wcif.specs.{declared.options.Options.Options, Files.SetsUp, Files.FileFails}
use Rattle.import_laws.specs.{Competitions.Competition, Held.IsHeld, SetUp.set_up, Spelled.spelled}

-- what `import_file` promises of these bytes leads to these commands and no others, and to no
-- fault but want of memory
pub record IsImportedTo (options : Options) (bytes : List ℕ) (made : List Command) : Type 0 where
  pub sets_up : SetsUp options bytes made
  pub only : (others : List Command) → SetsUp options bytes others → others ≡ made
  pub faultless : (fault : FileFault) → FileFails options bytes fault → fault ≡ NoMemory

abbrev pub GoodFilesAreImported : Type 0
GoodFilesAreImported =
    (options : Options) (c : Competition) → IsHeld c
    → IsImportedTo options (spelled c) (set_up options.edition c)
