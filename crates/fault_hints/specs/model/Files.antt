-- What the parts of looking again at a file may meet.
use Rattle.fault_hints.specs.{declared.findings.FileFinding.FileFinding, Looking.IsOfSystem}
use Rattle.fault_hints.specs.declared.findings.FileFinding.TheVariants as file

-- why no file is at a path
abbrev pub IsOfPath : FileFinding → Type 0
IsOfPath file.NotThere = Unit {0}
IsOfPath what = IsOfSystem what

-- why there is no room beside a file
abbrev pub IsOfRoom : FileFinding → Type 0
IsOfRoom file.FolderClosed = Unit {0}
IsOfRoom file.NotAllowed = ⊥
IsOfRoom what = IsOfSystem what

-- what is met of a file that is there, once it is opened again
abbrev pub IsOfOpening : FileFinding → Type 0
IsOfOpening file.OpensNow = Unit {0}
IsOfOpening file.HeldOpen = Unit {0}
IsOfOpening file.HasJournal = Unit {0}
IsOfOpening file.FolderClosed = Unit {0}
IsOfOpening file.NoFolder = ⊥
IsOfOpening what = IsOfSystem what
