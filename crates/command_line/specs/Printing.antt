-- What is printed of what a parser says (in the words of the crate `clap`).
use Rattle.std.specs.Prelude.{ℕ, List, Option}
use Rattle.std.specs.Io.KnownBytes.{Appends, Keeps}
use Rattle.lines.specs.Bytes.{AppendsPart}
use Rattle.command_line.specs.declared.printing.PrintFault.{PrintFault}
use Rattle.command_line.specs.declared.printing.PrintFault.TheVariants as fault

-- a text was written whole; it is empty where the parser writes to the fault stream
abbrev pub Prints : (old new : Option (List ℕ)) → Type 0
Prints old new = (text : List ℕ) × Appends old new text

-- a front part of a text was written, or nothing
abbrev pub FailsToPrint : PrintFault → (old new : Option (List ℕ)) → Type 0
FailsToPrint fault.Write old new = (text : List ℕ) × AppendsPart old new text
FailsToPrint fault.NoMemory old new = Keeps old new
