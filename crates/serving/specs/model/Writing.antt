-- How writing a text fails.
use Rattle.std.specs.Prelude.{ℕ, List, [], Option}
use Rattle.std.specs.Io.KnownBytes.{Appends}
use Rattle.lines.specs.Bytes.{AppendsPart}
use Rattle.serving.specs.declared.ends.FrameFault.{FrameFault}
use Rattle.serving.specs.declared.ends.FrameFault.TheVariants as fault

-- a front part of it was written, or memory was refused and nothing was
abbrev pub WriteEnds : FrameFault → Option (List ℕ) → Option (List ℕ) → List ℕ → Type 0
WriteEnds fault.Write old new text = AppendsPart old new text
WriteEnds fault.NoMemory old new text = Appends old new []
