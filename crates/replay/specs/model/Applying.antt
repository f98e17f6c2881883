-- The lines of a replay as they are applied, before there is a sheet.
use Rattle.std.specs.Prelude.{◌≡◌, ℕ, true, false, List, ◌++◌, length, Option}
use Rattle.std.specs.Io.KnownBytes.{Appends, IsAtEnd}
use Rattle.commands.specs.History.{History, history}
use Rattle.lines.specs.Lines.{whole_lines, lines_of, is_within, lines_read}
use Rattle.lines.specs.Bytes.{HasLeft, AppendsPart, Sides}
use Rattle.lines.specs.declared.fault.RunFault.{RunFault}
use Rattle.lines.specs.declared.fault.RunFault.TheVariants as fault
use Rattle.replay.specs.Replay.{entries, refusals}

-- all lines were read and applied, and the refused ones are written
pub record Applies (meet : History) (count : ℕ) (input : List ℕ)
    (left old new : Option (List ℕ)) : Type 0 where
  pub end : IsAtEnd left
  pub within : is_within input ≡ true
  pub meet_is : meet ≡ history (entries (lines_of input))
  pub count_is : count ≡ length (lines_of input)
  pub written : Appends old new (refusals (lines_of input))

-- a read failed within a line
pub record BreaksOff (input : List ℕ) (left old new : Option (List ℕ)) : Type 0 where
  pub front : List ℕ
  pub rest : List ℕ
  pub parts : input ≡ front ++ rest
  pub remains : HasLeft left rest
  pub within : is_within front ≡ true
  pub written : Appends old new (refusals (whole_lines front))

-- why not all lines were applied
abbrev pub StopsAmong : RunFault → (input : List ℕ) (left old new : Option (List ℕ)) → Type 0
StopsAmong fault.InputTooLong input left old new =
    (is_within input ≡ false) × Appends old new (refusals (lines_read input))
StopsAmong fault.Read input left old new = BreaksOff input left old new
StopsAmong fault.Write input left old new = AppendsPart old new (refusals (lines_read input))
StopsAmong fault.NoMemory input left old new = AppendsPart old new (refusals (lines_read input))
StopsAmong fault.BadCount input left old new = ⊥
StopsAmong (fault.BadLine n) input left old new = ⊥

-- between these two sides, all lines of the input that the reader had were applied
abbrev pub AppliesAll : History → Sides → ℕ → Type 0
AppliesAll meet s count =
    (input : List ℕ) × HasLeft s.had input × Applies meet count input s.left s.old s.new

-- between these two sides, not all of them were, by this fault
abbrev pub AppliesPart : Sides → RunFault → Type 0
AppliesPart s fault =
    (input : List ℕ) × HasLeft s.had input × StopsAmong fault input s.left s.old s.new
