-- The lines of a log as they are applied.
use Rattle.std.specs.Prelude.{ℕ, List, Option}
use Rattle.commands.specs.History.{History}
use Rattle.lines.specs.Bytes.{HasLeft}
use Rattle.exports.specs.{Logs.IsMeetOf, Logs.IsNoMeet, declared.logs.LogFault.LogFault}

-- all lines of what the reader had were applied
abbrev pub AppliesAll : History → Option (List ℕ) → Type 0
AppliesAll meet had = (bytes : List ℕ) × HasLeft had bytes × IsMeetOf bytes meet

-- not all of them were
abbrev pub AppliesNotAll : Option (List ℕ) → LogFault → Type 0
AppliesNotAll had fault = (bytes : List ℕ) × HasLeft had bytes × IsNoMeet bytes fault
