-- What is printed of a log as JSON, and what its faults leave (the project's own).
use Rattle.std.specs.Prelude.{◌≡◌, ℕ, List, [], ◌∷◌, ◌++◌, Option}
use Rattle.std.specs.Io.KnownBytes.{Appends, Keeps}
use Rattle.commands.specs.History.{History}
use Rattle.lines.specs.Bytes.{AppendsPart}
use Rattle.wcif_results.specs.{results_json.Meets.meet_json, Files.IsTextOf}
use Rattle.texts.specs.declared.command.Command.{Command}
use Rattle.exports.specs.{Logs.LogFails, Logs.ReadsMeet, declared.fault.ResultsFault.ResultsFault}
use Rattle.exports.specs.declared.fault.ResultsFault.TheVariants as fault

-- the JSON of the results of a meet, and a line feed
abbrev pub IsJsonLine : List Command → (line : List ℕ) → Type 0
IsJsonLine cs line = (text : List ℕ) × IsTextOf text (meet_json cs) × (line ≡ text ++ 10 ∷ [])

-- of the meet that the reader has
abbrev pub MakesJson : (log : Option (List ℕ)) → (line : List ℕ) → Type 0
MakesJson log line =
    (meet : History) × ReadsMeet log meet × IsJsonLine meet.accepted line

-- it was written
abbrev pub PrintsResults : (log old new : Option (List ℕ)) → Type 0
PrintsResults log old new = (line : List ℕ) × MakesJson log line × Appends old new line

-- what each fault says, and leaves: nothing is written but where a write fails
abbrev pub FailsResults : ResultsFault → (log old new : Option (List ℕ)) → Type 0
FailsResults (fault.Log f) log old new = LogFails log f × Keeps old new
FailsResults fault.Write log old new =
    (line : List ℕ) × MakesJson log line × AppendsPart old new line
FailsResults fault.NoMemory log old new = Keeps old new
