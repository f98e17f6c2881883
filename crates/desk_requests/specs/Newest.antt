-- What is printed of the newest sheet of a round (the project's own).
use Rattle.std.specs.Prelude.{◌⊎◌, ℕ, List, Option}
use Rattle.std.specs.Io.KnownBytes.{Appends}
use Rattle.batch.specs.{Dialing.Told, Logs.AddsSo, Newest.FailsNewest, Newest.GivesNewest}
use Rattle.batch.specs.declared.{newest_asked.RoundSheet.RoundSheet, asking.Receiver.Receiver}
use Rattle.client.specs.Printing.{reply_text}
use Rattle.wire.specs.{Ranges.IsDesk, declared.frame.FrameBody.FrameBody}
use Rattle.desk_requests.specs.Logs.{FailsToAsk, FailsToWrite, RefusesDesk}
use Rattle.desk_requests.specs.declared.fault.DeskFault.{DeskFault}

-- the desk was asked for its length and for the sheet at that length, and its answer was written
abbrev pub PrintsNewest : Receiver → RoundSheet → Told → Option (List ℕ) → Option (List ℕ) → Type 0
PrintsNewest r s t old new =
    IsDesk r.desk × (answer : FrameBody) × AddsSo t (GivesNewest r s answer)
    × Appends old new (reply_text answer)

-- the desk's number is invalid, a request failed, or writing the sheet that came did
abbrev pub FailsToPrint : DeskFault → Receiver → RoundSheet → Told → Option (List ℕ)
    → Option (List ℕ) → Type 0
FailsToPrint f r s t old new =
    RefusesDesk f r t old new ⊎ (FailsToAsk f r (λ b. FailsNewest b r s) t old new
    ⊎ FailsToWrite f r (GivesNewest r s) reply_text t old new)
