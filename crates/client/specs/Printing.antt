-- What a client prints of an answer, and of a fault (the project's own).
use Rattle.std.specs.Prelude.{ℕ, List, [], ◌++◌, codes, decimal}
use Rattle.texts.specs.{Codes.code_name, declared.answer.Answer.Answer}
use Rattle.client.specs.declared.fault.ClientFault.{ClientFault}
use Rattle.wire.specs.declared.values.{ClientRefusal.ClientRefusal, CommandState.CommandState}
use Rattle.wire.specs.declared.frame.FrameBody.{FrameBody}
use Rattle.wire.specs.declared.values.CommandState.TheVariants.{Unknown, Pending, Done}
use Rattle.texts.specs.declared.answer.Answer.TheVariants as answer
use Rattle.client.specs.declared.fault.ClientFault.TheVariants as fault
use Rattle.wire.specs.declared.values.ClientRefusal.TheVariants as refusal
use Rattle.wire.specs.declared.frame.FrameBody.TheVariants as what

abbrev pub answer_name : Answer → List ℕ
answer_name answer.Done = codes "Done"
answer_name (answer.Refused code) = code_name code

-- what became of the command with this id
abbrev pub state_text : ℕ → CommandState → List ℕ
state_text id Unknown = codes "unknown " ++ decimal id ++ codes "\n"
state_text id Pending = codes "pending " ++ decimal id ++ codes "\n"
state_text id (Done pos answer) =
    codes "done " ++ decimal id ++ codes " " ++ decimal pos ++ codes " " ++ answer_name answer
    ++ codes "\n"

-- a line for Taken, Told and Fine, the sheet itself for its text, and nothing for other kinds
abbrev pub reply_text : FrameBody → List ℕ
reply_text (what.Taken id) = codes "taken " ++ decimal id ++ codes "\n"
reply_text (what.Told id state) = state_text id state
reply_text (what.SheetText text) = text
reply_text what.Fine = codes "ok\n"
reply_text _ = []

abbrev pub refusal_name : ClientRefusal → List ℕ
refusal_name refusal.Busy = codes "Busy"
refusal_name refusal.LogFull = codes "LogFull"
refusal_name refusal.BallotsSpent = codes "BallotsSpent"
refusal_name refusal.NoMemory = codes "NoMemory"
refusal_name refusal.Down = codes "Down"
refusal_name refusal.NotThere = codes "NotThere"
refusal_name refusal.NoSuchRound = codes "NoSuchRound"
refusal_name refusal.Foreign = codes "Foreign"
refusal_name refusal.NotAllowed = codes "NotAllowed"
refusal_name refusal.HallDiffers = codes "HallDiffers"

-- the line of a fault, without its line feed
abbrev pub fault_text : ClientFault → List ℕ
fault_text (fault.Refused refusal) = codes "refused " ++ refusal_name refusal
fault_text fault.NoAnswer = codes "no answer"
fault_text fault.Write = codes "cannot write"
fault_text fault.NoMemory = codes "no memory"
