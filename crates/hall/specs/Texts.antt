-- What is printed of a hall: a line for each message, for each refusal, and for each entry of a log
-- (the project's own).
use Rattle.std.specs.Prelude.{ℕ, ◌+◌, List, [], ◌++◌, drop, flat_map, codes, decimal, Option, None}
use Rattle.std.specs.{Prelude.Some, List.enumerate_from}
use Rattle.acceptor.specs.declared.{ballot.Ballot.Ballot, entry.Entry.Entry}
use Rattle.acceptor.specs.declared.message.{Report.Report, Body.Body, Message.Message}
use Rattle.acceptor.specs.declared.message.Body.TheVariants.{Prepare, Promise, Accept, Accepted}
use Rattle.acceptor.specs.declared.message.Body.TheVariants.{Nack, Behind, Decided}
use Rattle.replica.specs.declared.roles.fault.NodeFault.{NodeFault, TheVariants.BallotsSpent}
use Rattle.replica.specs.declared.roles.fault.NodeFault.TheVariants.{Busy, LogFull, NoMemory, Down}

-- a number as a field: a space and the number in decimal
abbrev pub number_field : ℕ → List ℕ
number_field n = codes " " ++ decimal n

-- `number.desk`
abbrev pub ballot_field : Ballot → List ℕ
ballot_field b = codes " " ++ decimal b.number ++ codes "." ++ decimal b.desk

-- a vote: its ballot and the id of its entry; `-` where there is none
abbrev pub vote_field : Option Report → List ℕ
vote_field None = codes " -"
vote_field (Some r) = ballot_field r.ballot ++ number_field r.entry.id

-- the kind of a message and its fields; an entry is named by its id
abbrev pub body_text : Body → List ℕ
body_text (Prepare b pos) = codes "Prepare" ++ ballot_field b ++ number_field pos
body_text (Promise b pos vote) =
    codes "Promise" ++ ballot_field b ++ number_field pos ++ vote_field vote
body_text (Accept b pos e) =
    codes "Accept" ++ ballot_field b ++ number_field pos ++ number_field e.id
body_text (Accepted b pos) = codes "Accepted" ++ ballot_field b ++ number_field pos
body_text (Nack b pos promised) =
    codes "Nack" ++ ballot_field b ++ number_field pos ++ ballot_field promised
body_text (Behind len) = codes "Behind" ++ number_field len
body_text (Decided pos e) = codes "Decided" ++ number_field pos ++ number_field e.id

-- the k-th message: `m<k> <from> <to>`, its kind and its fields
abbrev pub message_text : ℕ → Message → List ℕ
message_text k m =
    codes "m" ++ decimal k ++ number_field m.from ++ number_field m.to ++ codes " "
    ++ body_text m.body ++ codes "\n"

-- the messages after the first `told`; all are numbered from 1 in the order in which they were
-- sent
abbrev pub messages_text : ℕ → List Message → List ℕ
messages_text told sent =
    flat_map (λ m. message_text m.0 m.1) (enumerate_from (told + 1) (drop told sent))

abbrev pub fault_name : NodeFault → List ℕ
fault_name Busy = codes "Busy"
fault_name LogFull = codes "LogFull"
fault_name BallotsSpent = codes "BallotsSpent"
fault_name NoMemory = codes "NoMemory"
fault_name Down = codes "Down"

-- the event of line n was refused, or was not
abbrev pub refusal_text : ℕ → Option NodeFault → List ℕ
refusal_text n None = []
refusal_text n (Some why) =
    codes "refused" ++ number_field n ++ codes " " ++ fault_name why ++ codes "\n"

-- an entry of the log of desk d: `desk <d> <pos> <id> <text>`
abbrev pub entry_text : ℕ → ℕ → Entry → List ℕ
entry_text d pos e =
    codes "desk" ++ number_field d ++ number_field pos ++ number_field e.id ++ codes " "
    ++ e.text ++ codes "\n"

-- the log of desk d; positions are counted from 0
abbrev pub log_text : ℕ → List Entry → List ℕ
log_text d entries = flat_map (λ e. entry_text d e.0 e.1) (enumerate_from 0 entries)
