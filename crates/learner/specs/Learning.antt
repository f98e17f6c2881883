-- How a desk learns what was decided, and catches up ('Paxos Made Simple', section 2.3). Own rule:
-- a desk takes only the entry for its next position, and asks for what it lacks.
use Rattle.std.specs.Prelude.{ℕ, suc, ◌+◌, if◌then◌else◌, List, [], ◌∷◌, ◌==◌, nat_lt, length, take}
use Rattle.std.specs.Prelude.{drop}
use Rattle.acceptor.specs.declared.{entry.Entry.Entry, message.Message.Message, message.Body.Body}
use Rattle.acceptor.specs.declared.message.Body.TheVariants.{Behind, Decided}
use Rattle.acceptor.specs.Messages.{message}
use Rattle.proposer.specs.{declared.plan.Plan.Plan, declared.role.Role.TheVariants.Idle, Sides.Side}
use Rattle.proposer.specs.Plans.{Passing, only_say, append}

-- an entry for the next position is taken; one for a later position is answered by the log's length
abbrev pub on_decided : ℕ → List Entry → Passing → ℕ → ℕ → Entry → Plan
on_decided d log p from pos e =
    if pos == length log
    then append p e Idle (message d from (Behind (length log + 1)) ∷ [])
    else (if nat_lt (length log) pos
    then only_say p (message d from (Behind (length log)) ∷ [])
    else only_say p [])

-- the entries from the position on, each told by a message of its own
abbrev pub told : ℕ → ℕ → ℕ → List Entry → List Message
told d from pos [] = []
told d from pos (e ∷ es) = message d from (Decided pos e) ∷ told d from (suc pos) es

-- the most entries that are told at once
abbrev pub longest_run : ℕ
longest_run = 16

-- a desk that lacks entries is sent the next of them, this many at most, in order of position; one
-- that has more is sent the log's length
abbrev pub on_behind : ℕ → List Entry → Passing → ℕ → ℕ → Plan
on_behind d log p from len =
    if nat_lt (length log) len
    then only_say p (message d from (Behind (length log)) ∷ [])
    else only_say p (told d from len (take longest_run (drop len log)))

-- a body that is no Decided is none of this step's
abbrev pub decided_body_plan : ℕ → List Entry → Passing → ℕ → Body → Plan
decided_body_plan d log p from (Decided pos e) = on_decided d log p from pos e
decided_body_plan d log p from _ = only_say p []

abbrev pub decided_plan : List Entry → Side → Message → Plan
decided_plan log side m = decided_body_plan side.desk log side.passing m.from m.body

-- a body that is no Behind is none of this step's
abbrev pub behind_body_plan : ℕ → List Entry → Passing → ℕ → Body → Plan
behind_body_plan d log p from (Behind len) = on_behind d log p from len
behind_body_plan d log p from _ = only_say p []

abbrev pub behind_plan : List Entry → Side → Message → Plan
behind_plan log side m = behind_body_plan side.desk log side.passing m.from m.body
