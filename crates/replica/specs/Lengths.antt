-- The lengths of logs that the desks of a hall reported to a desk (the project's own).
use Rattle.std.specs.Prelude.{ℕ, ◌+◌, ◌-◌, max, if◌then◌else◌, List, [], ◌∷◌, Result, Ok, Err}
use Rattle.std.specs.Prelude.{slice_index, slice_set}
use Rattle.acceptor.specs.declared.message.{Body.Body, Message.Message}
use Rattle.acceptor.specs.declared.message.Body.TheVariants.{Behind, Decided}
use Rattle.learner.specs.declared.event.DeskEvent.{DeskEvent, TheVariants.Deliver}
use Rattle.learner.specs.Steps.{is_heeded}
use Rattle.replica.specs.declared.roles.fault.NodeFault.{NodeFault}
use Rattle.store.specs.declared.home.Home.{Home}

-- how many entries the sender's log has at least, by what it says: a Behind says how many there
-- are, a Decided has the entry at a position, and the others tell nothing
abbrev pub length_told : Body → ℕ
length_told (Behind len) = len
length_told (Decided pos e) = pos + 1
length_told _ = 0

-- what was told of desk d, of which the list has the number at d - 1, is at least this
abbrev pub raised : ℕ → ℕ → List ℕ → List ℕ
raised d len told = slice_set told (d - 1) (max (slice_index told (d - 1)) len)

-- what was told after a message: desk d of n hears those that it heeds
abbrev pub heard : ℕ → ℕ → Message → List ℕ → List ℕ
heard n d m told = if is_heeded n d m then raised m.from (length_told m.body) told else told

-- what was told after an event
abbrev pub told_by : Home → DeskEvent → List ℕ → List ℕ
told_by home (Deliver m) told = heard home.desks home.desk m told
told_by home _ told = told

-- and after an event that was answered so: a refusal changes nothing
abbrev pub told_after : Home → DeskEvent → Result (List Message) NodeFault → List ℕ → List ℕ
told_after home event (Ok ms) told = told_by home event told
told_after home event (Err why) told = told

-- nobody told anything: there is a number for each of five desks, also in a hall of three
abbrev pub nothing_told : List ℕ
nothing_told = 0 ∷ 0 ∷ 0 ∷ 0 ∷ 0 ∷ []
