-- Calls of a node and pushes to desks as they are made (the project's own).
use Rattle.std.specs.Prelude.{◌≡◌, ℕ, ◌==◌, Bool, if◌then◌else◌, List, [], ◌∷◌, Option, Result}
use Rattle.acceptor.specs.declared.message.Message.{Message}
use Rattle.learner.specs.declared.event.DeskEvent.{DeskEvent}
use Rattle.replica.specs.declared.roles.fault.NodeFault.{NodeFault}
use Rattle.wire.specs.declared.values.Version.{Version}
use Rattle.wire.specs.declared.values.Version.TheVariants.{One, Two, Three, Four, Five}
use Rattle.serving.specs.Adding.{Push, Hands}
use Rattle.serving.specs.Serving.{Act, Called, Pushed, Answered, pushes_of}

-- what is said of a call of a node of a kind: the node before it, the event, the answer, and the
-- node after it
abbrev pub Handling : Type 0 → Type 1
Handling V = V → DeskEvent → Result (List Message) NodeFault → V → Type 0

-- what is said of a settling of such a node: the node before it, whether all is committed, and the
-- node after it
abbrev pub Settling : Type 0 → Type 1
Settling V = V → Bool → V → Type 0

-- how a node of a kind is served: what is said of its calls and its settlings, and the version in
-- which frames are pushed
pub record Way (V : Type 0) : Type 1 where
  pub handles : Handling V
  pub settles : Settling V
  pub wire : Version

abbrev pub speaking : {V : Type 0} → Handling V → Settling V → Version → Way V
speaking handles settles wire = record { handles = handles; settles = settles; wire = wire }

-- the version that has this number, 1 to 5
abbrev pub spoken : ℕ → Version
spoken n =
    if n == 5 then Five
    else if n == 4 then Four
    else if n == 3 then Three
    else if n == 2 then Two
    else One

-- a call of a node
pub record Call : Type 0 where
  pub event : DeskEvent
  pub answer : Result (List Message) NodeFault

-- the calls among what was done, in order
abbrev pub calls_of : List Act → List Call
calls_of [] = []
calls_of (Called e r ∷ acts) = record { event = e; answer = r } ∷ calls_of acts
calls_of (Pushed m ∷ acts) = calls_of acts
calls_of (Answered run ∷ acts) = calls_of acts

-- these calls, one after the other, lead from the first node to the last
abbrev pub Lead : {V : Type 0} → Handling V → V → List Call → V → Type 0
Lead {V} way x [] y = x ≡ y
Lead {V} way x (c ∷ cs) y = (z : V) × way x c.event c.answer z × Lead way z cs y

-- what is there beside what is seen: the node itself, and what the desks were handed
pub record Outside {V : Type 0} (way : Way V) : Type 0 where
  pub node : V
  pub handed : Option (List Push)

abbrev pub outside_of : {V : Type 0} → (way : Way V) → V → Option (List Push) → Outside way
outside_of way node handed = record { node = node; handed = handed }

-- these calls were made and these messages pushed, in order: each call is one of the node's, and
-- they lead from the one node to the other
pub record Makes {V : Type 0} {way : Way V} (hall : ℕ) (old new : Outside way)
    (acts : List Act) : Type 0 where
  pub calls : Lead way.handles old.node (calls_of acts) new.node
  pub pushes : Hands old.handed new.handed (pushes_of way.wire hall acts)
