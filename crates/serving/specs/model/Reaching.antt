-- How the code's steps are those of serving.
use Rattle.std.specs.Prelude.{◌≡◌, ℕ, List, [], ◌∷◌, ◌++◌}
use Rattle.acceptor.specs.declared.message.Message.{Message}
use Rattle.learner.specs.declared.event.DeskEvent.{DeskEvent}
use Rattle.store.specs.declared.home.Home.{Home}
use Rattle.answers.specs.Seen.{Seen}
use Rattle.serving.specs.{Nodes.Fate, Nodes.reply, Making.Way, Making.Outside, Making.Makes}
use Rattle.serving.specs.{declared.calls.NodeAnswer.NodeAnswer, Answering.answer_of}
use Rattle.serving.specs.Serving.{Act, Called, Service, seen_after, call, push_all, take}

-- the node, and the messages that wait
pub record Place : Type 0 where
  pub seen : Seen
  pub waiting : List Message

abbrev pub at : Seen → List Message → Place
at x ms = record { seen = x; waiting = ms }

abbrev pub service : Place → List Act → List Fate → Service
service p done fates =
    record { seen = p.seen; waiting = p.waiting; done = done; fates = fates }

-- What `all` is to do at the first place comes, after these acts and these fates, to what `rest` is
-- to do at the second.
pub record Reaches (home : Home) (all : Service → Service) (first : Place)
    (rest : Service → Service) (second : Place) (acts : List Act) (past : List Fate) : Type 0 where
  pub steps : (done : List Act) (later : List Fate)
      → all (service first done (past ++ later)) ≡ rest (service second (done ++ acts) later)
  pub calls : (more : List Act) (later : List Fate)
      → seen_after home first.seen (acts ++ more) (past ++ later)
      ≡ seen_after home second.seen more later

-- the call that comes to this fate
abbrev pub did_call : Home → DeskEvent → Fate → Seen → Act
did_call home event fate x = Called event (reply home x event fate).result

-- acts are only added
abbrev pub OnlyAdds : (Service → Service) → Type 0
OnlyAdds f = (s : Service) → (more : List Act) × ((f s).done ≡ s.done ++ more)

-- all of it was done: its calls were made and its messages pushed
pub record Did {V : Type 0} {way : Way V} (home : Home) (all : Service → Service)
    (first second : Place) (acts : List Act)
    (past : List Fate) (old new : Outside way) : Type 0 where
  pub reaches : Reaches home all first (λ s. s) second acts past
  pub made : Makes home.hall old new acts

abbrev pub Does : {V : Type 0} → {way : Way V} → Home → (Service → Service) → Place → Place
    → Outside way → Outside way → Type 0
Does home all first second old new =
    (acts : List Act) × (past : List Fate) × Did home all first second acts past old new

-- a front part of it was done, of which this is what was seen of the node last
pub record DidPart {V : Type 0} {way : Way V} (home : Home) (all : Service → Service)
    (first : Place) (shown : Seen)
    (acts : List Act) (past : List Fate) (rest : Service → Service) (second : Place)
    (old new : Outside way) : Type 0 where
  pub reaches : Reaches home all first rest second acts past
  pub adds : OnlyAdds rest
  pub last : second.seen ≡ shown
  pub made : Makes home.hall old new acts

abbrev pub DoesPart : {V : Type 0} → {way : Way V} → Home → (Service → Service) → Place → Seen
    → Outside way → Outside way → Type 0
DoesPart home all first last old new =
    (acts : List Act) × (past : List Fate) × (rest : Service → Service) × (second : Place)
    × DidPart home all first last acts past rest second old new

-- an event was taken and its messages pushed, and the node's answer is that of the first fate
pub record DoesCall {V : Type 0} {way : Way V} (home : Home) (event : DeskEvent)
    (answer : NodeAnswer) (x y : Seen)
    (acts : List Act) (past : List Fate) (old new : Outside way) : Type 0 where
  pub did : Did home (λ s. push_all (call home event s)) (at x []) (at y []) acts past old new
  pub fate : Fate
  pub others : List Fate
  pub first : past ≡ fate ∷ others
  pub answer_is : answer ≡ answer_of (reply home x event fate).result

-- the same, with Start where the log grew
pub record DoesTake {V : Type 0} {way : Way V} (home : Home) (event : DeskEvent)
    (answer : NodeAnswer) (x y : Seen)
    (acts : List Act) (past : List Fate) (old new : Outside way) : Type 0 where
  pub did : Did home (take home event) (at x []) (at y []) acts past old new
  pub fate : Fate
  pub others : List Fate
  pub first : past ≡ fate ∷ others
  pub answer_is : answer ≡ answer_of (reply home x event fate).result
