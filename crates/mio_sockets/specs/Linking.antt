-- How the link to another desk is a dialogue over its connection (the project's own).
use Rattle.std.specs.Prelude.{◌≡◌, ℕ, nat_le, take, Bool, true, false, List, [], ◌∷◌}
use Rattle.desk_talks.specs.Dialogues.{Act, Call, Hear, Lost, Opened, Sent}
use Rattle.desk_talks.specs.declared.dialogue.ConnectionPhase.{ConnectionPhase}
use Rattle.desk_talks.specs.declared.dialogue.DialogueAction.{DialogueAction}
use Rattle.links.specs.Links.{LinkState, has_some, pending, wish_of}
use Rattle.links.specs.Histories.{Step}
use Rattle.links.specs.declared.stages.{LinkAction.LinkAction, LinkStage.LinkStage}
use Rattle.mio_sockets.specs.{Waiting.quiet_in, Wiring.Goes}
use Rattle.desk_talks.specs.declared.dialogue.ConnectionPhase.TheVariants as phase
use Rattle.desk_talks.specs.declared.dialogue.DialogueAction.TheVariants as action
use Rattle.desk_talks.specs.declared.dialogue.ReceiveOutcome.TheVariants as came
use Rattle.links.specs.Histories as step
use Rattle.links.specs.declared.stages.LinkAction.TheVariants as wish
use Rattle.links.specs.declared.stages.LinkStage.TheVariants as stage

-- the number of the desk, the link to it, and when the link is kept
pub record SideOf : Type 0 where
  pub desk : ℕ
  pub link : LinkState
  pub now : ℕ

abbrev pub side : ℕ → LinkState → ℕ → SideOf
side desk link now = record { desk = desk; link = link; now = now }

abbrev pub phase_of : LinkStage → ConnectionPhase
phase_of (stage.Opening since) = phase.Opening
phase_of (stage.Open frames quiet) = phase.Open
phase_of _ = phase.Closed

-- a connection that takes nothing for three seconds failed
abbrev pub is_stuck : LinkState → ℕ → Bool
is_stuck s now = nat_le 3000 (quiet_in s.stage now)

-- What the link's wish comes to. Bytes that wait are written each time that the link is kept, so
-- they need no action of their own, but for a connection that is stuck. One that carried all that
-- it may carry is closed, and where more waits, the next one is begun in its place.
abbrev pub action_at : LinkAction → (stuck waits : Bool) → (desk : ℕ) → DialogueAction
action_at wish.Rest stuck waits desk = action.Rest
action_at wish.Open stuck waits desk = action.Open desk
action_at wish.Write true waits desk = action.Close
action_at wish.Write false waits desk = action.Rest
action_at wish.Close stuck true desk = action.Open desk
action_at wish.Close stuck false desk = action.Close
action_at wish.GiveUp stuck waits desk = action.Close

-- the calls of the link that come with it
abbrev pub steps_at : LinkAction → (stuck waits : Bool) → (now : ℕ) → List Step
steps_at wish.Rest stuck waits now = []
steps_at wish.Open stuck waits now = step.Began now ∷ []
steps_at wish.Write true waits now = step.Failed now ∷ []
steps_at wish.Write false waits now = []
steps_at wish.Close stuck true now = step.Closed ∷ step.Began now ∷ []
steps_at wish.Close stuck false now = step.Closed ∷ []
steps_at wish.GiveUp stuck waits now = step.Failed now ∷ []

abbrev pub sent_steps : (now : ℕ) → List ℕ → List Step
sent_steps now [] = []
sent_steps now (b ∷ bs) = step.Sent now (b ∷ bs) ∷ []

-- the calls of the link that a call of the dialogue comes to; what comes is dropped
abbrev pub steps_of : Call → SideOf → List Step
steps_of (Act w now) a =
    steps_at (wish_of a.link now) (is_stuck a.link now) (has_some a.link.waiting) now
steps_of (Opened opened) a = step.Opened a.now ∷ []
steps_of (Lost true) a = step.Ended a.now ∷ []
steps_of (Lost false) a = step.Failed a.now ∷ []
steps_of (Sent count) a = sent_steps a.now (take count (pending a.link))
steps_of (Hear c now piece) a = []

-- what it answers
abbrev pub Answers : Call → SideOf → Type 0
Answers (Act w now) a =
    w ≡ action_at (wish_of a.link now) (is_stuck a.link now) (has_some a.link.waiting) a.desk
Answers (Opened opened) a = opened ≡ true
Answers (Hear c now piece) a = c ≡ came.Nothing
Answers _ a = Unit {0}

-- the link is called at the time of the last question what is to be done, or at that at which it
-- began to be kept
abbrev pub time_after : Call → ℕ → ℕ
time_after (Act w now) before = now
time_after _ before = before

pub record SideLeads (call : Call) (a b : SideOf) : Type 0 where
  pub desk : b.desk ≡ a.desk
  pub time : b.now ≡ time_after call a.now
  pub answers : Answers call a
  pub goes : Goes a.link (steps_of call a) b.link
