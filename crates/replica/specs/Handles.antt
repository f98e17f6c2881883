-- What a call of `Node::handle` answers, and what it leaves (the project's own).
use Rattle.std.specs.Prelude.{ℕ, ◌≡◌, ◌↔◌, ◌<◌, ⊤, true, false, if◌then◌else◌, List, [], Result, Ok}
use Rattle.std.specs.Prelude.{Err, IsOk, IfOk, OnErr, IsErrOf}
use Rattle.std.specs.List.{All}
use Rattle.acceptor.specs.Entries.{IsId, IsText}
use Rattle.acceptor.specs.declared.{entry.Entry.Entry, message.Message.Message}
use Rattle.proposer.specs.declared.{fault.Refusal.Refusal, plan.Plan.Plan}
use Rattle.proposer.specs.Plans.{only_say, IsNothing}
use Rattle.learner.specs.declared.event.DeskEvent.{DeskEvent, TheVariants.Deliver}
use Rattle.learner.specs.{Contents.BodyHolds, Desks.Desk, Desks.passing, Ranges.AreInRange}
use Rattle.learner.specs.Steps.{Done, is_heeded, on_body, step}
use Rattle.store.specs.declared.{home.Home.Home, keeper.Keeper.Ghosts}
use Rattle.replica.specs.declared.roles.fault.NodeFault.{NodeFault, TheVariants.Down}
use Rattle.replica.specs.{roles.Faults.refused_as, Lengths.told_after, Nodes.NodeValue}
use Rattle.replica.specs.Stores.{FindsOldOrHeld, HoldsDesk, HoldsStep}

-- What is answered to an event, where desk d of n is x before it and y after it, and this is the
-- protocol's step for the event: the step's messages, each from the desk and in range, or the
-- step's refusal; and whatever the refusal, the desk is as it was.
pub record Takes (step : Result Done Refusal) (n d : ℕ) (x y : Desk)
    (result : Result (List Message) NodeFault) : Type 0 where
  pub ok : IfOk result (λ messages. step ≡ Ok (record { desk = y; messages = messages }))
  pub range : IfOk result (λ messages. AreInRange n d messages)
  pub refused : (why : Refusal) → IsErrOf result (refused_as why) ↔ (step ≡ Err why)
  pub err : OnErr result (y ≡ x)

-- what desk d of n plans at a message
abbrev pub plan_at : ℕ → ℕ → Desk → Message → Plan
plan_at n d x m =
    if is_heeded n d m then on_body n d x m.from m.body else only_say (passing x) []

-- the event is a message at which the desk neither changes nor sends anything
abbrev pub IsIgnored : ℕ → ℕ → Desk → DeskEvent → Type 0
IsIgnored n d x (Deliver m) = IsNothing (plan_at n d x m)
IsIgnored n d x _ = ⊥

-- the id is 1 to 2^63 - 1, and the text has at most 600 bytes
abbrev pub IsInFrame : Entry → Type 0
IsInFrame e = IsId e.id × IsText e.text

-- each entry of the messages fits in a frame
abbrev pub FitInFrames : List Message → Type 0
FitInFrames messages = All (λ m. BodyHolds IsInFrame (λ b. ⊤) m.body) messages

-- the protocol's step for the event, of the desk of this home
abbrev pub step_at : Home → Desk → DeskEvent → Result Done Refusal
step_at home x event = step home.desks home.desk x event

-- What `handle` answers to an event, and what the node is then.
pub record Handles {K : Type 0} (k : Ghosts K) (old : NodeValue K) (event : DeskEvent)
    (result : Result (List Message) NodeFault) (new : NodeValue K) : Type 0 where
  -- once the desk is Down each answer is Down, and nothing changes
  pub ended : old.is_down ≡ true → (result ≡ Err Down) × (new ≡ old)
  -- else the answer is that of the protocol's step
  pub takes : let home = k.home_of old.keeper in
      old.is_down ≡ false
      → Takes (step_at home old.desk event) home.desks home.desk old.desk new.desk result
  pub entries : IfOk result FitInFrames
  -- it has heard what the message tells of its sender's log, where it was taken
  pub told : new.told ≡ told_after (k.home_of old.keeper) event result old.told
  -- a message that the protocol ignores is taken, and the store is not asked
  pub ignored : let home = k.home_of old.keeper in
      old.is_down ≡ false → IsIgnored home.desks home.desk old.desk event
      → IsOk result × (new.keeper ≡ old.keeper)
  -- the desk is Down from the call on whose answer is the first Down
  pub down : (result ≡ Err Down) ↔ (new.is_down ≡ true)
  -- that call has counted a failure of its keeper, and no other call counts one
  pub counted : old.is_down ≡ false → result ≡ Err Down
      → k.failures_of old.keeper < k.failures_of new.keeper
  pub uncounted : ¬ (result ≡ Err Down) → k.failures_of new.keeper ≡ k.failures_of old.keeper
  -- at every other answer a store that is settled and opened again holds the desk's state alone
  pub stored : new.is_down ≡ false → HoldsDesk k new.keeper new.desk
  -- and at the first Down it holds the state before the step or the one after it
  pub left : old.is_down ≡ false → new.is_down ≡ true
      → HoldsStep k new.keeper old.desk (step_at (k.home_of old.keeper) old.desk event)
  -- until it is settled an opening finds what it found before, where its change waits
  pub finds : FindsOldOrHeld k old.keeper new.keeper
  pub honest : k.is_honest new.keeper → k.is_honest old.keeper
  pub home : k.home_of new.keeper ≡ k.home_of old.keeper
