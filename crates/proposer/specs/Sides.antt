-- The proposing side of a desk, and what it plans at each event (the project's own).
use Rattle.std.specs.Prelude.{ℕ, [], Result}
use Rattle.acceptor.specs.declared.message.{Body.Body, Message.Message}
use Rattle.acceptor.specs.declared.message.Body.TheVariants.{Promise, Accepted, Nack}
use Rattle.acceptor.specs.declared.stored.Stored.{Stored}
use Rattle.proposer.specs.declared.{fault.Refusal.Refusal, plan.Plan.Plan}
use Rattle.proposer.specs.Plans.{Passing, only_say}
use Rattle.proposer.specs.Proposing.{start, tick, on_promise, on_accepted, on_nack}

-- this desk of this many, and what it loses at a restart
pub record Side : Type 0 where
  pub desk : ℕ
  pub desks : ℕ
  pub passing : Passing

-- with this in store and a log of this length
abbrev pub start_plan : Side → Stored → ℕ → Result Plan Refusal
start_plan side stored len = start side.desks side.desk stored len side.passing

abbrev pub tick_plan : Side → Stored → ℕ → Result Plan Refusal
tick_plan side stored len = tick side.desks side.desk stored len side.passing

-- at the Promise of a message; a body of another kind plans nothing here
abbrev pub promise_body_plan : ℕ → ℕ → Passing → ℕ → Body → Plan
promise_body_plan n d p from (Promise b pos vote) = on_promise n d p from b pos vote
promise_body_plan n d p from _ = only_say p []

abbrev pub promise_plan : Side → Message → Plan
promise_plan side m = promise_body_plan side.desks side.desk side.passing m.from m.body

-- at the Accepted of a message
abbrev pub accepted_body_plan : ℕ → ℕ → Passing → ℕ → Body → Plan
accepted_body_plan n d p from (Accepted b pos) = on_accepted n d p from b pos
accepted_body_plan n d p from _ = only_say p []

abbrev pub accepted_plan : Side → Message → Plan
accepted_plan side m = accepted_body_plan side.desks side.desk side.passing m.from m.body

-- at the Nack of a message
abbrev pub nack_body_plan : Passing → Body → Plan
nack_body_plan p (Nack b pos promised) = on_nack p b promised
nack_body_plan p _ = only_say p []

abbrev pub nack_plan : Side → Message → Plan
nack_plan side m = nack_body_plan side.passing m.body
