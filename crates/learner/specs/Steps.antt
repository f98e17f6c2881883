-- What one event changes at a desk, and what the desk sends. The message steps are those of 'Paxos
-- Made Simple', sections 2.2 and 2.3.
use Rattle.std.specs.Prelude.{ℕ, ◌≤◌, Bool, false, if◌then◌else◌, List, [], ◌∷◌, Some, None, Result}
use Rattle.std.specs.Prelude.{Ok, Err, ◌==◌, ◌&&◌, nat_lt, nat_le, length, slice_get}
use Rattle.acceptor.specs.{declared.ballot.Ballot.Ballot, Messages.message}
use Rattle.acceptor.specs.declared.message.{Message.Message, Body.Body}
use Rattle.acceptor.specs.declared.message.Body.TheVariants.{Prepare, Promise, Accept, Accepted}
use Rattle.acceptor.specs.declared.message.Body.TheVariants.{Nack, Behind, Decided}
use Rattle.acceptor.specs.Answers.{Reply, prepare_reply, accept_reply}
use Rattle.proposer.specs.{Plans.Passing, declared.plan.Plan.Plan, declared.fault.Refusal.Refusal}
use Rattle.proposer.specs.Proposing.{submit, start, tick, on_promise, on_accepted, on_nack}
use Rattle.learner.specs.{declared.event.DeskEvent.DeskEvent, Desks.Desk, Desks.adopt}
use Rattle.learner.specs.declared.event.DeskEvent.TheVariants.{Submit, Start, Tick, Deliver}
use Rattle.learner.specs.{Desks.passing, Learning.on_decided, Learning.on_behind}

-- the desks of a hall are numbered from 1 to n
abbrev pub IsDesk : ℕ → ℕ → Type 0
IsDesk n d = (1 ≤ d) × (d ≤ n)

abbrev pub is_desk : ℕ → ℕ → Bool
is_desk n d = nat_le 1 d && nat_le d n

-- a ballot that a desk of the hall can have made
abbrev pub is_real : ℕ → Ballot → Bool
is_real n b = nat_le 1 b.number && is_desk n b.desk

-- the fields are in their ranges
abbrev pub is_in_range : ℕ → Body → Bool
is_in_range n (Prepare b pos) = is_real n b && nat_lt pos 65536
is_in_range n (Promise b pos None) = is_real n b && nat_lt pos 65536
is_in_range n (Promise b pos (Some r)) = is_real n b && nat_lt pos 65536 && is_real n r.ballot
is_in_range n (Accept b pos e) = is_real n b && nat_lt pos 65536
is_in_range n (Accepted b pos) = is_real n b && nat_lt pos 65536
is_in_range n (Nack b pos promised) = is_real n b && nat_lt pos 65536 && is_real n promised
is_in_range n (Behind len) = nat_le len 65536
is_in_range n (Decided pos e) = nat_lt pos 65536

-- desk d heeds a message to itself, from a desk of the hall, with its fields in their ranges
abbrev pub is_heeded : ℕ → ℕ → Message → Bool
is_heeded n d m = (m.to == d) && is_desk n m.from && is_in_range n m.body

-- the acceptor's reply goes to the sender
abbrev pub answered : ℕ → Desk → ℕ → Reply → Plan
answered d x from r =
    record {
      role = None;
      seen = x.seen;
      drop_first = false;
      change = r.change;
      messages = message d from r.body ∷ [];
    }

-- what desk d plans at a message from this desk
abbrev pub on_body : ℕ → ℕ → Desk → ℕ → Body → Plan
on_body n d x from (Prepare b pos) =
    answered d x from (prepare_reply x.stored (length x.log) (slice_get x.log pos) b pos)
on_body n d x from (Promise b pos vote) = on_promise n d (passing x) from b pos vote
on_body n d x from (Accept b pos e) =
    answered d x from (accept_reply x.stored (length x.log) (slice_get x.log pos) b pos e)
on_body n d x from (Accepted b pos) = on_accepted n d (passing x) from b pos
on_body n d x from (Nack b pos promised) = on_nack (passing x) b promised
on_body n d x from (Behind len) = on_behind d x.log (passing x) from len
on_body n d x from (Decided pos e) = on_decided d x.log (passing x) from pos e

-- the desk after a step, and what it sends
pub record Done : Type 0 where
  pub desk : Desk
  pub messages : List Message

abbrev pub done : Desk → Plan → Done
done x p = record { desk = adopt x p; messages = p.messages }

abbrev pub planned : Desk → Result Plan Refusal → Result Done Refusal
planned x (Ok p) = Ok (done x p)
planned x (Err why) = Err why

-- nothing is done
abbrev pub idle : Desk → Done
idle x = record { desk = x; messages = [] }

-- only what passes at a restart is changed
abbrev pub passed : Desk → Result Passing Refusal → Result Done Refusal
passed x (Ok p) =
    Ok (record {
      desk = record x { role = p.role; queue = p.queue; seen = p.seen };
      messages = [];
    })
passed x (Err why) = Err why

-- a step of desk d of n
abbrev pub step : ℕ → ℕ → Desk → DeskEvent → Result Done Refusal
step n d x (Submit e) = passed x (submit (length x.log) (passing x) e)
step n d x Start = planned x (start n d x.stored (length x.log) (passing x))
step n d x Tick = planned x (tick n d x.stored (length x.log) (passing x))
step n d x (Deliver m) =
    if is_heeded n d m then Ok (done x (on_body n d x m.from m.body)) else Ok (idle x)
