-- All that a desk knows, and how a plan changes it. A desk is proposer, acceptor and learner in
-- one, and may stop and restart ('Paxos Made Simple', sections 2.1 and 2.5).
use Rattle.std.specs.Prelude.{ℕ, List, []}
use Rattle.acceptor.specs.declared.{entry.Entry.Entry, stored.Stored.Stored}
use Rattle.acceptor.specs.Storing.{first_stored, stored_after, log_after}
use Rattle.proposer.specs.declared.{role.Role.Role, role.Role.TheVariants.Idle, plan.Plan.Plan}
use Rattle.proposer.specs.Plans.{Passing, role_after, queue_after}

-- what it stores, with its log, and what it has as long as it runs
pub record Desk : Type 0 where
  pub stored : Stored
  pub log : List Entry
  pub role : Role
  pub queue : List Entry
  pub seen : ℕ

abbrev pub passing : Desk → Passing
passing x = record { role = x.role; queue = x.queue; seen = x.seen }

abbrev pub first_desk : Desk
first_desk = record { stored = first_stored; log = []; role = Idle; queue = []; seen = 0 }

-- a restart loses what is not stored
abbrev pub restarted : Desk → Desk
restarted x = record { stored = x.stored; log = x.log; role = Idle; queue = []; seen = 0 }

-- the desk after the plan
abbrev pub adopt : Desk → Plan → Desk
adopt x p =
    record {
      stored = stored_after x.stored p.change;
      log = log_after x.log p.change;
      role = role_after x.role p.role;
      queue = queue_after x.queue p.drop_first;
      seen = p.seen;
    }
