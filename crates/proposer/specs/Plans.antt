-- What a desk loses at a restart, and what a step plans to change and to send (the project's own).
use Rattle.std.specs.Prelude.{ℕ, max, Bool, false, if◌then◌else◌, ◌≡◌, List, [], ◌∷◌, Option, Some}
use Rattle.std.specs.Prelude.{None}
use Rattle.acceptor.specs.declared.{entry.Entry.Entry, message.Message.Message}
use Rattle.acceptor.specs.{Entries.is_same_entry, declared.stored.Change.TheVariants.Appended}
use Rattle.proposer.specs.declared.{plan.Plan.Plan, role.Role.Role, role.Role.TheVariants.Idle}

-- what a desk loses at a restart
pub record Passing : Type 0 where
  pub role : Role
  pub queue : List Entry
  pub seen : ℕ

-- what a desk has of these when it starts
abbrev pub first_passing : Passing
first_passing = record { role = Idle; queue = []; seen = 0 }

-- a plan with no role keeps the role
abbrev pub role_after : Role → Option Role → Role
role_after role None = role
role_after role (Some new) = new

-- the queue, without its first where that is dropped
abbrev pub queue_after : List Entry → Bool → List Entry
queue_after [] drop = []
queue_after (e ∷ es) drop = if drop then es else e ∷ es

-- the passing part once the plan is taken
abbrev pub passing_after : Passing → Plan → Passing
passing_after p plan =
    record {
      role = role_after p.role plan.role;
      queue = queue_after p.queue plan.drop_first;
      seen = plan.seen;
    }

-- nothing changes, and this is sent
abbrev pub only_say : Passing → List Message → Plan
only_say p messages =
    record { role = None; seen = p.seen; drop_first = false; change = None; messages = messages }

-- the role changes, and this is sent
abbrev pub become : Passing → Role → List Message → Plan
become p role messages =
    record {
      role = Some role;
      seen = p.seen;
      drop_first = false;
      change = None;
      messages = messages;
    }

-- the desk gives its ballot up, and keeps in mind the number that was shown
abbrev pub give_way : Passing → ℕ → Plan
give_way p number =
    record {
      role = Some Idle;
      seen = max p.seen number;
      drop_first = false;
      change = None;
      messages = [];
    }

-- the first of the queue is equal to the entry
abbrev pub begins_with : List Entry → Entry → Bool
begins_with [] e = false
begins_with (first ∷ rest) e = is_same_entry first e

-- the log grows by the entry, which leaves the queue where it is first there; the role becomes this
-- one, and this is sent
abbrev pub append : Passing → Entry → Role → List Message → Plan
append p e role messages =
    record {
      role = Some role;
      seen = p.seen;
      drop_first = begins_with p.queue e;
      change = Some (Appended e);
      messages = messages;
    }

-- the plan neither changes nor sends anything
abbrev pub IsNothing : Plan → Type 0
IsNothing p = (p.role ≡ None) × (p.change ≡ None) × (p.messages ≡ [])
