-- What opening a node gives, and what a refusal leaves of its keeper (the project's own).
use Rattle.std.specs.Prelude.{◌≡◌, ◌≢◌, ◌<◌, false, IsTrue}
use Rattle.store.specs.declared.{fault.LoadFault.LoadFault, keeper.Keeper.Ghosts}
use Rattle.store.specs.declared.fault.LoadFault.TheVariants.{Device, NoMemory}
use Rattle.replica.specs.{roles.Opening.opened, Lengths.nothing_told, Nodes.NodeValue}
use Rattle.replica.specs.Stores.{HasKept, HoldsDesk, HoldsNoOther, KeepsStill}

-- the node that is opened over a keeper
pub record Opens {K : Type 0} (k : Ghosts K) (keeper : K) (node : NodeValue K) : Type 0 where
  pub up : node.is_down ≡ false
  -- it is idle, and nothing waits
  pub first : node.desk ≡ opened node.desk.stored node.desk.log
  -- what the desks told it is not stored
  pub told : node.told ≡ nothing_told
  -- it has what the store held, and that is what the keeper kept
  pub loaded : k.is_honest node.keeper → k.may_hold keeper node.desk.stored node.desk.log
  pub same : HasKept k keeper node.keeper node.desk
  -- and its store holds that alone
  pub stored : HoldsDesk k node.keeper node.desk
  -- and nothing waits
  pub settled : k.is_settled node.keeper
  pub honest : k.is_honest node.keeper → k.is_honest keeper
  pub home : k.home_of node.keeper ≡ k.home_of keeper

-- the keeper that a refusal gives back
pub record GivesBack {K : Type 0} (k : Ghosts K) (keeper : K) (fault : LoadFault)
    (back : K) : Type 0 where
  pub honest : k.is_honest back → k.is_honest keeper
  pub home : k.home_of back ≡ k.home_of keeper
  -- its store holds nothing that it could not hold before, and is lost only where it could be
  -- before
  pub no_other : HoldsNoOther k keeper back
  pub whole : k.is_honest back → k.may_break back → k.may_break keeper
  -- want of memory leaves what it kept
  pub memory : fault ≡ NoMemory → KeepsStill k keeper back
  -- a failure is counted where the device refused, and nowhere else
  pub counted : fault ≡ Device → k.failures_of keeper < k.failures_of back
  pub uncounted : fault ≢ Device → k.failures_of back ≡ k.failures_of keeper
  pub down : fault ≢ Device → IsTrue (k.is_down back) → IsTrue (k.is_down keeper)
