-- A desk that stops before it has settled what it changed: nothing of that has left it (the
-- project's own).
use Rattle.std.specs.Prelude.{ℕ, ◌≡◌, ◌≢◌, ◌⊎◌, false, List, [], ◌∷◌, ◌++◌}
use Rattle.acceptor.specs.declared.{entry.Entry.Entry, message.Message.Message}
use Rattle.acceptor.specs.declared.stored.Stored.{Stored}
use Rattle.learner.specs.Steps.{IsDesk}
use Rattle.replica.specs.{Nodes.NodeValue, Settles.Settles}
use Rattle.store.specs.declared.keeper.Keeper.{Ghosts}
use Rattle.hall_laws.specs.HallRuns.{AreSteps, CutAt, Hall, HallEvent, HallStep, IsHallRun}
use Rattle.hall_laws.specs.HallRuns.{IsOpened, OpenedAt, SettledAt, Station, TickedAt, TurnAt}
use Rattle.hall_laws.specs.HallRuns.{hall_after, home_at}

-- desk d works: it makes a turn or a Tick of its own, or settles what it has changed
abbrev pub IsWorkOf : ℕ → HallEvent → Type 0
IsWorkOf d (TurnAt e t acts) = e ≡ d
IsWorkOf d (TickedAt e one acts) = e ≡ d
IsWorkOf d (SettledAt e) = e ≡ d
IsWorkOf d (OpenedAt e) = ⊥
IsWorkOf d (CutAt e one acts) = ⊥

abbrev pub AreWorkOf : {K : Type 0} → ℕ → List (HallStep K) → Type 0
AreWorkOf d [] = Unit {0}
AreWorkOf d (s ∷ ss) = IsWorkOf d s.event × AreWorkOf d ss

-- an opening finds this state after the node stopped: between two of its calls, or in a settling,
-- which is as one that fails
abbrev pub IsFoundAt : {K : Type 0} → Ghosts K → NodeValue K → Stored → List Entry → Type 0
IsFoundAt {K} k x s log =
    k.finds x.keeper s log
    ⊎ ((z : NodeValue K) × (x.is_down ≡ false) × Settles k x false z × k.is_honest z.keeper
    × k.finds z.keeper s log)

-- Desk d, in which nothing waited, did this work, stopped, and was opened again. No other desk and
-- no client got what its calls handed out after it had settled last.
pub record Loses {K : Type 0} (k : Ghosts K) (n d : ℕ) (h : Hall K) (work : List (HallStep K))
    (y : Station K) : Type 0 where
  pub ours : IsDesk n d
  pub rests : k.is_settled (h.desks d).node.keeper
  pub steps : AreSteps k n h work
  pub own : AreWorkOf d work
  pub keeper : K
  pub home : k.home_of keeper ≡ home_at k (h.desks d)
  -- the premise on files
  pub honest : k.is_honest ((hall_after h work).desks d).node.keeper
  pub found : IsFoundAt k ((hall_after h work).desks d).node y.node.desk.stored y.node.desk.log
  pub opened : IsOpened k keeper y

-- desk d is this one, each other desk is as it was, and the messages that were sent are the same
pub record Lands {K : Type 0} (d : ℕ) (y : Station K) (h g : Hall K) : Type 0 where
  pub here : g.desks d ≡ y
  pub others : (j : ℕ) → j ≢ d → g.desks j ≡ h.desks j
  pub more : List Message
  pub sent : g.sent ≡ h.sent ++ more

-- desk d is opened again, after it stopped between two turns or in the middle of one
abbrev pub IsOpeningOf : ℕ → HallEvent → Type 0
IsOpeningOf d (OpenedAt e) = e ≡ d
IsOpeningOf d (CutAt e one acts) = e ≡ d
IsOpeningOf d _ = ⊥

-- The hall has taken the first steps of this work, and then desk d was opened again, as y. So the
-- store was to hold what was found after them, or in the middle of the next one (`OpensAgain`,
-- `IsCut`), and what came later is left out.
pub record GoesWithout {K : Type 0} (k : Ghosts K) (n d : ℕ) (h : Hall K)
    (work : List (HallStep K)) (y : Station K) : Type 0 where
  pub front : List (HallStep K)
  pub lost : List (HallStep K)
  pub parts : work ≡ front ++ lost
  pub opening : HallStep K
  pub opens : IsOpeningOf d opening.event
  pub steps : AreSteps k n h (front ++ opening ∷ [])
  pub lands : Lands d y h (hall_after h (front ++ opening ∷ []))

-- What a desk of a hall has lost in this way might as well never have come: the hall gets to the
-- same state without it.
abbrev pub LostWorkIsNothing : {K : Type 0} → Ghosts K → Type 0
LostWorkIsNothing {K} k =
    (n : ℕ) (first : Hall K) (before : List (HallStep K)) (d : ℕ) (work : List (HallStep K))
    (y : Station K) → IsHallRun k n first before → Loses k n d (hall_after first before) work y
    → GoesWithout k n d (hall_after first before) work y
