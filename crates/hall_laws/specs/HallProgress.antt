-- That desks which serve never come into a state in which a majority of them could not decide (the
-- project's own).
use Rattle.std.specs.Prelude.{◌≡◌, ℕ, List, ◌++◌, length, take}
use Rattle.acceptor.specs.declared.{entry.Entry.Entry, message.Message.Message}
use Rattle.learner.specs.{Chosen.Has, Chosen.IsMajority, Worlds.World, Worlds.after}
use Rattle.learner.specs.{Steps.IsDesk, declared.event.WorldEvent.WorldEvent}
use Rattle.progress.specs.Progress.{CanDecide, HasRoom}
use Rattle.store.specs.declared.keeper.Keeper.{Ghosts}
use Rattle.hall_laws.specs.HallRuns.{Hall, HallStep, IsHallRun, hall_after}
use Rattle.hall_laws.specs.Stops.{IsAmong}

-- what the desks of a hall know, as a world
abbrev pub world_of : {K : Type 0} → Hall K → World
world_of h = record { desks = λ d. (h.desks d).node.desk; sent = h.sent }

-- after these events of the world each desk knows what the hall's desk knows, and all that the
-- hall's desks have sent was sent
pub record ComesTo {K : Type 0} (n : ℕ) (past : List WorldEvent) (h : Hall K) : Type 0 where
  pub desks : (d : ℕ) → IsDesk n d → (h.desks d).node.desk ≡ (after n past).desks d
  pub sent : (m : Message) → IsAmong m h.sent → IsAmong m (after n past).sent

-- At every moment of every run of a hall, every majority of its desks can decide the first entries
-- that a desk of it has queued, as many as there is room for: in the world to whose state its desks
-- have come, by Ticks of that desk and messages that are sent from then on among that majority.
abbrev pub HallsAreNotStuck : {K : Type 0} → Ghosts K → Type 0
HallsAreNotStuck {K} k =
    (n : ℕ) (h : Hall K) (steps : List (HallStep K)) (i d : ℕ) (desks : List ℕ)
    (es rest : List Entry) → IsHallRun k n h steps → IsMajority n desks → Has desks d
    → ((world_of (hall_after h (take i steps))).desks d).queue ≡ es ++ rest
    → HasRoom d desks (world_of (hall_after h (take i steps))) (length es)
    → (past : List WorldEvent) × ComesTo n past (hall_after h (take i steps))
    × CanDecide n d desks (after n past) es rest
