-- That desks which serve decide what is queued: by Ticks of one desk, and by frames among a
-- majority of them, as serving does these (the project's own).
use Rattle.std.specs.Prelude.{ℕ, ◌≡◌, ◌≤◌, ◌<◌, ◌⊎◌, false, List, [], ◌∷◌, ◌++◌, Option, Some, None}
use Rattle.std.specs.Prelude.{length, map}
use Rattle.acceptor.specs.declared.{entry.Entry.Entry, message.Message.Message}
use Rattle.learner.specs.{Chosen.Has, Chosen.IsMajority, Worlds.nth_sent}
use Rattle.progress.specs.{Progress.IsAmong, Progress.StandFrom, Progress.enough, Turns.HasTurnRoom}
use Rattle.serving.specs.{Asking.request, Serving.framed}
use Rattle.serving.specs.declared.request.Request.{Request, TheVariants.Ticked}
use Rattle.store.specs.declared.keeper.Keeper.{Ghosts}
use Rattle.wire.specs.{Ranges.IsFrame, declared.frame.Frame.Frame}
use Rattle.hall_laws.specs.HallGoing.{acts_for, comes_over, ticked, IsServedTo}
use Rattle.hall_laws.specs.{HallProgress.world_of, HallRuns.hall_after}
use Rattle.hall_laws.specs.HallRuns.{Station, Hall, home_at, HallEvent, HallStep, IsHallRun}

-- ---- what a majority does by itself

-- desk d makes a Tick of its own; or a message comes over a connection of this number: this one of
-- all that the hall's desks have handed out, counted from 1
pub data OwnTurn : Type 0 where
  DeskTicks : OwnTurn
  MessageComes : ℕ → ℕ → OwnTurn

-- a message as its sender pushes it, at its receiver
abbrev pub frame_of : {K : Type 0} → Ghosts K → Hall K → Message → Frame
frame_of k h m = framed (h.desks m.from).wire (home_at k (h.desks m.to)).hall m

-- what a frame asks of a desk
abbrev pub asked_of : {K : Type 0} → Ghosts K → Station K → Frame → Request
asked_of k x f = request (home_at k x) f

abbrev pub events_of_message : {K : Type 0} → Ghosts K → Hall K → ℕ → Option Message
    → List HallEvent
events_of_message k h number None = []
events_of_message k h number (Some m) =
    let x = h.desks m.to in
    comes_over m.to number (frame_of k h m) (acts_for k x (asked_of k x (frame_of k h m)))

-- The events that make up the turn: with a Tick or a message comes all that the desk does for it,
-- including a Start. A message of a desk to itself comes in a turn too, over a connection.
abbrev pub events_of_turn : {K : Type 0} → Ghosts K → ℕ → Hall K → OwnTurn → List HallEvent
events_of_turn k d h DeskTicks = ticked k d (h.desks d) ∷ []
events_of_turn k d h (MessageComes number at) = events_of_message k h number (nth_sent h.sent at)

-- a message is from one of these desks to one of them, and was handed out after the first `start`
-- messages
abbrev pub IsOwn : {K : Type 0} → List ℕ → ℕ → Hall K → OwnTurn → Type 0
IsOwn desks start h DeskTicks = Unit {0}
IsOwn desks start h (MessageComes number at) = (start < at) × IsAmong desks (nth_sent h.sent at)

-- the steps that follow are such turns, one after the other, and nothing else
abbrev pub AreOwnTurns : {K : Type 0} → Ghosts K → ℕ → List ℕ → ℕ → Hall K
    → List (HallStep K) → List OwnTurn → List (HallStep K) → Type 0
AreOwnTurns k d desks start h steps [] more = more ≡ []
AreOwnTurns {K} k d desks start h steps (t ∷ ts) more =
    (now later : List (HallStep K)) × (more ≡ now ++ later)
    × (map (λ (s : HallStep K). s.event) now ≡ events_of_turn k d (hall_after h steps) t)
    × IsOwn desks start (hall_after h steps) t
    × AreOwnTurns k d desks start h (steps ++ now) ts later

-- ---- the premises

-- such a turn asks this of desk j: a Tick, where j is d; or what the frame of a message asks that
-- is from one of these desks to desk j, and was handed out after the first `start` messages
abbrev pub IsOwnRequest : {K : Type 0} → Ghosts K → ℕ → List ℕ → ℕ → Hall K → ℕ → Request → Type 0
IsOwnRequest k d desks start h j r =
    ((j ≡ d) × (r ≡ Ticked))
    ⊎ ((at : ℕ) × (m : Message) × (start < at) × (nth_sent h.sent at ≡ Some m)
    × Has desks m.from × (m.to ≡ j) × (r ≡ asked_of k (h.desks j) (frame_of k h m)))

-- as long as only such turns are taken from now on, memory and stores of these desks do what the
-- next such turn asks of them
abbrev pub ServeOwnTurns : {K : Type 0} → Ghosts K → ℕ → ℕ → List ℕ → Hall K → List (HallStep K)
    → Type 0
ServeOwnTurns {K} k n d desks h steps =
    (turns : List OwnTurn) (more : List (HallStep K)) (j : ℕ) (r : Request)
    → AreOwnTurns k d desks (length (hall_after h steps).sent) h steps turns more
    → IsHallRun k n h (steps ++ more) → Has desks j
    → ((hall_after h (steps ++ more)).desks j).node.is_down ≡ false
    → IsOwnRequest k d desks (length (hall_after h steps).sent) (hall_after h (steps ++ more)) j r
    → (y : Station K) × IsServedTo k r ((hall_after h (steps ++ more)).desks j) y

-- These desks are up. And as long as only such turns are taken from now on, their memory and their
-- stores do what they are asked, and what they hand out to each other is in the ranges of its
-- frame.
pub record CanServe {K : Type 0} (k : Ghosts K) (n d : ℕ) (desks : List ℕ) (h : Hall K)
    (steps : List (HallStep K)) : Type 0 where
  pub up : (j : ℕ) → Has desks j → ((hall_after h steps).desks j).node.is_down ≡ false
  pub works : ServeOwnTurns k n d desks h steps
  pub frames : (turns : List OwnTurn) (more : List (HallStep K)) (at : ℕ) (m : Message)
      → AreOwnTurns k d desks (length (hall_after h steps).sent) h steps turns more
      → IsHallRun k n h (steps ++ more) → length (hall_after h steps).sent < at
      → nth_sent (hall_after h (steps ++ more)).sent at ≡ Some m → Has desks m.from → Has desks m.to
      → IsFrame (frame_of k (hall_after h (steps ++ more)) m)

-- ---- the law

-- the run continues with such turns alone, and no more of them than that, until these entries are
-- in desk d's log, past what is there now and in their order, and these are left in its queue
pub record HallDecides {K : Type 0} (k : Ghosts K) (n d : ℕ) (desks : List ℕ) (h : Hall K)
    (steps : List (HallStep K)) (es rest : List Entry) : Type 0 where
  pub turns : List OwnTurn
  pub few : length turns ≤ enough (world_of (hall_after h steps)) desks (length es)
  pub more : List (HallStep K)
  pub run : IsHallRun k n h (steps ++ more)
  pub own : AreOwnTurns k d desks (length (hall_after h steps).sent) h steps turns more
  pub decided : StandFrom (length ((hall_after h steps).desks d).node.desk.log) es
      ((hall_after h (steps ++ more)).desks d).node.desk.log
  pub queue : ((hall_after h (steps ++ more)).desks d).node.desk.queue ≡ rest

-- After every run of a hall, a majority of its desks decides by itself the first entries that a
-- desk of it has queued, as many as there is room for.
abbrev pub ServingDecides : {K : Type 0} → Ghosts K → Type 0
ServingDecides {K} k =
    (n : ℕ) (h : Hall K) (steps : List (HallStep K)) (d : ℕ) (desks : List ℕ) (es rest : List Entry)
    → IsHallRun k n h steps → IsMajority n desks → Has desks d
    → ((hall_after h steps).desks d).node.desk.queue ≡ es ++ rest
    → HasTurnRoom d desks (world_of (hall_after h steps)) (length es) → CanServe k n d desks h steps
    → HallDecides k n d desks h steps es rest
