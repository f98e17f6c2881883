-- A small run of a hall, in full: so there are such runs, and in them a message of one desk comes
-- to another (the project's own).
use Rattle.std.specs.Prelude.{◌≡◌, ℕ, false, List, [], ◌∷◌, map, None, Ok}
use Rattle.acceptor.specs.declared.message.{Body.TheVariants.Behind, Message.Message}
use Rattle.learner.specs.{Desks.first_desk, Steps.IsDesk}
use Rattle.learner.specs.declared.event.DeskEvent.TheVariants.{Tick, Deliver}
use Rattle.replica.specs.{Lengths.nothing_told, Stores.HoldsDesk}
use Rattle.serving.specs.{declared.permission.Permission.TheVariants.All, Turns.new_talk}
use Rattle.serving.specs.Serving.{Act, Called, Pushed, framed}
use Rattle.serving.specs.TurnLaw.{Turn, Came, Began}
use Rattle.connections.specs.Connections.{TurnOf}
use Rattle.store.specs.declared.{home.Home.Home, keeper.Keeper.Ghosts}
use Rattle.wire.specs.Spelling.{spelling}
use Rattle.wire.specs.declared.{frame.Frame.Frame, values.Version.TheVariants.Two}
use Rattle.hall_laws.specs.HallRuns.{Hall, HallEvent, HallStep, IsHallRun, TurnAt, TickedAt}
use Rattle.wire.specs.declared.frame.FrameBody.TheVariants as what

-- desk d of three, in hall 7
abbrev pub third_home : ℕ → Home
third_home d = record { hall = 7; desk = d; desks = 3 }

-- three desks, each opened with its keeper over an empty store, before their first turn
abbrev pub three_desks : {K : Type 0} → (ℕ → K) → Hall K
three_desks keeper = record {
  desks = λ d.
      record {
        node =
            record {
              keeper = keeper d;
              desk = first_desk;
              is_down = false;
              told = nothing_told;
            };
        talks = λ j. new_talk (third_home d) Two;
        wire = Two;
        handed = None;
      };
  sent = [];
}

-- the keepers of three desks, over empty stores
abbrev pub KeepThree : {K : Type 0} → Ghosts K → (ℕ → K) → Type 0
KeepThree k keeper =
    (d : ℕ) → IsDesk 3 d → (k.home_of (keeper d) ≡ third_home d) × HoldsDesk k (keeper d) first_desk

-- a client asks desk 1 for a Tick
abbrev pub tick_frame : Frame
tick_frame = record { version = Two; hall = 7; from = 0; to = 1; what = what.Tick }

-- desk 1 then says to the others how long its log is
abbrev pub says : ℕ → Message
says d = record { from = 1; to = d; body = Behind 0 }

abbrev pub said_frame : Frame
said_frame = framed Two 7 (says 2)

abbrev pub first_of : Turn → TurnOf
first_of turn = record { number = 0; turn = turn }

abbrev pub begun_as : Frame → Turn
begun_as f = Began (record { frame = f; may = All; differs = None; fates = [] })

-- what desk 1 does at a Tick
abbrev pub tick_acts : List Act
tick_acts = Called Tick (Ok (says 2 ∷ says 3 ∷ [])) ∷ Pushed (says 2) ∷ Pushed (says 3) ∷ []

-- The client's bytes come to desk 1, which begins the frame, and says to desks 2 and 3 how long its
-- log is. What it says to desk 2 comes there, and desk 2 is given it, and has nothing to answer.
-- Then desk 1 ticks itself, and says so again.
abbrev pub small_run : List HallEvent
small_run =
    TurnAt 1 (first_of (Came (spelling tick_frame))) []
    ∷ TurnAt 1 (first_of (begun_as tick_frame)) tick_acts
    ∷ TurnAt 2 (first_of (Came (spelling said_frame))) []
    ∷ TurnAt 2 (first_of (begun_as said_frame)) (Called (Deliver (says 2)) (Ok []) ∷ [])
    ∷ TickedAt 1 (record { frame = tick_frame; may = All; differs = None; fates = [] }) tick_acts
    ∷ []

-- these events are a run of three desks, whatever keeps their state
abbrev pub SmallRunIsARun : {K : Type 0} → Ghosts K → Type 0
SmallRunIsARun {K} k =
    (keeper : ℕ → K) → KeepThree k keeper → (steps : List (HallStep K))
    × (map (λ (s : HallStep K). s.event) steps ≡ small_run)
    × IsHallRun k 3 (three_desks keeper) steps
