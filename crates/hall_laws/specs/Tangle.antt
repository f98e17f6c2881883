-- A run of three desks that meets all premises of the law that a majority decides: one of them
-- stops inside a save and is opened again, one has a higher ballot, one has an old vote, and most
-- of what they said never came (the project's own). Their keepers never fail.
use Rattle.std.specs.Prelude.{◌≡◌, ℕ, List, [], ◌∷◌, None, Some, slice_get, take}
use Rattle.acceptor.specs.Storing.{first_stored}
use Rattle.learner.specs.Chosen.{Has, IsMajority}
use Rattle.learner.specs.{Desks.Desk, Worlds.after, declared.event.WorldEvent.WorldEvent}
use Rattle.progress.specs.{Progress.CanDecide, Progress.HasRoom, Turns.HasTurnRoom}
use Rattle.progress.specs.Tangle.{ballot, entry, these, outbid_desk}
use Rattle.proposer.specs.declared.role.Role.TheVariants.{Gathering}
use Rattle.serving.specs.Serving.{Act}
use Rattle.wire.specs.declared.{frame.Frame.Frame, values.Version.TheVariants.Two}
use Rattle.hall_laws.specs.{HallExample.third_home, HallExample.three_desks, HallGoing.as_it_goes}
use Rattle.hall_laws.specs.{HallGoing.own_tick, HallRuns.StopsInSave, Memory.Memory, Memory.memory}
use Rattle.hall_laws.specs.HallRuns.{hall_after, CutAt, Hall, HallStep, IsHallRun, IsOpened}
use Rattle.hall_laws.specs.HallProgress.{ComesTo, world_of}
use Rattle.hall_laws.specs.HallServing.{CanServe, HallDecides}
use Rattle.wire.specs.declared.frame.FrameBody.TheVariants as what

-- three desks over keepers that never fail, before anything
abbrev pub first_hall : Hall Memory
first_hall = three_desks (λ d. record { home = third_home d; stored = first_stored; log = [] })

-- a client submits the entry of this id at a desk
abbrev pub submit : ℕ → ℕ → Frame
submit d id =
    record { version = Two; hall = 7; from = 0; to = d; what = what.Submit (entry id) }

-- ---- what the desks know at last

-- It gathers promises for a ballot that is lower than the rival's, and has none.
abbrev pub restarted_desk : Desk
restarted_desk = record {
  stored = record { promised = ballot 0 0; vote = None; tried = 2 };
  log = [];
  role = Gathering (ballot 2 1) 0 [];
  queue = entry 9 ∷ [];
  seen = 0;
}

abbrev pub rival_desk : Desk
rival_desk = record {
  stored = record { promised = ballot 1 3; vote = None; tried = 2 };
  log = [];
  role = Gathering (ballot 2 2) 0 [];
  queue = entry 8 ∷ [];
  seen = 0;
}

-- ---- the run

-- In one of the steps desk 1 makes a Tick of its own, stops in its first save, and is opened again
-- over what that left.
pub record StopsOnce (steps : List (HallStep Memory)) : Type 0 where
  pub at : ℕ
  pub step : HallStep Memory
  pub here : slice_get steps at ≡ Some step
  pub event : step.event ≡ CutAt 1 (as_it_goes (own_tick Two (third_home 1))) []
  pub keeper : Memory
  pub rest : List Act
  pub saving : StopsInSave memory ((hall_after first_hall (take at steps)).desks 1).node keeper rest
  pub opened : IsOpened memory keeper (step.after.desks 1)

-- So the laws of halls say something of this run: a majority without the rival decides what desk 1
-- has queued, in the protocol's steps and by turns.
pub record TangleIsDecided : Type 0 where
  pub steps : List (HallStep Memory)
  pub run : IsHallRun memory 3 first_hall steps
  pub stops : StopsOnce steps
  pub restarted : ((hall_after first_hall steps).desks 1).node.desk ≡ restarted_desk
  pub rival : ((hall_after first_hall steps).desks 2).node.desk ≡ rival_desk
  pub outbid : ((hall_after first_hall steps).desks 3).node.desk ≡ outbid_desk
  pub majority : IsMajority 3 these
  pub has : Has these 1
  pub room : HasRoom 1 these (world_of (hall_after first_hall steps)) 1
  pub past : List WorldEvent
  pub comes : ComesTo 3 past (hall_after first_hall steps)
  pub can : CanDecide 3 1 these (after 3 past) (entry 9 ∷ []) []
  pub turn_room : HasTurnRoom 1 these (world_of (hall_after first_hall steps)) 1
  pub serves : CanServe memory 3 1 these first_hall steps
  pub decides : HallDecides memory 3 1 these first_hall steps (entry 9 ∷ []) []
