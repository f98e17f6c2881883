-- A run of three desks that decides an entry, and a mirror that is answered it (the project's own).
use Rattle.std.specs.Prelude.{ℕ, List, [], ◌∷◌, Some}
use Rattle.mirror.specs.declared.mirror.MirrorGrowth.TheVariants.{Grew}
use Rattle.progress.specs.Tangle.{entry}
use Rattle.wire.specs.declared.{frame.Frame.Frame, values.Version.TheVariants.Three}
use Rattle.hall_laws.specs.{Copying.AreCollected, Copying.Given, Memory.Memory, Memory.memory}
use Rattle.hall_laws.specs.HallRuns.{HallStep, IsHallRun}
use Rattle.hall_laws.specs.{Tangle.first_hall, mirrors.HallMirrors.MirrorsHall}
use Rattle.wire.specs.declared.frame.FrameBody.TheVariants as what

-- a client asks desk 3 for its log
abbrev pub log_frame : Frame
log_frame = record { version = Three; hall = 7; from = 0; to = 3; what = what.Log 0 }

-- the answer of desk 3 after this many steps
abbrev pub given : ℕ → Given
given at =
    record { at = at; desk = 3; copy = record { position = 0; length = 1; entries = entry 7 ∷ [] } }

pub record CopiesOneEntry : Type 0 where
  pub steps : List (HallStep Memory)
  pub run : IsHallRun memory 3 first_hall steps
  pub at : ℕ
  pub collects : AreCollected memory 3 first_hall steps [] (given at ∷ [])
  pub mirrors : MirrorsHall memory 3 first_hall steps []
      (record { given = given at; outcome = Some Grew } ∷ []) (entry 7 ∷ [])
