-- How the frames at hand, and a piece of the stream, are served.
use Rattle.std.specs.Prelude.{◌≡◌, ◌⊎◌, ◌≤◌, ◌<◌, ℕ, ◌+◌, List, [], ◌++◌, length, Option, None}
use Rattle.std.specs.Prelude.{Some}
use Rattle.wire.specs.declared.frame.Frame.{Frame}
use Rattle.wire.specs.Stream.{Waits, Breaks, front, IsOfStream, Reader, holding}
use Rattle.store.specs.declared.home.Home.{Home}
use Rattle.serving.specs.{declared.permission.Permission.Permission, Connection.Fails, Making.Way}
use Rattle.serving.specs.declared.ends.ConnectionEnd.{ConnectionEnd}
use Rattle.serving.specs.Connection.{Begun, frames_of, AreBegun, AreUnder, Sides, Serves, Closes}
use Rattle.serving.specs.declared.ends.FrameEnd.TheVariants as close
use Rattle.serving.specs.declared.ends.ConnectionEnd.TheVariants as end
use Rattle.serving.specs.declared.ends.FrameFault.TheVariants as fault

-- how frames end the connection of themselves, and how many were begun by then
abbrev pub EndsInFrames : {V : Type 0} → {way : Way V} → ConnectionEnd → Home → Sides way
    → Sides way → List Begun → ℕ → Type 0
EndsInFrames end.Stopped home a b begun count = Closes close.Stopped home a b begun
EndsInFrames end.Down home a b begun count = Closes close.Down home a b begun
EndsInFrames end.Frames home a b begun count = Serves home a b begun × (count ≡ 64)
EndsInFrames end.Write home a b begun count = Fails fault.Write home a b begun
EndsInFrames end.NoMemory home a b begun count = Fails fault.NoMemory home a b begun
EndsInFrames _ home a b begun count = ⊥

-- how the frames at hand were served: all of them, fewer than 64 with those before, or some of them
abbrev pub EndsBatch : {V : Type 0} → {way : Way V} → Option ConnectionEnd → Home → Sides way
    → Sides way → List Begun → List Frame → ℕ → Type 0
EndsBatch None home a b begun left count = Serves home a b begun × (left ≡ []) × (count < 64)
EndsBatch (Some e) home a b begun left count = EndsInFrames e home a b begun count

pub record IsBatch {V : Type 0} {way : Way V} (may : Permission) (how : Option ConnectionEnd)
    (home : Home) (a b : Sides way) (given : List Frame)
    (begun : List Begun) (left : List Frame) (before count : ℕ) : Type 0 where
  pub parts : given ≡ frames_of begun ++ left
  pub allowed : AreUnder may begun
  pub counted : count ≡ before + length begun
  pub few : count ≤ 64
  pub ends : EndsBatch how home a b begun left count

-- ---- pieces of the stream

-- how a piece of the stream was served, with what is left of it
abbrev pub EndsPiece : {V : Type 0} → {way : Way V} → Option ConnectionEnd → Home → Sides way
    → Sides way → List Begun → List ℕ → ℕ → Reader → Type 0
EndsPiece None home a b begun rest count new =
    Serves home a b begun × (count < 64) × (new ≡ holding rest) × (front rest ≡ Waits)
EndsPiece (Some (end.Fault e)) home a b begun rest count new =
    Serves home a b begun × (count < 64) × (front rest ≡ Breaks e) × IsOfStream e
EndsPiece (Some end.NoMemory) home a b begun rest count new =
    (Serves home a b begun × (count < 64)) ⊎ Fails fault.NoMemory home a b begun
EndsPiece (Some end.Stopped) home a b begun rest count new =
    EndsInFrames end.Stopped home a b begun count
EndsPiece (Some end.Down) home a b begun rest count new = EndsInFrames end.Down home a b begun count
EndsPiece (Some end.Frames) home a b begun rest count new =
    EndsInFrames end.Frames home a b begun count
EndsPiece (Some end.Write) home a b begun rest count new =
    EndsInFrames end.Write home a b begun count
EndsPiece _ home a b begun rest count new = ⊥

pub record IsPiece {V : Type 0} {way : Way V} (may : Permission) (how : Option ConnectionEnd)
    (home : Home) (a b : Sides way) (stream : List ℕ)
    (begun : List Begun) (rest : List ℕ) (before count : ℕ) (new : Reader) : Type 0 where
  pub begins : AreBegun stream begun rest
  pub allowed : AreUnder may begun
  pub counted : count ≡ before + length begun
  pub few : count ≤ 64
  pub ends : EndsPiece how home a b begun rest count new
