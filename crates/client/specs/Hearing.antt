-- What a client hears first (the project's own).
use Rattle.std.specs.Prelude.{◌≡◌, ◌⊎◌, ℕ, List, ◌++◌, MatchOption, Option}
use Rattle.std.specs.Io.KnownBytes.{Consumes}
use Rattle.wire.specs.declared.{fault.WireFault.WireFault, frame.Frame.Frame}
use Rattle.wire.specs.{Ranges.IsFrame, Spelling.spelling}
use Rattle.wire.specs.Stream.{Waits, Breaks, Reader, front, holding, IsBegun, IsOfStream}
use Rattle.client.specs.declared.fault.ClientFault.{ClientFault}
use Rattle.client.specs.declared.fault.ClientFault.TheVariants as fault

-- this frame is first in the bytes
pub record StandsFirst (f : Frame) (bytes : List ℕ) : Type 0 where
  pub rest : List ℕ
  pub spelled : IsFrame f
  pub first : bytes ≡ spelling f ++ rest

-- no frame is first in the bytes: they are fewer than a frame's, or break its format
abbrev pub LacksFrame : List ℕ → Type 0
LacksFrame bytes =
    (front bytes ≡ Waits) ⊎ ((e : WireFault) × (front bytes ≡ Breaks e) × IsOfStream e)

-- these bytes were read, and this frame is first in them
abbrev pub Heard : (had left : Option (List ℕ)) → Frame → Type 0
Heard had left f = (bytes : List ℕ) × Consumes had left bytes × StandsFirst f bytes

-- a reader that waits for the rest of a frame of which it holds these bytes
abbrev pub IsWaiting : Reader → List ℕ → Type 0
IsWaiting reader bytes = (reader ≡ holding bytes) × (front bytes ≡ Waits)

-- a reader that holds these bytes has given the frame that is first in them, or waits for more
abbrev pub GivesFirst : Reader → List ℕ → Option Frame → Type 0
GivesFirst reader bytes given =
    MatchOption given (IsWaiting reader bytes) (λ f. StandsFirst f bytes)

-- why no frame was read
abbrev pub LacksFor : ClientFault → List ℕ → Type 0
LacksFor fault.NoAnswer bytes = LacksFrame bytes
LacksFor fault.NoMemory bytes = IsBegun (front bytes)
LacksFor _ bytes = ⊥

-- these bytes were read, and this is why no frame was found in them
abbrev pub HeardNone : (had left : Option (List ℕ)) → ClientFault → Type 0
HeardNone had left e = (bytes : List ℕ) × Consumes had left bytes × LacksFor e bytes
