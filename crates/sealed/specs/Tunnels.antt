-- A sealed connection under one key (the project's own).
use Rattle.std.specs.Prelude.{◌≡◌, ℕ, ◌+◌, ◌-◌, ◌*◌, ◌^◌, ◌<◌, ◌≤◌, List, [], length, None}
use Rattle.seal.specs.{declared.fault.SealFault.SealFault, Sealing.Sealing}
use Rattle.seal.specs.declared.fault.SealFault.TheVariants.{BadLength, NoNumber, NoMemory}
use Rattle.seal.specs.declared.channel.{Channel.Channel, Direction.Direction}
use Rattle.seal.specs.declared.channel.Direction.TheVariants.{ToServer, ToClient}
use Rattle.seal.specs.{Records.AreBodies, Records.records, Streams.Opening, Streams.joined}

-- the other direction
abbrev pub opposite : Direction → Direction
opposite ToServer = ToClient
opposite ToClient = ToServer

-- one direction of a connection that has this key
abbrev pub channel_of : List ℕ → Direction → Channel
channel_of key direction = record { key = key; direction = direction }

-- one of its sides: what opens the records that come, and what seals those that go
pub record TunnelOf : Type 0 where
  pub opener : Opening
  pub sealer : Sealing

-- before the first record, where what comes goes in this direction
abbrev pub fresh_tunnel : List ℕ → Direction → TunnelOf
fresh_tunnel key comes = record {
  opener = record { channel = channel_of key comes; number = 0; held = []; fault = None };
  sealer = record { channel = channel_of key (opposite comes); number = 0 };
}

-- what is sent are the next records, and the bytes of their bodies are these
pub record SealsAll (bytes : List ℕ) (old new : Sealing) (sent : List ℕ) : Type 0 where
  pub bodies : List (List ℕ)
  pub each : AreBodies old.number bodies
  pub gives : joined bodies ≡ bytes
  pub sealed : sent ≡ records old.channel old.number bodies
  pub counted : new ≡ record old { number = old.number + length bodies }

-- and they are as few as can be: a body has at most 16,384 bytes
pub record AreFew (bytes : List ℕ) (old new : Sealing) : Type 0 where
  pub grown : old.number ≤ new.number
  pub enough : length bytes ≤ 16384 * (new.number - old.number)
  pub few : 16384 * (new.number - old.number) < length bytes + 16384

-- why bytes can't be sealed: more records are needed than there are numbers left, the last of which
-- is 2^64 - 2; or memory is refused
abbrev pub FailsAll : SealFault → List ℕ → Sealing → Type 0
FailsAll BadLength bytes s = ⊥
FailsAll NoNumber bytes s = 16384 * (2 ^ 64 - 1 - s.number) < length bytes
FailsAll NoMemory bytes s = Unit {0}
