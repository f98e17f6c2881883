-- What a sealer makes of a body (the project's own).
use Rattle.std.specs.Prelude.{◌≡◌, ℕ, suc, ◌+◌, ◌-◌, ◌^◌, List, length}
use Rattle.seal.specs.declared.{fault.SealFault.SealFault, channel.Channel.Channel}
use Rattle.seal.specs.declared.fault.SealFault.TheVariants.{BadLength, NoNumber, NoMemory}
use Rattle.seal.specs.Records.{IsLength, IsBody, record_of}

-- a sealer: which stream it makes, and the number of the next record
pub record Sealing : Type 0 where
  pub channel : Channel
  pub number : ℕ

-- the record of this body with the next number, and a sealer that goes on with the number after it
pub record Seals (body : List ℕ) (old new : Sealing) (sent : List ℕ) : Type 0 where
  pub sealed : sent ≡ record_of old.channel old.number body
  pub good : IsBody old.number body
  pub counted : new ≡ record old { number = old.number + 1 }

-- why a body is not sealed: its length, then its number, and then memory
abbrev pub RefusesBody : SealFault → List ℕ → ℕ → Type 0
RefusesBody BadLength body number = ¬ IsLength (length body)
RefusesBody NoNumber body number = IsLength (length body) × (number ≡ 2 ^ 64 - 1)
RefusesBody NoMemory body number = IsBody number body
