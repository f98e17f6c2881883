-- Who calls a desk over a connection, and what is handed on of what comes (the project's own).
use Rattle.std.specs.Prelude.{◌≡◌, ◌⊎◌, ℕ, true, false, List, [], Option, None, Some, option_map}
use Rattle.seal.specs.{declared.channel.Channel.Channel, Records.key_of}
use Rattle.seal.specs.declared.channel.Direction.TheVariants.{ToServer, ToClient}
use Rattle.sealed.specs.declared.callers.{Caller.Caller, Access.Access, Holder.Holder}
use Rattle.sealed.specs.declared.callers.Caller.TheVariants.{Anyone, Visitor}
use Rattle.sealed.specs.declared.callers.Access.TheVariants.{Open, Locked}
use Rattle.sealed.specs.{declared.callers.DeskKeys.DeskKeys, Trials.HandsBy, Tunnels.channel_of}
use Rattle.sealed.specs.Fronts.{IsPrefaced, IsShort, IsUnsealed}
use Rattle.sealed.specs.declared.callers.Caller.TheVariants as caller

-- what comes to a desk under one of its keys, where client and server sent these random bytes
abbrev pub comes_under : List ℕ → List ℕ → List ℕ → Channel
comes_under client server key = channel_of (key_of key client server) ToServer

-- and what goes
abbrev pub goes_under : List ℕ → List ℕ → List ℕ → Channel
goes_under client server key = channel_of (key_of key client server) ToClient

-- a sealed stream came, and these bytes are handed on of it, by this holder of a key
pub record IsSealed (locks : DeskKeys) (server came handed : List ℕ) (holder : Option Holder)
    : Type 0 where
  pub client : List ℕ
  pub stream : List ℕ
  pub prefaced : IsPrefaced came client stream
  pub hands : HandsBy holder (comes_under client server locks.hall)
      (option_map (comes_under client server) locks.entry) stream handed

-- nothing is handed on: it isn't known what the stream is, it is not sealed, and none such is let
-- pass, or it is sealed, and no record fits
abbrev pub IsNobody : DeskKeys → List ℕ → List ℕ → Type 0
IsNobody locks server came =
    IsShort came ⊎ (((locks.sheets ≡ false) × IsUnsealed came) ⊎ IsSealed locks server came [] None)

-- What a desk with these keys hands on of what came, where its own random bytes are these, and who
-- calls: without keys all of it, by anyone; of a stream that is not sealed all of it, by a passer,
-- where such are let pass; and of a sealed one the bodies of the records that fit under a key.
abbrev pub Admits : Access → List ℕ → List ℕ → List ℕ → Option Caller → Type 0
Admits doors server came handed (Some Anyone) = (doors ≡ Open) × (handed ≡ came)
Admits doors server came handed (Some Visitor) =
    (locks : DeskKeys) × (doors ≡ Locked locks) × (locks.sheets ≡ true) × IsUnsealed came
    × (handed ≡ came)
Admits doors server came handed (Some (caller.Holder key)) =
    (locks : DeskKeys) × (doors ≡ Locked locks) × IsSealed locks server came handed (Some key)
Admits doors server came handed None =
    (locks : DeskKeys) × (doors ≡ Locked locks) × (handed ≡ []) × IsNobody locks server came
