-- The side of the caller of a desk: what it keeps, and what it has read (the project's own).
use Rattle.std.specs.Prelude.{◌≡◌, ℕ, Bool, true, false, List, [], ◌++◌, Option, None, Some}
use Rattle.seal.specs.declared.channel.Direction.TheVariants.{ToClient, ToServer}
use Rattle.seal.specs.declared.fault.{StreamFault.StreamFault, SealFault.SealFault}
use Rattle.seal.specs.{Records.key_of, Sealing.Sealing}
use Rattle.sealed.specs.declared.client_seal.SealTrouble.{SealTrouble}
use Rattle.sealed.specs.declared.client_seal.SealTrouble.TheVariants.{NoKey, OtherKey}
use Rattle.sealed.specs.Fronts.{IsPrefaced, IsShort, IsUnsealed}
use Rattle.sealed.specs.Trials.{Hands, ReadsAll, SealsOver, comes_by}
use Rattle.sealed.specs.Tunnels.{FailsAll, TunnelOf, channel_of}

-- ---- what is handed on of what came, by its bytes alone

-- a sealed stream came, and these bytes are handed on of it
pub record IsOpened (key client came handed : List ℕ) : Type 0 where
  pub server : List ℕ
  pub stream : List ℕ
  pub prefaced : IsPrefaced came server stream
  pub hands : Hands (channel_of (key_of key client server) ToClient) stream handed

-- ---- the side

-- the key, the random bytes, the bytes that are held until it is known what the stream is, the
-- connection under its key, once the desk's preface came, and whether the stream is not sealed
pub record ClientSealOf : Type 0 where
  pub key : List ℕ
  pub random : List ℕ
  pub held : List ℕ
  pub tunnel : Option TunnelOf
  pub unsealed : Bool

abbrev pub fresh_client_seal : List ℕ → List ℕ → ClientSealOf
fresh_client_seal key random =
    record { key = key; random = random; held = []; tunnel = None; unsealed = false }

abbrev pub fault_trouble : Option StreamFault → Option SealTrouble
fault_trouble None = None
fault_trouble (Some e) = Some OtherKey

abbrev pub unsealed_trouble : Bool → Option SealTrouble
unsealed_trouble true = Some NoKey
unsealed_trouble false = None

abbrev pub trouble_by : Option TunnelOf → Bool → Option SealTrouble
trouble_by (Some t) unsealed = fault_trouble t.opener.fault
trouble_by None unsealed = unsealed_trouble unsealed

abbrev pub trouble_of : ClientSealOf → Option SealTrouble
trouble_of c = trouble_by c.tunnel c.unsealed

-- ---- what was read

-- it is known that the stream is sealed
pub record StandsOpen (c : ClientSealOf) (t : TunnelOf) (came handed : List ℕ) : Type 0 where
  pub server : List ℕ
  pub stream : List ℕ
  pub prefaced : IsPrefaced came server stream
  pub key : comes_by t ≡ channel_of (key_of c.key c.random server) ToClient
  pub reads : ReadsAll t stream handed

-- or that it is not, or neither
abbrev pub StandsClosed : Bool → ClientSealOf → List ℕ → List ℕ → Type 0
StandsClosed true c came handed = IsUnsealed came × (handed ≡ [])
StandsClosed false c came handed = IsShort came × (c.held ≡ came) × (handed ≡ [])

abbrev pub StandsBy : Option TunnelOf → ClientSealOf → List ℕ → List ℕ → Type 0
StandsBy (Some t) c came handed = StandsOpen c t came handed
StandsBy None c came handed = StandsClosed c.unsealed c came handed

-- these bytes came so far, and those were handed on
abbrev pub Stands : ClientSealOf → List ℕ → List ℕ → Type 0
Stands c came handed = StandsBy c.tunnel c came handed

-- before the first record is sent, under the key of what comes
abbrev pub first_sealing : TunnelOf → Sealing
first_sealing t = record { channel = channel_of t.opener.channel.key ToServer; number = 0 }

-- What is sent goes on with what was sent before. Once the desk's preface came it begins: its
-- records are numbered from 0.
abbrev pub SendsOn : Option TunnelOf → Option TunnelOf → Type 0
SendsOn None None = Unit {0}
SendsOn None (Some u) = u.sealer ≡ first_sealing u
SendsOn (Some t) None = ⊥
SendsOn (Some t) (Some u) = u.sealer ≡ t.sealer

-- the key and the random bytes are the same
pub record IsSameCaller (old new : ClientSealOf) : Type 0 where
  pub key : new.key ≡ old.key
  pub random : new.random ≡ old.random

-- the key and the random bytes are the same; and whatever came and was handed on before, with this
-- piece these bytes more are
pub record Receives (piece : List ℕ) (old new : ClientSealOf) (more : List ℕ) : Type 0 where
  pub key : new.key ≡ old.key
  pub random : new.random ≡ old.random
  pub sends : SendsOn old.tunnel new.tunnel
  pub stands : (came handed : List ℕ) → Stands old came handed
      → Stands new (came ++ piece) (handed ++ more)

-- ---- what is sent

abbrev pub SendsBy : Option TunnelOf → List ℕ → ClientSealOf → ClientSealOf → List ℕ → Type 0
SendsBy None bytes old new sent = (sent ≡ []) × (new ≡ old)
SendsBy (Some t) bytes old new sent =
    (u : TunnelOf) × SealsOver bytes t u sent × (new ≡ record old { tunnel = Some u })

abbrev pub SendsTo : List ℕ → ClientSealOf → ClientSealOf → List ℕ → Type 0
SendsTo bytes old new sent = SendsBy old.tunnel bytes old new sent

-- why nothing is sent: before the desk's preface came nothing fails, since nothing is sealed
abbrev pub FailsBy : Option TunnelOf → SealFault → List ℕ → Type 0
FailsBy None e bytes = ⊥
FailsBy (Some t) e bytes = FailsAll e bytes t.sealer

abbrev pub FailsTo : SealFault → List ℕ → ClientSealOf → Type 0
FailsTo e bytes c = FailsBy c.tunnel e bytes
