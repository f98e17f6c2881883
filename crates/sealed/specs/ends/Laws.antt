-- Laws of a caller's end of a connection (the project's own).
use Rattle.std.specs.Prelude.{◌≡◌, ◌≢◌, ◌⊎◌, ℕ, List, [], ◌++◌, drop, take, Option, None, Some}
use Rattle.seal.specs.declared.channel.Direction.TheVariants.{ToServer, ToClient}
use Rattle.seal.specs.{declared.fault.StreamFault.StreamFault, Streams.HandsOn, Streams.joined}
use Rattle.seal.specs.Records.{AreBodies, key_of, mark, preface_of, records}
use Rattle.sealed.specs.{ClientSeals.ClientSealOf, ends.Given.HasSent, ends.Plain.handed_plain}
use Rattle.sealed.specs.{ClientSeals.IsOpened, Fronts.IsPrefaced, Fronts.IsShort, Fronts.IsUnsealed}
use Rattle.sealed.specs.{Tunnels.channel_of, declared.ends.trouble.CallTrouble.CallTrouble}
use Rattle.sealed.specs.declared.ends.trouble.CallTrouble.TheVariants.{NoKey, OtherKey, HasKey}
use Rattle.sealed.specs.ends.ClientStreams.{ClientStreamOf, Gives, Receives, Stands}
use Rattle.sealed.specs.ends.ClientStreams.{fresh_client_stream, trouble_of}

-- ---- a connection from its beginning on

-- the caller has this key, or none, and these random bytes
abbrev pub IsOf : Option ClientSealOf → Option (List ℕ) → List ℕ → Type 0
IsOf None key random = key ≡ None
IsOf (Some s) key random = (key ≡ Some s.key) × (random ≡ s.random)

-- one connection of a caller: what came and was handed on, and what was given and sent
pub record IsCall (key : Option (List ℕ)) (random : List ℕ) (c : ClientStreamOf)
    (came handed given sent : List ℕ) : Type 0 where
  pub side : IsOf c.calling key random
  pub stands : Stands c came handed
  pub gone : HasSent c came given sent

-- it holds at the beginning, and through each call
pub record StaysCall : Type 0 where
  pub begins : (key : Option (List ℕ)) (random : List ℕ)
      → IsCall key random (fresh_client_stream key random) [] [] [] []
  pub receives : (key : Option (List ℕ)) (random piece more came handed given sent : List ℕ)
      (old new : ClientStreamOf) → Receives piece old new more
      → IsCall key random old came handed given sent
      → IsCall key random new (came ++ piece) (handed ++ more) given sent
  pub gives : (key : Option (List ℕ)) (random bytes came handed given sent : List ℕ) (count : ℕ)
      (old new : ClientStreamOf) → Gives bytes count old new
      → IsCall key random old came handed given sent
      → IsCall key random new came handed (given ++ take count bytes) sent
  pub sends : (key : Option (List ℕ)) (random came handed given sent : List ℕ) (count : ℕ)
      (c : ClientStreamOf) → IsCall key random c came handed given sent
      → IsCall key random (record c { output = drop count c.output }) came handed given
      (sent ++ take count c.output)

-- ---- what it says of the bytes alone

-- what was sent under a key: the caller's preface, and the records of what was given, numbered
-- from 0, once the desk's preface came
pub record IsSentSealed (key random came given sent : List ℕ) : Type 0 where
  pub server : List ℕ
  pub stream : List ℕ
  pub prefaced : IsPrefaced came server stream
  pub bodies : List (List ℕ)
  pub each : AreBodies 0 bodies
  pub gives : joined bodies ≡ given
  pub sealed : sent
      ≡ preface_of random ++ records (channel_of (key_of key random server) ToServer) 0 bodies

abbrev pub IsSent : Option (List ℕ) → List ℕ → List ℕ → List ℕ → List ℕ → Type 0
IsSent None random came given sent = sent ≡ given
IsSent (Some key) random came given sent =
    ((given ≡ []) × (sent ≡ preface_of random)) ⊎ IsSentSealed key random came given sent

-- what was handed on: without a key all that came, but of a desk that asks for one; and with a key
-- what is in records that fit
abbrev pub IsHanded : Option (List ℕ) → List ℕ → List ℕ → List ℕ → Type 0
IsHanded None random came handed = handed ≡ handed_plain came
IsHanded (Some key) random came handed = (handed ≡ []) ⊎ IsOpened key random came handed

-- a caller sends nothing but what it is given, in order, and is handed on nothing but what the desk
-- said
pub record IsSpoken (key : Option (List ℕ)) (random came handed given sent : List ℕ) : Type 0 where
  pub heard : IsHanded key random came handed
  pub gone : IsSent key random came given sent

abbrev pub CallsSpeak : Type 0
CallsSpeak = (key : Option (List ℕ)) (random came handed given sent : List ℕ) (c : ClientStreamOf)
    → IsCall key random c came handed given sent
    → IsSpoken key random came handed given (sent ++ c.output)

-- ---- what is wrong

-- records came up to one that does not fit, or up to less than one
pub record IsOpenedTo (key random came handed : List ℕ) (fault : Option StreamFault) : Type 0 where
  pub server : List ℕ
  pub stream : List ℕ
  pub prefaced : IsPrefaced came server stream
  pub hands : HandsOn (channel_of (key_of key random server) ToClient) stream handed fault

-- by what came and was handed on, exactly this is wrong
abbrev pub IsWrong : Option CallTrouble → Option (List ℕ) → List ℕ → List ℕ → List ℕ → Type 0
IsWrong (Some HasKey) key random came handed = (key ≡ None) × (take 4 came ≡ mark)
IsWrong (Some NoKey) key random came handed = (key ≢ None) × IsUnsealed came
IsWrong (Some OtherKey) key random came handed =
    (own : List ℕ) × (key ≡ Some own) × (fault : StreamFault)
    × IsOpenedTo own random came handed (Some fault)
IsWrong None None random came handed = ¬ (take 4 came ≡ mark)
IsWrong None (Some own) random came handed =
    IsShort came ⊎ IsOpenedTo own random came handed None

abbrev pub TellsTrouble : Type 0
TellsTrouble = (key : Option (List ℕ)) (random came handed given sent : List ℕ) (c : ClientStreamOf)
    → IsCall key random c came handed given sent → IsWrong (trouble_of c) key random came handed
