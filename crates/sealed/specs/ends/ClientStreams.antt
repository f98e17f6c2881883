-- A caller's end of a connection: what it keeps, what it has read, and what it takes (the project's
-- own).
use Rattle.std.specs.Prelude.{◌≡◌, ℕ, ◌==◌, ◌&&◌, not, Bool, true, false, List, [], ◌∷◌, ◌++◌}
use Rattle.std.specs.Prelude.{length, take, min, Option, None, Some, option_map, if◌then◌else◌}
use Rattle.seal.specs.declared.fault.SealFault.{SealFault, TheVariants.NoMemory}
use Rattle.seal.specs.Records.{preface_of}
use Rattle.sealed.specs.{declared.client_seal.SealTrouble.SealTrouble, Tunnels.TunnelOf}
use Rattle.sealed.specs.ClientSeals.{ClientSealOf, FailsTo, SendsOn, SendsTo, fresh_client_seal}
use Rattle.sealed.specs.declared.ends.trouble.CallTrouble.{CallTrouble}
use Rattle.sealed.specs.declared.ends.trouble.CallTrouble.TheVariants.{NoKey, OtherKey, HasKey}
use Rattle.sealed.specs.ends.Plain.{handed_plain, is_mark}
use Rattle.sealed.specs.declared.client_seal.SealTrouble.TheVariants as sealed_as
use Rattle.sealed.specs.ClientSeals as Callings

-- the side of the key, where there is one, the first bytes that came, at most four, whether
-- something was handed on, and what is to be sent
pub record ClientStreamOf : Type 0 where
  pub calling : Option ClientSealOf
  pub front : List ℕ
  pub heard : Bool
  pub output : List ℕ

abbrev pub calling_of : Option (List ℕ) → List ℕ → Option ClientSealOf
calling_of None random = None
calling_of (Some key) random = Some (fresh_client_seal key random)

-- with a key the caller's preface is sent first
abbrev pub first_output : Option ClientSealOf → List ℕ
first_output None = []
first_output (Some s) = preface_of s.random

abbrev pub fresh_client_stream : Option (List ℕ) → List ℕ → ClientStreamOf
fresh_client_stream key random = record {
  calling = calling_of key random;
  front = [];
  heard = false;
  output = first_output (calling_of key random);
}

-- the key that the caller has, if it has one
abbrev pub own_key : ClientStreamOf → Option (List ℕ)
own_key c = option_map (λ s. s.key) c.calling

-- whether something can be given: always without a key, and with one once the desk's preface came
abbrev pub is_there : Option TunnelOf → Bool
is_there None = false
is_there (Some t) = true

abbrev pub open_by : Option ClientSealOf → Bool
open_by None = true
open_by (Some s) = is_there s.tunnel

abbrev pub is_open : ClientStreamOf → Bool
is_open c = open_by c.calling

-- ---- what is given

-- these bytes are sent: themselves without a key, and a record of them with one
abbrev pub SealsBy : Option ClientSealOf → List ℕ → ClientStreamOf → ClientStreamOf → List ℕ
    → Type 0
SealsBy None bytes old new sent = (sent ≡ bytes) × (new ≡ old)
SealsBy (Some s) bytes old new sent =
    (u : ClientSealOf) × SendsTo bytes s u sent × (new ≡ record old { calling = Some u })

abbrev pub Seals : List ℕ → ClientStreamOf → ClientStreamOf → List ℕ → Type 0
Seals bytes old new sent = SealsBy old.calling bytes old new sent

-- these bytes are taken, and what is sent of them is to be sent
pub record Takes (bytes : List ℕ) (old new : ClientStreamOf) : Type 0 where
  pub mid : ClientStreamOf
  pub seals : Seals bytes old mid new.output
  pub same : new ≡ record mid { output = new.output }

-- bytes are taken once the connection is open, and nothing is still to be sent
abbrev pub is_ready : ClientStreamOf → Bool
is_ready c = is_open c && (length c.output == 0)

abbrev pub GivesBy : Bool → List ℕ → ℕ → ClientStreamOf → ClientStreamOf → Type 0
GivesBy false bytes count old new = (count ≡ 0) × (new ≡ old)
GivesBy true bytes count old new =
    (count ≡ min (length bytes) 16384) × Takes (take count bytes) old new

-- this many of the bytes are taken, those in front
abbrev pub Gives : List ℕ → ℕ → ClientStreamOf → ClientStreamOf → Type 0
Gives bytes count old new = GivesBy (is_ready old) bytes count old new

-- why none can be taken: without a key for want of memory alone, and with one since those in front
-- can't be sealed
abbrev pub FailsBy : Option ClientSealOf → SealFault → List ℕ → Type 0
FailsBy None e bytes = e ≡ NoMemory
FailsBy (Some s) e bytes = FailsTo e bytes s

abbrev pub Fails : SealFault → List ℕ → ClientStreamOf → Type 0
Fails e bytes c = FailsBy c.calling e bytes

pub record FailsToGive (e : SealFault) (bytes : List ℕ) (c : ClientStreamOf) : Type 0 where
  pub ready : is_ready c ≡ true
  pub fails : Fails e (take (min (length bytes) 16384) bytes) c

-- ---- what was read

-- of all that came these bytes were handed on
abbrev pub ReadsBy : Option ClientSealOf → List ℕ → List ℕ → Type 0
ReadsBy None came handed = handed ≡ handed_plain came
ReadsBy (Some s) came handed = Callings.Stands s came handed

pub record Stands (c : ClientStreamOf) (came handed : List ℕ) : Type 0 where
  pub front : c.front ≡ take 4 came
  pub heard : c.heard ≡ not (length handed == 0)
  pub reads : ReadsBy c.calling came handed

-- the key and the random bytes are the same, and what is sent goes on with what was sent before
pub record IsSameSide (old new : ClientSealOf) : Type 0 where
  pub key : new.key ≡ old.key
  pub random : new.random ≡ old.random
  pub sends : SendsOn old.tunnel new.tunnel

abbrev pub IsSameKey : Option ClientSealOf → Option ClientSealOf → Type 0
IsSameKey None None = Unit {0}
IsSameKey None (Some u) = ⊥
IsSameKey (Some s) None = ⊥
IsSameKey (Some s) (Some u) = IsSameSide s u

-- whatever came and was handed on before, with this piece these bytes more are
pub record Receives (piece : List ℕ) (old new : ClientStreamOf) (more : List ℕ) : Type 0 where
  pub same : IsSameKey old.calling new.calling
  pub output : new.output ≡ old.output
  pub stands : (came handed : List ℕ) → Stands old came handed
      → Stands new (came ++ piece) (handed ++ more)

-- ---- what is wrong

abbrev pub sealed_trouble : Option SealTrouble → Option CallTrouble
sealed_trouble None = None
sealed_trouble (Some sealed_as.NoKey) = Some NoKey
sealed_trouble (Some sealed_as.OtherKey) = Some OtherKey

-- by what came
abbrev pub trouble_by : Option ClientSealOf → List ℕ → Option CallTrouble
trouble_by None front = if is_mark front then Some HasKey else None
trouble_by (Some s) front = sealed_trouble (Callings.trouble_of s)

abbrev pub trouble_of : ClientStreamOf → Option CallTrouble
trouble_of c = trouble_by c.calling c.front

-- where the connection ends now, and nothing is wrong by what came: with a key, no byte came; or
-- the desk's preface came, and nothing was handed on
abbrev pub silent_trouble : Option ClientSealOf → List ℕ → Bool → Option CallTrouble
silent_trouble None front heard = None
silent_trouble (Some s) [] heard = Some NoKey
silent_trouble (Some s) (b ∷ front) heard =
    if is_there s.tunnel && not heard then Some OtherKey else None

abbrev pub end_by : Option CallTrouble → ClientStreamOf → Option CallTrouble
end_by (Some trouble) c = Some trouble
end_by None c = silent_trouble c.calling c.front c.heard

abbrev pub end_trouble : ClientStreamOf → Option CallTrouble
end_trouble c = end_by (trouble_of c) c
