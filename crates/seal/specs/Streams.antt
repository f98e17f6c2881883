-- What a sealed stream holds, and what an opener of it keeps (the project's own).
use Rattle.std.specs.Prelude.{◌≡◌, ◌⊎◌, ℕ, ◌+◌, ◌<◌, ◌≤◌, List, [], ◌∷◌, ◌++◌, length, take, Option}
use Rattle.std.specs.Prelude.{Some, None}
use Rattle.std.specs.{Global.Vec, List.flat_map, Int.w16, Int.from_be_bytes}
use Rattle.seal.specs.declared.{channel.Channel.Channel, fault.StreamFault.StreamFault}
use Rattle.seal.specs.declared.fault.StreamFault.TheVariants.{BadLength, BadTag}
use Rattle.seal.specs.Records.{IsLength, IsBody, AreBodies, record_of, records}

-- the number in the first two bytes
abbrev pub length_at : List ℕ → ℕ
length_at bytes = from_be_bytes w16 (take 2 bytes)

-- the bytes go no further than a record: its length is not there yet, or is good and counts more
abbrev pub Waits : List ℕ → Type 0
Waits bytes =
    (length bytes < 2) ⊎ (IsLength (length_at bytes) × (length bytes < length_at bytes + 34))

-- the first length is good, and the body and the tag that it counts are there
pub record IsWhole (bytes : List ℕ) : Type 0 where
  pub counted : IsLength (length_at bytes)
  pub there : length_at bytes + 34 ≤ length bytes

-- a record with this number is at the front
abbrev pub BeginsRecord : Channel → ℕ → List ℕ → Type 0
BeginsRecord channel number bytes =
    (body : List ℕ) × (more : List ℕ) × IsBody number body
    × (bytes ≡ record_of channel number body ++ more)

-- what ends a stream: it waits for more, its next length is bad, or its next record has not the tag
-- of its body under this number
abbrev pub Ends : Channel → ℕ → Option StreamFault → List ℕ → Type 0
Ends channel number None rest = Waits rest
Ends channel number (Some BadLength) rest = (2 ≤ length rest) × ¬ IsLength (length_at rest)
Ends channel number (Some BadTag) rest = IsWhole rest × ¬ BeginsRecord channel number rest

-- the bytes of the bodies, in order
abbrev pub joined : List (List ℕ) → List ℕ
joined bodies = flat_map (λ body. body) bodies

-- the stream is the records of these bodies, and then less than a record, or this fault
pub record Opens (channel : Channel) (stream : List ℕ) (bodies : List (List ℕ))
    (fault : Option StreamFault) : Type 0 where
  pub rest : List ℕ
  pub whole : stream ≡ records channel 0 bodies ++ rest
  pub each : AreBodies 0 bodies
  pub ends : Ends channel (length bodies) fault rest

-- what is handed on of a stream: the bytes of its bodies
abbrev pub HandsOn : Channel → List ℕ → List ℕ → Option StreamFault → Type 0
HandsOn channel stream handed fault =
    (bodies : List (List ℕ)) × Opens channel stream bodies fault × (handed ≡ joined bodies)

-- and the stream can be read in no other way
abbrev pub HandsOnOnly : Channel → List ℕ → List ℕ → Option StreamFault → Type 0
HandsOnOnly channel stream handed fault =
    (other : List ℕ) (end : Option StreamFault) → HandsOn channel stream other end
    → (handed ≡ other) × (fault ≡ end)

-- an opener: which stream it opens, the number of the next record, the bytes of that record that
-- came, and the fault that ended the stream
pub record Opening : Type 0 where
  pub channel : Channel
  pub number : ℕ
  pub held : List ℕ
  pub fault : Option StreamFault

-- what is held of the rest of a stream: nothing after a fault
abbrev pub held_of : Option StreamFault → List ℕ → List ℕ
held_of None rest = rest
held_of (Some e) rest = []

-- an opener whose next record had this number has read this stream and handed on these bytes
pub record Reads (channel : Channel) (number : ℕ) (stream handed : List ℕ) (opener : Opening)
    : Type 0 where
  pub bodies : List (List ℕ)
  pub rest : List ℕ
  pub whole : stream ≡ records channel number bodies ++ rest
  pub each : AreBodies number bodies
  pub gives : handed ≡ joined bodies
  pub channel_kept : opener.channel ≡ channel
  pub counted : opener.number ≡ number + length bodies
  pub ends : Ends channel (number + length bodies) opener.fault rest
  pub held : opener.held ≡ held_of opener.fault rest

-- one more piece: after a fault nothing is handed on, and nothing changes
abbrev pub FedAt : Option StreamFault → List ℕ → Opening → Opening → List ℕ → Type 0
FedAt None piece old new handed = Reads old.channel old.number (old.held ++ piece) handed new
FedAt (Some e) piece old new handed = (handed ≡ []) × (new ≡ old)

abbrev pub Fed : List ℕ → Opening → Opening → List ℕ → Type 0
Fed piece old new handed = FedAt old.fault piece old new handed

-- which record has begun to come and is not whole, if one has
abbrev pub begun_at : List ℕ → ℕ → Option ℕ
begun_at [] number = None
begun_at (b ∷ more) number = Some number

abbrev pub begun : Opening → Option ℕ
begun o = begun_at o.held o.number

-- the stream that comes in these pieces
abbrev pub stream_of : List (Vec ℕ) → List ℕ
stream_of pieces = flat_map (λ piece. piece.items) pieces
