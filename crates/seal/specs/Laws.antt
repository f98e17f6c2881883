-- Laws of sealed streams (the project's own).
use Rattle.std.specs.Prelude.{◌≡◌, ℕ, ◌^◌, ◌<◌, ◌≤◌, List, [], ◌∷◌, ◌++◌, length, Option, None}
use Rattle.std.specs.Prelude.{slice_index, slice_set}
use Rattle.std.specs.Int.{w16, w32, to_be_bytes, from_be_bytes}
use Rattle.seal.specs.declared.{channel.Channel.Channel, fault.StreamFault.StreamFault}
use Rattle.seal.specs.Records.{mark, tag, record_of, records, IsBody, AreBodies}
use Rattle.seal.specs.Streams.{joined, HandsOn, HandsOnOnly}

-- four bytes that are the length of a frame, at most 300,000, are not the mark of a sealed stream
abbrev pub IsNoMark : List ℕ → Type 0
IsNoMark first = from_be_bytes w32 first ≤ 300000 → ¬ (first ≡ mark)

-- what is sent reads back as what was sent, and in no other way
pub record ReadsBack (channel : Channel) (bodies : List (List ℕ)) : Type 0 where
  pub back : HandsOn channel (records channel 0 bodies) (joined bodies) None
  pub only : HandsOnOnly channel (records channel 0 bodies) (joined bodies) None

-- a sealer that made the records of these bodies goes on with the record of one more
pub record GoesOn (channel : Channel) (bodies : List (List ℕ)) (body : List ℕ) : Type 0 where
  pub good : AreBodies 0 (bodies ++ body ∷ [])
  pub sent : records channel 0 (bodies ++ body ∷ [])
      ≡ records channel 0 bodies ++ record_of channel (length bodies) body

-- the tag of what was changed is not the one that came: where the bytes begin with the length of a
-- body, this body and a tag, and the body is not the one that was sent, this is not the body's tag
abbrev pub IsNotForged : Channel → ℕ → List ℕ → List ℕ → Type 0
IsNotForged channel number sent came =
    (body came_tag more : List ℕ) → IsBody number body → ¬ (body ≡ sent) → length came_tag ≡ 32
    → came ≡ to_be_bytes w16 (length body) ++ (body ++ (came_tag ++ more))
    → ¬ (came_tag ≡ tag channel number body)

-- what came begins with the records of these bodies, as they were sent, and not with the record
-- that was sent after them
pub record Differs (channel : Channel) (front : List (List ℕ)) (sent came : List ℕ)
    : Type 0 where
  pub good : AreBodies 0 front
  pub rest : List ℕ
  pub whole : came ≡ records channel 0 front ++ rest
  pub other : (more : List ℕ) → ¬ (rest ≡ record_of channel (length front) sent ++ more)
  pub not_forged : IsNotForged channel (length front) sent rest

-- only the bodies in front are handed on
abbrev pub HandsOnFront : Channel → List (List ℕ) → List ℕ → Type 0
HandsOnFront channel front came =
    (handed : List ℕ) (fault : Option StreamFault) → HandsOn channel came handed fault
    → handed ≡ joined front

-- one byte of a record was changed: the record with this number, its byte at, what is there
pub record IsChanged (channel : Channel) (number : ℕ) (body : List ℕ) (at byte : ℕ) : Type 0 where
  pub within : at < length (record_of channel number body)
  pub other : ¬ (byte ≡ slice_index (record_of channel number body) at)

abbrev pub changed : Channel → ℕ → List ℕ → ℕ → ℕ → List ℕ → List ℕ
changed channel number body at byte later =
    slice_set (record_of channel number body) at byte ++ later

-- where the records in front came as they were sent, and then one with a changed byte
abbrev pub StopsAtChange : Channel → List (List ℕ) → List ℕ → ℕ → ℕ → List ℕ → Type 0
StopsAtChange channel front body at byte later =
    AreBodies 0 front → IsChanged channel (length front) body at byte
    → IsNotForged channel (length front) body (changed channel (length front) body at byte later)
    → HandsOnFront channel front
    (records channel 0 front ++ changed channel (length front) body at byte later)

-- where a record comes that was sent with another number, in another direction or under another
-- key, and its tag is not the one that belongs here
abbrev pub StopsAtOther : Channel → List (List ℕ) → Channel → ℕ → List ℕ → List ℕ → Type 0
StopsAtOther channel front other number body later =
    AreBodies 0 front → length body < 2 ^ 16
    → ¬ (tag other number body ≡ tag channel (length front) body)
    → HandsOnFront channel front (records channel 0 front ++ (record_of other number body ++ later))
