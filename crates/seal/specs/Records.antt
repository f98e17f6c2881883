-- The records of a sealed stream (the project's own).
use Rattle.std.specs.Prelude.{◌≡◌, ℕ, suc, ◌-◌, ◌^◌, ◌<◌, ◌≤◌, List, [], ◌∷◌, ◌++◌, length, codes}
use Rattle.std.specs.Int.{w16, w64, to_be_bytes}
use Rattle.seal.specs.declared.channel.{Channel.Channel, Direction.Direction}
use Rattle.seal.specs.declared.channel.Direction.TheVariants.{ToServer, ToClient}
use Rattle.seal.specs.Hmac.{hmac}

-- the four bytes that a sealed stream begins with: DSK1
abbrev pub mark : List ℕ
mark = 0x44 ∷ 0x53 ∷ 0x4B ∷ 0x31 ∷ []

-- what a side sends first: the mark, and 16 random bytes
abbrev pub preface_of : List ℕ → List ℕ
preface_of random = mark ++ random

-- the key of a connection, of the hall's key and both sides' random bytes
unfoldable pub key_of : List ℕ → List ℕ → List ℕ → List ℕ
key_of hall client server = hmac hall (codes "DSK1 connection key" ++ (client ++ server))

-- the byte of a direction
abbrev pub direction_byte : Direction → ℕ
direction_byte ToServer = 1
direction_byte ToClient = 2

-- what a tag is of: the direction, the record's number, the length, and the body
abbrev pub tagged : Channel → ℕ → List ℕ → List ℕ
tagged channel number body =
    direction_byte channel.direction ∷
    (to_be_bytes w64 number ++ (to_be_bytes w16 (length body) ++ body))

unfoldable pub tag : Channel → ℕ → List ℕ → List ℕ
tag channel number body = hmac channel.key (tagged channel number body)

-- a record: the length of its body in two bytes, the body, and the tag
unfoldable pub record_of : Channel → ℕ → List ℕ → List ℕ
record_of channel number body =
    to_be_bytes w16 (length body) ++ (body ++ tag channel number body)

-- the body of a record has 1 to 16,384 bytes
abbrev pub IsLength : ℕ → Type 0
IsLength n = (1 ≤ n) × (n ≤ 16384)

-- a record may have this number and this body: the last number of 64 bits is not used
abbrev pub IsBody : ℕ → List ℕ → Type 0
IsBody number body = IsLength (length body) × (number < 2 ^ 64 - 1)

-- bodies that records may have, numbered one by one from this number
abbrev pub AreBodies : ℕ → List (List ℕ) → Type 0
AreBodies number [] = Unit {0}
AreBodies number (body ∷ bodies) = IsBody number body × AreBodies (suc number) bodies

-- their records, one after the other
abbrev pub records : Channel → ℕ → List (List ℕ) → List ℕ
records channel number [] = []
records channel number (body ∷ bodies) =
    record_of channel number body ++ records channel (suc number) bodies
