-- Where two tags or two keys are the same, two texts that were hashed have one digest, if they are
-- not of one record or of one connection (the project's own).
use Rattle.std.specs.Prelude.{◌≡◌, ◌≢◌, ◌⊎◌, ℕ, List, ◌++◌, codes, length}
use Rattle.sha2.specs.Sha256.{sha256}
use Rattle.seal.specs.{declared.channel.Channel.Channel, Laws.HandsOnFront}
use Rattle.seal.specs.declared.channel.Direction.TheVariants.{ToServer, ToClient}
use Rattle.seal.specs.Hmac.{hmac, key_block, xor_each}
use Rattle.seal.specs.Records.{AreBodies, key_of, record_of, records, tagged}
use Rattle.sealed.specs.Tunnels.{channel_of}
use Rattle.seal_laws.specs.{Keys.AreRandom, Tags.IsTagged}

-- what is hashed first for an HMAC, and what then (RFC 2104, section 2)
abbrev pub inner : List ℕ → List ℕ → List ℕ
inner key text = xor_each (key_block key) 0x36 ++ text

abbrev pub outer : List ℕ → List ℕ → List ℕ
outer key text = xor_each (key_block key) 0x5C ++ sha256 (inner key text)

-- two texts are not the same, and their digests are
pub record HaveOneDigest (first second : List ℕ) : Type 0 where
  pub others : first ≢ second
  pub digest : sha256 first ≡ sha256 second

-- of what was hashed for two HMACs, two texts have one digest
abbrev pub Collide : List ℕ → List ℕ → List ℕ → List ℕ → Type 0
Collide key text other another =
    HaveOneDigest (inner key text) (inner other another)
    ⊎ HaveOneDigest (outer key text) (outer other another)

-- the same under keys of 32 bytes is of one key and one text, or two texts have one digest
abbrev pub MacsTell : Type 0
MacsTell =
    (key text other another : List ℕ) → length key ≡ 32 → length other ≡ 32
    → hmac key text ≡ hmac other another
    → ((key ≡ other) × (text ≡ another)) ⊎ Collide key text other another

-- a record that was sent over this channel with this number does not belong here
pub record IsElsewhere (channel other : Channel) (number there : ℕ) : Type 0 where
  pub key : length channel.key ≡ 32
  pub other_key : length other.key ≡ 32
  pub elsewhere : ¬ ((other ≡ channel) × (there ≡ number))

-- A record of another connection, of the other direction or with another number ends a stream at
-- its place, or two texts have one digest.
abbrev pub StopsUnlessTheyCollide : Type 0
StopsUnlessTheyCollide =
    (channel other : Channel) (front : List (List ℕ)) (number : ℕ) (body later : List ℕ)
    → AreBodies 0 front → IsTagged number body → IsTagged (length front) body
    → IsElsewhere channel other (length front) number → HandsOnFront channel front
    (records channel 0 front ++ (record_of other number body ++ later))
    ⊎ Collide other.key (tagged other number body) channel.key (tagged channel (length front) body)

-- one body goes one way, and comes the other
abbrev pub BackIsElsewhere : Type 0
BackIsElsewhere =
    (key : List ℕ) → length key ≡ 32
    → IsElsewhere (channel_of key ToServer) (channel_of key ToClient) 0 0

-- two connections have one key where they are of one key and the same random bytes, or two texts
-- have one digest
pub record AreOneConnection (key client server other its another : List ℕ) : Type 0 where
  pub same_key : key ≡ other
  pub same_client : client ≡ its
  pub same_server : server ≡ another

-- what a connection's key is the HMAC of
abbrev pub connection_text : List ℕ → List ℕ → List ℕ
connection_text client server = codes "DSK1 connection key" ++ (client ++ server)

abbrev pub KeysTell : Type 0
KeysTell =
    (key client server other its another : List ℕ) → length key ≡ 32 → length other ≡ 32
    → AreRandom client server → AreRandom its another
    → key_of key client server ≡ key_of other its another
    → AreOneConnection key client server other its another
    ⊎ Collide key (connection_text client server) other (connection_text its another)
