-- What a tag is made of (the project's own).
use Rattle.std.specs.Prelude.{◌≡◌, ℕ, ◌^◌, ◌<◌, List, length}
use Rattle.seal.specs.declared.channel.{Channel.Channel, Direction.Direction}
use Rattle.seal.specs.{Hmac.hmac, Records.tag}

-- a record may have a number of 64 bits, and a body whose length has 16
pub record IsTagged (number : ℕ) (body : List ℕ) : Type 0 where
  pub counted : number < 2 ^ 64
  pub sized : length body < 2 ^ 16

-- two records are one: they go one way, with one number, and have one body
pub record AreOne (way back : Direction) (number other : ℕ) (body another : List ℕ) : Type 0 where
  pub same_way : way ≡ back
  pub same_number : number ≡ other
  pub same_body : body ≡ another

-- no two records have one text
abbrev pub TellsRecords : (Direction → ℕ → List ℕ → List ℕ) → Type 0
TellsRecords text =
    (way back : Direction) (number other : ℕ) (body another : List ℕ) → IsTagged number body
    → IsTagged other another → text way number body ≡ text back other another
    → AreOne way back number other body another

-- the tag of a record is the HMAC of such a text, under the key of its channel
pub record TagsAreOfRecords : Type 0 where
  pub text : Direction → ℕ → List ℕ → List ℕ
  pub tells : TellsRecords text
  pub made : (c : Channel) (number : ℕ) (body : List ℕ)
      → tag c number body ≡ hmac c.key (text c.direction number body)
