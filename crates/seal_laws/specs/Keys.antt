-- What the key of a connection is made of (the project's own).
use Rattle.std.specs.Prelude.{◌≡◌, ℕ, List, length}
use Rattle.seal.specs.{Hmac.hmac, Records.key_of}

-- the random bytes of the two sides of a connection
pub record AreRandom (client server : List ℕ) : Type 0 where
  pub of_client : length client ≡ 16
  pub of_server : length server ≡ 16

-- no two connections have one text, if not both sides have the same random bytes in both
abbrev pub TellsSides : (List ℕ → List ℕ → List ℕ) → Type 0
TellsSides text =
    (client server other another : List ℕ) → AreRandom client server → AreRandom other another
    → text client server ≡ text other another → (client ≡ other) × (server ≡ another)

-- the key of a connection is the HMAC of such a text, under the hall's key or the entry key
pub record KeysAreOfBothSides : Type 0 where
  pub text : List ℕ → List ℕ → List ℕ
  pub tells : TellsSides text
  pub made : (key client server : List ℕ) → key_of key client server ≡ hmac key (text client server)
