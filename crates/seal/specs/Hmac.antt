-- HMAC (RFC 2104) with SHA-256 (FIPS 180-4) as its hash: blocks of 64 bytes, digests of 32.
use Rattle.std.specs.Prelude.{ℕ, ◌-◌, List, ◌++◌, length, map, replicate, bit_xor, nat_lt}
use Rattle.std.specs.Prelude.{if◌then◌else◌}
use Rattle.sha2.specs.Sha256.{sha256}

-- the key itself, or its digest where it is longer than a block (RFC 2104, section 2)
abbrev pub short_key : List ℕ → List ℕ
short_key key = if nat_lt 64 (length key) then sha256 key else key

-- the key filled up with zeros to a block (step 1)
unfoldable pub key_block : List ℕ → List ℕ
key_block key = short_key key ++ replicate (64 - length (short_key key)) 0

-- each byte of a block, XOR the byte of ipad or opad
abbrev pub xor_each : List ℕ → ℕ → List ℕ
xor_each block pad = map (λ x. bit_xor x pad) block

-- H(K XOR opad, H(K XOR ipad, text)), where ipad is 0x36 and opad is 0x5C in each byte (steps 2-7)
unfoldable pub hmac : List ℕ → List ℕ → List ℕ
hmac key text =
    sha256 (xor_each (key_block key) 0x5C ++ sha256 (xor_each (key_block key) 0x36 ++ text))
