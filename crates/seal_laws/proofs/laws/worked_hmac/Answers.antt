use Rattle.std.proofs.Common.{◌≡◌, ℕ, ◌-◌, List, ◌++◌, length, replicate, refl, ap, ◌∙◌}
use Rattle.std.proofs.lemmas.List.{append-nil}
use Rattle.sha2.specs.Sha256.{sha256, first_words, schedule, rounds, compress, hash_after}
use Rattle.sha2.specs.Sha256.{digest_bytes}
use Rattle.seal.specs.Hmac.{hmac, key_block, short_key, xor_each}
use Rattle.seal_laws.proofs.laws.worked_hmac.Goals as goal

short_is : (key : List ℕ) → length key ≡ 64 → short_key key ≡ key
short_is key h = rw h refl

-- a key of a block is the block
block_is : (key : List ℕ) → length key ≡ 64 → key_block key ≡ key
unfolding key_block
block_is key h =
    ap (λ (k : List ℕ). k ++ replicate (64 - length k) 0) (short_is key h)
    ∙ ap (λ (n : ℕ). key ++ replicate (64 - n) 0) h ∙ append-nil key

whole : (key text : List ℕ) → length key ≡ 64
    → hmac key text ≡ sha256 (xor_each key 0x5C ++ sha256 (xor_each key 0x36 ++ text))
unfolding hmac
whole key text h =
    ap (λ (b : List ℕ). sha256 (xor_each b 0x5C ++ sha256 (xor_each b 0x36 ++ text)))
    (block_is key h)

pub returns : goal.returns
unfolding hmac key_block sha256 first_words schedule rounds compress hash_after digest_bytes
returns c = record { short = refl; letters = refl; long = refl; whole = whole }
