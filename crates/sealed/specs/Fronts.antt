-- The front of a stream: what it tells of the stream (the project's own).
use Rattle.std.specs.Prelude.{◌≡◌, ◌⊎◌, ◌<◌, ◌≤◌, ℕ, List, ◌++◌, length, take}
use Rattle.seal.specs.Records.{mark, preface_of}

-- it is not sealed
pub record IsUnsealed (came : List ℕ) : Type 0 where
  pub there : 4 ≤ length came
  pub other : ¬ (take 4 came ≡ mark)

-- it isn't known yet: fewer than four bytes came, or a part of a preface
abbrev pub IsShort : List ℕ → Type 0
IsShort came = (length came < 4) ⊎ ((take 4 came ≡ mark) × (length came < 20))

-- it is sealed: a preface with these random bytes came, and after it this stream
pub record IsPrefaced (came random stream : List ℕ) : Type 0 where
  pub sixteen : length random ≡ 16
  pub whole : came ≡ preface_of random ++ stream
