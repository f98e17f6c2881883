-- The random bytes of a connection, with the numbers of the desk's start and of the connection (the
-- project's own).
use Rattle.std.specs.Prelude.{◌≡◌, ◌<◌, ◌+◌, ◌%◌, ◌^◌, ◌++◌, ℕ, List, length, slice_index}
use Rattle.std.specs.Int.{from_be_bytes, to_be_bytes, w64}

-- eight bytes as a number, to which another one is added within 64 bits
abbrev pub added : List ℕ → ℕ → List ℕ
added bytes number = to_be_bytes w64 ((from_be_bytes w64 bytes + number) % 2 ^ 64)

-- the start is in the first half, and how many connections came before in the second
abbrev pub mixed : (first second : List ℕ) (start count : ℕ) → List ℕ
mixed first second start count = added first start ++ added second count

-- of the same bytes that were drawn, other numbers make other bytes
abbrev pub TellsApart : Type 0
TellsApart =
    (first second : List ℕ) (start later count other : ℕ)
    → start < 2 ^ 64 → later < 2 ^ 64 → count < 2 ^ 64 → other < 2 ^ 64
    → mixed first second start count ≡ mixed first second later other
    → (start ≡ later) × (count ≡ other)

-- eight bytes
pub record IsHalf (half : List ℕ) : Type 0 where
  pub size : length half ≡ 8
  pub bytes : (i : ℕ) → slice_index half i < 256

-- of the same numbers, other bytes that were drawn make other bytes
abbrev pub KeepsDrawn : Type 0
KeepsDrawn =
    (first second again more : List ℕ) (start count : ℕ)
    → IsHalf first → IsHalf second → IsHalf again → IsHalf more
    → mixed first second start count ≡ mixed again more start count
    → (first ≡ again) × (second ≡ more)
