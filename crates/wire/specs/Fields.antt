-- Reading fields one after the other: each gives a value and the bytes after it, or nothing (as
-- docs/FORMATS.md has it).
use Rattle.std.specs.Prelude.{ℕ, zero, suc, ◌==◌, List, [], ◌∷◌, length, take, drop, find, Option}
use Rattle.std.specs.Prelude.{Some, None, nat_lt, if◌then◌else◌}
use Rattle.std.specs.Int.{Width, byte_len, from_be_bytes}

-- a value and what is after it
abbrev pub Read : Type 0 → Type 0
Read A = Option (A × List ℕ)

infixl 10 ◌>>=◌
abbrev pub ◌>>=◌ : {A B : Type 0} → Option A → (A → Option B) → Option B
None >>= f = None
(Some x) >>= f = f x

unfoldable pub number_at : Width → List ℕ → Read ℕ
number_at w bytes =
    if nat_lt (length bytes) (byte_len w) then None
    else Some (from_be_bytes w (take (byte_len w) bytes), drop (byte_len w) bytes)

unfoldable pub byte_at : List ℕ → Read ℕ
byte_at [] = None
byte_at (b ∷ bytes) = Some (b, bytes)

-- one field, then another
abbrev pub two : {A B : Type 0} → (List ℕ → Read A) → (List ℕ → Read B) → List ℕ → Read (A × B)
two first second bytes = first bytes >>= λ x. second x.1 >>= λ y. Some ((x.0, y.0), y.1)

-- this many fields of one sort, one after the other
unfoldable pub many : {A : Type 0} → (List ℕ → Read A) → ℕ → List ℕ → Read (List A)
many read zero bytes = Some ([], bytes)
many read (suc n) bytes = read bytes >>= λ x. many read n x.1 >>= λ y. Some (x.0 ∷ y.0, y.1)

-- nothing is left
abbrev pub ended : List ℕ → Option (Unit {0})
ended rest = if length rest == 0 then Some tt else None

-- all of the bytes, as one field
abbrev pub all_of : {A : Type 0} → (List ℕ → Read A) → List ℕ → Option A
all_of read bytes = read bytes >>= λ x. if length x.1 == 0 then Some x.0 else None

-- the member of a list that has a number
abbrev pub numbered : {A : Type 0} → (A → ℕ) → List A → ℕ → Option A
numbered number_of members n = find (λ member. number_of member == n) members
