-- Texts of decimal digits, and numbers in a range (the project's own).
use Rattle.std.specs.Prelude.{ℕ, ◌+◌, ◌-◌, ◌*◌, ◌&&◌, nat_le, if◌then◌else◌, List, fold}
use Rattle.std.specs.Prelude.{Option, Some, None}

-- the number that digits stand for
abbrev pub digits_value : List ℕ → ℕ
digits_value bytes = fold (λ v b. 10 * v + (b - 48)) 0 bytes

-- the number, where it is in the range
abbrev pub within : ℕ → ℕ → ℕ → Option ℕ
within low high n = if nat_le low n && nat_le n high then Some n else None
