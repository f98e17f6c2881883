-- A model of the code: its test of digits, in front of its sum of them.
use Rattle.std.specs.Prelude.{ℕ, Bool, not, ◌==◌, ◌&&◌, ◌||◌, nat_lt, nat_le, List, length}
use Rattle.std.specs.{Prelude.slice_index, Char.is_ascii_digit, List.list_all}

-- one to nineteen digits, and no zero in front of another
abbrev pub is_numeral : List ℕ → Bool
is_numeral bytes =
    nat_lt 0 (length bytes) && nat_le (length bytes) 19 && list_all is_ascii_digit bytes &&
    (length bytes == 1 || not (slice_index bytes 0 == 48))
