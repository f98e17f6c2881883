-- The address of a desk, HOST:PORT, and the addresses of a hall (the project's own).
use Rattle.std.specs.Prelude.{◌≡◌, ◌≢◌, ◌≤◌, ◌<◌, ℕ, ◌==◌, ◌||◌, Bool, not, ◌&&◌, IsTrue, decimal}
use Rattle.std.specs.Prelude.{List, [], ◌∷◌, ◌++◌, bytes_eq}
use Rattle.std.specs.List.{list_all, AllByRecursion, IsDistinct}
use Rattle.std.specs.{Char.is_whitespace, Char.is_control, Str.chars}

-- a character of a host: no white space and no control character (Unicode's White_Space and Cc)
abbrev pub is_host_char : ℕ → Bool
is_host_char c = not (is_whitespace c) && not (is_control c)

-- HOST: not empty
abbrev pub IsHost : List ℕ → Type 0
IsHost host = (host ≢ []) × IsTrue (list_all is_host_char (chars host))

-- PORT: a number 1 to 65,535 in decimal, without leading zeros
abbrev pub IsPort : List ℕ → Type 0
IsPort port = (n : ℕ) × (0 < n) × (n ≤ 65535) × (port ≡ decimal n)

abbrev pub colon : ℕ
colon = 58

-- HOST:PORT
abbrev pub IsAddress : List ℕ → Type 0
IsAddress text =
    (host : List ℕ) × (port : List ℕ) × (text ≡ host ++ colon ∷ port) × IsHost host × IsPort port

-- texts that are addresses, and no two of them the same text
pub record AreAddresses (texts : List (List ℕ)) : Type 0 where
  pub each : AllByRecursion IsAddress texts
  pub apart : IsDistinct bytes_eq texts

-- a hall has three desks or five
abbrev pub is_count : ℕ → Bool
is_count n = (n == 3) || (n == 5)
