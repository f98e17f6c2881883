-- A hall's file, by hand: what its lines say, and two that are refused.
use Rattle.std.specs.Prelude.{ℕ, List, [], ◌∷◌, ◌++◌, codes, None, Some}
use Rattle.hall_file.specs.Files.{Refuses, SaysHall}
use Rattle.hall_file.specs.declared.fault.HallFault.TheVariants.{Missing}
use Rattle.hall_file.specs.declared.fault.Member.TheVariants as name

abbrev pub line : List ℕ → List ℕ → List ℕ
line text more = text ++ (10 ∷ more)

-- three desks in hall 7, and where the key is
abbrev pub file : List ℕ
file =
    line (codes "# the hall")
    (line (codes "hall = 7") (line (codes "desks = [\"a:1\", \"b:20\", \"c:3\"]")
    (line (codes "key = \"k\"") [])))

abbrev pub addresses : List (List ℕ)
addresses = codes "a:1" ∷ codes "b:20" ∷ codes "c:3" ∷ []

-- the same without a key
abbrev pub open_file : List ℕ
open_file =
    line (codes "hall = 7") (line (codes "desks = [\"a:1\", \"b:20\", \"c:3\"]") [])

-- one that names no desks
abbrev pub bare_file : List ℕ
bare_file = line (codes "hall = 7") []

pub record WorksHallFile : Type 0 where
  pub says : SaysHall file 7 addresses (Some (codes "k"))
  pub open_says : SaysHall open_file 7 addresses None
  pub bare : Refuses bare_file (Missing name.Desks)
