-- Who met the cutoff (WCA Regulations, article 9g) has a better place than who did not.
use Rattle.std.specs.Prelude.{◌≡◌, ◌<◌, ℕ, true, false, length, All, Some}
use Rattle.rounds.specs.Tables.{Entrant, Table, IsCutoff, entrant, meets, place}

-- only who met the cutoff has more values than its attempts
abbrev pub OnlyMetGoOn : ℕ × ℕ → Table → Type 0
OnlyMetGoOn cutoff t =
    All (λ e. cutoff.0 < length e.values → meets cutoff e.values ≡ true) t.entrants

-- of two entrants one met the cutoff and the other did not: the one has a better place
abbrev pub MetIsBetterIn : ℕ × ℕ → Table → Type 0
MetIsBetterIn cutoff t =
    (n m : ℕ) (one other : Entrant) → entrant t n ≡ Some one → entrant t m ≡ Some other
    → meets cutoff one.values ≡ true → meets cutoff other.values ≡ false
    → place t one < place t other

abbrev pub MetIsBetter : Type 0
MetIsBetter =
    (t : Table) (cutoff : ℕ × ℕ) → IsCutoff t.format (Some cutoff) → OnlyMetGoOn cutoff t
    → MetIsBetterIn cutoff t
