-- What a call adds to a text (the project's own).
use Rattle.std.specs.Prelude.{◌≡◌, ℕ, List, ◌++◌}

-- a text of which this holds was added at the end, and nothing else changed
abbrev pub Adds : (old new : List ℕ) → (List ℕ → Type 0) → Type 0
Adds old new Holds = (added : List ℕ) × Holds added × (new ≡ old ++ added)
