-- What came of one browser of many (the project's own).
use Rattle.std.specs.Prelude.{ℕ, ◌==◌, if◌then◌else◌, List, [], flat_map}
use Rattle.polled.specs.Happenings.{Happened, Gave, Took}

-- the bytes of this browser that were read, and those that it took, at one happening
abbrev pub gave_at : ℕ → Happened → List ℕ
gave_at k (Gave j bytes) = if j == k then bytes else []
gave_at k _ = []

abbrev pub took_at : ℕ → Happened → List ℕ
took_at k (Took j bytes) = if j == k then bytes else []
took_at k _ = []

-- and of all that happened
abbrev pub gave : ℕ → List Happened → List ℕ
gave k hs = flat_map (gave_at k) hs

abbrev pub took : ℕ → List Happened → List ℕ
took k hs = flat_map (took_at k) hs
