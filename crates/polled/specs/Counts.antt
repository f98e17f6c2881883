-- How many bytes are read and written at once (the project's own).
use Rattle.std.specs.Prelude.{◌≤◌, ℕ}
use Rattle.polled.specs.declared.answers.{ReadOutcome.ReadOutcome, WriteOutcome.WriteOutcome}
use Rattle.polled.specs.declared.answers.ReadOutcome.TheVariants as given_is
use Rattle.polled.specs.declared.answers.WriteOutcome.TheVariants as taken_is

-- a read gives at least one byte, and at most as many as the buffer holds
abbrev pub CountsGiven : ℕ → ReadOutcome → Type 0
CountsGiven most (given_is.Bytes count) = (1 ≤ count) × (count ≤ most)
CountsGiven most given_is.Later = Unit {0}
CountsGiven most given_is.Ended = Unit {0}
CountsGiven most given_is.Broke = Unit {0}

-- a write takes at least one byte, and at most as many as there are
abbrev pub CountsTaken : ℕ → WriteOutcome → Type 0
CountsTaken most (taken_is.Bytes count) = (1 ≤ count) × (count ≤ most)
CountsTaken most taken_is.Later = Unit {0}
CountsTaken most taken_is.Broke = Unit {0}
