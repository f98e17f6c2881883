-- How long it is waited for a client (the project's own).
use Rattle.std.specs.Prelude.{ℕ, ◌==◌, min, if◌then◌else◌, Option, None, Some}

-- when it was ready last, after a visit at this time: that stays where the record of it that has
-- begun is one that had begun before the visit
abbrev pub ready_after : ℕ → Option ℕ → Option ℕ → ℕ → ℕ
ready_after time None after ready = time
ready_after time (Some n) None ready = time
ready_after time (Some n) (Some m) ready = if n == m then ready else time

-- for how long it is waited for: ten seconds and a round at most while a record of it comes
abbrev pub waited_for : ℕ → Option ℕ → ℕ
waited_for patience None = patience
waited_for patience (Some n) = min patience 11000
