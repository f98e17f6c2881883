-- Who can withdraw from a round (the project's own).
use Rattle.std.specs.Prelude.{ℕ, Bool, is_some, not}
use Rattle.rounds.specs.Tables.{Table, withdraw_fault}

-- nothing in the round refuses it: the round is open, and the competitor is in it and has no
-- attempt
abbrev pub may_leave : Table → ℕ → Bool
may_leave t number = not (is_some (withdraw_fault t number))
