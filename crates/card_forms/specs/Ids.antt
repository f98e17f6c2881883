-- The ids of forms (the project's own).
use Rattle.std.specs.Prelude.{ℕ, ◌-◌, ◌^◌, ◌≤◌}

-- there are 16,384 ids for the entries of a form, from its own on, and all of them may be used
abbrev pub IsFormId : ℕ → Type 0
IsFormId number = (1 ≤ number) × (number ≤ 2 ^ 63 - 16384)
