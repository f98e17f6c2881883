-- How what is known grows (the project's own).
use Rattle.std.specs.Prelude.{◌≡◌, List, ◌++◌, Option, None, Some, ⊤}

-- what is told grows by these, in order; who tells it may stop, and never begins
abbrev pub Tells : {A : Type 0} → Option (List A) → Option (List A) → List A → Type 0
Tells None None more = ⊤
Tells (Some xs) None more = ⊤
Tells None (Some ys) more = ⊥
Tells (Some xs) (Some ys) more = ys ≡ xs ++ more
