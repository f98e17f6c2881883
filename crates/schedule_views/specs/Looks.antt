-- How times look, and how they keep up with the clock (the project's own).
use Rattle.std.specs.Prelude.{ℕ, List}
use Rattle.schedule_views.specs.declared.looks.TheConstants.{TIMES}

unfoldable pub times : List ℕ
times = TIMES.now
