-- The values of one entrant.
use Rattle.std.specs.Prelude.{List}
use Rattle.attempts.specs.declared.Value.{Value}

abbrev pub Values : Type 0
Values = List Value
