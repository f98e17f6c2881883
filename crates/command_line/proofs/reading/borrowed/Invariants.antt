use Rattle.std.proofs.Common.{◌≡◌, map, take}
use Rattle.std.specs.Prelude.{string_bytes}
use Rattle.command_line.specs.Arguments.{argument_texts}
use Rattle.command_line.proofs.reading.borrowed.Given as goal

-- the arguments so far are those of the first texts
abbrev pub invariant-loop-text : goal.invariant-loop-text
invariant-loop-text l = argument_texts l.given.items ≡ map string_bytes (take l.text-index l.texts)
