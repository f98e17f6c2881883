use Rattle.std.proofs.Common.{◌≡◌, drop, map}
use Rattle.table_service.specs.Imports.{content_of, named}
use Rattle.table_service.proofs.looking.content_of.Given as goal

abbrev pub invariant-loop-part : goal.invariant-loop-part
invariant-loop-part l =
    content_of l.name (map named (drop l.part-index l.parts))
    ≡ content_of l.name (map named l.parts)
