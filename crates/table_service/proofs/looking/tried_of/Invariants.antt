use Rattle.std.proofs.Common.{◌≡◌, ◌++◌, drop, map}
use Rattle.table_service.specs.Lists.{paired, tried_as}
use Rattle.table_service.proofs.looking.tried_of.Given as goal

abbrev pub invariant-loop-place : goal.invariant-loop-place
invariant-loop-place l =
    map tried_as l.tried.items ++ paired (drop l.place l.texts) (drop l.place l.answers)
    ≡ paired l.texts l.answers
