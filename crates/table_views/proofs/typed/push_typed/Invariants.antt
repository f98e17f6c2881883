use Rattle.std.proofs.Common.{◌≡◌, ◌++◌, drop}
use Rattle.table_views.specs.Typed.{typed_from}
use Rattle.table_views.proofs.typed.push_typed.Given as goal

-- what was written, and what is written for those that are left, is the whole
abbrev pub invariant-loop-place : goal.invariant-loop-place
invariant-loop-place l =
    l.out.items ++ typed_from l.unit l.was l.place (drop l.place l.now)
    ≡ l.initial.out.items ++ typed_from l.unit l.was 0 l.now
