use Rattle.std.proofs.Common.{◌≡◌, ◌++◌, length}
use Rattle.std.specs.Option.{option_map}
use Rattle.table_service.{specs.Undoing.back_at, specs.Undoing.back_of, proofs.Undone.back_from}
use Rattle.table_service.proofs.undoing.back_of.Given as goal

abbrev pub invariant-loop-place : goal.invariant-loop-place
invariant-loop-place l = record {
  end : l.place-end ≡ length l.was;
  back : option_map (λ rest. l.now.items ++ rest)
      (back_from (back_at l.unit l.limit l.left l.was) l.place (length l.was))
      ≡ back_of l.unit l.limit l.left l.was;
}
