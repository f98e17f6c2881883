use Rattle.std.proofs.Common.{◌≡◌, false, map, take, string_bytes}
use Rattle.std.specs.{Prelude.bytes_eq, List.list_any}
use Rattle.hall_file.proofs.members.is_among.Given as goal

abbrev pub invariant-loop-other : goal.invariant-loop-other
invariant-loop-other l =
    list_any (bytes_eq l.text) (map string_bytes (take l.other-index l.texts)) ≡ false
