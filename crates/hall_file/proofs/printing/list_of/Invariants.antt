use Rattle.std.proofs.Common.{◌≡◌, map, take, string_bytes}
use Rattle.toml.specs.{Data.string, View.view}
use Rattle.hall_file.proofs.printing.list_of.Given as goal

abbrev pub invariant-loop-desk : goal.invariant-loop-desk
invariant-loop-desk l =
    map view l.items.items ≡ map string (map string_bytes (take l.desk-index l.desks))
