use Rattle.std.proofs.Common.{◌≡◌, map, take}
use Rattle.toml.specs.{Data.string, View.view}
use Rattle.hall_file.proofs.making.value_of.Given as goal

abbrev pub invariant-loop-text : goal.invariant-loop-text
invariant-loop-text l =
    map view l.items.items ≡ map string (map (λ t. t.now) (take l.text-index l.texts))
