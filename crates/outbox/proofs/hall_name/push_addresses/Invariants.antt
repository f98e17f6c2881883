use Rattle.std.proofs.Common.{◌≡◌, ◌++◌, ◌∷◌, drop, map}
use Rattle.std.specs.{Prelude.string_bytes, List.flat_map}
use Rattle.outbox.proofs.hall_name.push_addresses.Given as goal

abbrev pub invariant-loop-address : goal.invariant-loop-address
invariant-loop-address l =
    l.line.items
    ++ flat_map (λ address. 32 ∷ address) (map string_bytes (drop l.address-index l.addresses))
    ≡ l.fn.line.items ++ flat_map (λ address. 32 ∷ address) (map string_bytes l.addresses)
