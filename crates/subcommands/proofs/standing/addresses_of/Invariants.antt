use Rattle.std.proofs.Common.{◌≡◌, map, take}
use Rattle.std.specs.Prelude.{string_bytes}
use Rattle.subcommands.proofs.standing.addresses_of.Given as goal

-- the addresses so far are those of the first desks
abbrev pub invariant-loop-desk : goal.invariant-loop-desk
invariant-loop-desk l =
    map (λ t. t.now) l.texts.items ≡ map string_bytes (take l.desk-index l.hall.desks.items)
