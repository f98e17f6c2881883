use Rattle.std.proofs.Common.{map, take}
use Rattle.serve.specs.Addresses.{AreFoundFor}
use Rattle.serve.proofs.hall.addresses_of.Given as goal

-- what was found for the texts so far
abbrev pub invariant-loop-text : goal.invariant-loop-text
invariant-loop-text g l = AreFoundFor (map (λ t. t.now) (take l.text-index l.texts)) l.found.items
