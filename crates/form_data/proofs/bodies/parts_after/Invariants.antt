use Rattle.std.proofs.Common.{◌≡◌, ◌-◌, map}
use Rattle.form_data.{specs.Bodies.parts_after, specs.Bodies.shown, proofs.PartLemmas.onto}
use Rattle.form_data.proofs.bodies.parts_after.Given as goal

abbrev pub invariant-loop-taken : goal.invariant-loop-taken
invariant-loop-taken l =
    onto (map shown l.parts.items) (parts_after (64 - l.taken) l.mark l.left)
    ≡ parts_after 64 l.mark l.bytes
