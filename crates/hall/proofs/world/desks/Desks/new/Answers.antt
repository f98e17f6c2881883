use Rattle.std.proofs.Common.{◌≡◌, ◌≤◌, ◌+◌, List, ap, sym, ◌∙◌, subst, arith}
use Rattle.std.proofs.lemmas.Grind.{common_steps}
use Rattle.replica.specs.roles.{model.RunningDesks.RunningDesk, Opening.opened}
use Rattle.hall.proofs.world.Happening.{FirstPlaces, first_more, first_numbered, first_world}
use Rattle.hall.proofs.world.desks.Desks.new.Goals as goal

pub loop-number-preserved : goal.loop-number-preserved
loop-number-preserved c =
    let made = c.in_ok-desk.ensures in
    let stored = c.new-in-loop-number.ensures in
    let log = c.in_ok-log.ensures in
    let grown =
    first_more c.args.count 1 c.loop-number.number c.loop-number.desks.items c.in_ok-desk.desk
    c.loop-number.invariant.1 (ap (λ (z : RunningDesk). z.number) made)
    (ap (λ (z : RunningDesk). z.desks) made)
    (ap (λ (z : RunningDesk). z.desk) made ∙ (λ i. opened (stored i) ((log i).entries))) in
    let more : 1 ≤ c.loop-number.number + 1 = omega arith in (
      more,
      subst (λ (xs : List RunningDesk). FirstPlaces c.args.count 1 (c.loop-number.number + 1) xs)
          (sym c.in_ok-push.ensures.items) grown,
    )

pub invariant_of-result : goal.invariant_of-result
invariant_of-result c =
    let last : c.loop-number.number ≡ c.args.count + 1 = grind (arith, common_steps) in
    first_numbered c.args.count 1 c.loop-number.desks.items
    (subst (λ n. FirstPlaces c.args.count 1 n c.loop-number.desks.items) last
    c.loop-number.invariant.1)

pub returns-clause-world : goal.returns-clause-world
returns-clause-world c =
    first_world c.args.count c.loop-number.number c.loop-number.desks.items c.new-2.result.items
    c.loop-number.invariant.1 c.new-2.ensures.items
