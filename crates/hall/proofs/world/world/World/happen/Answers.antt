use Rattle.std.proofs.Common.{◌≡◌, List, [], ◌∷◌, ◌++◌, sym, ◌∙◌, subst}
use Rattle.learner.specs.declared.event.WorldEvent.{WorldEvent}
use Rattle.hall.{specs.world.model.Halls.IsAfter, proofs.world.Happening.after_more}
use Rattle.hall.proofs.world.world.World.happen.Goals as goal

pub invariant_of-self-2 : goal.invariant_of-self-2
invariant_of-self-2 c =
    let done = after_more c.self.inside.hall c.happen.new.self c.self.inside.events.items
    c.args.event.now c.self.inside.refused c.in_ok-self-inside.field-0 c.self.invariant
    c.happen.ensures.same c.in_ok-self-inside.ensures.world c.in_ok-self-inside.ensures.refused in
    let reserved = c.in_ok-reserve.ensures.items in
    let copied = c.in_ok-done.ensures in
    let items : c.push_reserved.new.self.items
    ≡ c.self.inside.events.items ++ c.args.event.now ∷ [] = c.push_reserved.ensures.items
    ∙ (λ i. reserved i ++ copied i ∷ []) in
    subst (λ (es : List WorldEvent). IsAfter c.happen.new.self es c.in_ok-self-inside.field-0)
    (sym items) done
