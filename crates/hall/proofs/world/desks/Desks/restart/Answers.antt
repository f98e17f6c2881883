use Rattle.std.proofs.Common.{◌<◌, ◌-◌, ap, sym, ◌∙◌, subst}
use Rattle.learner.specs.Worlds.{restart_at}
use Rattle.hall.specs.world.model.Halls.{HallValue, world_of}
use Rattle.replica.specs.roles.model.RunningDesks.{RunningDesk}
use Rattle.hall.proofs.world.Places.{here_at, numbered_set, place_less}
use Rattle.hall.proofs.world.Happening.{restart_world}
use Rattle.hall.proofs.world.desks.Desks.restart.Goals as goal

pub index_mut-requires : goal.index_mut-requires
index_mut-requires c =
    let ours = sym c.is_desk.ensures ∙ c.if-is_desk.true in
    subst (λ m. c.args.desk - 1 < m) (sym c.self.inside.desks.ok.0)
    (place_less c.self.inside.count c.args.desk c.self.inside.desks.items c.self.invariant ours)

pub invariant_of-self : goal.invariant_of-self
invariant_of-self c =
    let ours = sym c.is_desk.ensures ∙ c.if-is_desk.true in
    let here = here_at c.self.inside.count c.args.desk c.self.inside.desks.items
    c.index_mut.result.now c.self.invariant ours c.index_mut.ensures.value in
    let new = c.in_ok-restart.ensures.ok in
    numbered_set c.self.inside.count c.args.desk c.self.inside.desks.items c.index_mut.result.now
    c.restart.new.self c.self.invariant here (ap (λ (x : RunningDesk). x.number) new)
    (ap (λ (x : RunningDesk). x.desks) new)

pub returns-in_ok-restart-clause-world : goal.returns-in_ok-restart-clause-world
returns-in_ok-restart-clause-world c =
    let ours = sym c.is_desk.ensures ∙ c.if-is_desk.true in
    let here = here_at c.self.inside.count c.args.desk c.self.inside.desks.items
    c.index_mut.result.now c.self.invariant ours c.index_mut.ensures.value in
    let next =
    restart_world c.self.inside.count c.args.desk c.self.inside.desks.items c.index_mut.result.now
    c.restart.new.self c.self.inside.sent.items ours here
    (ap (λ (x : RunningDesk). x.desk) c.in_ok-restart.ensures.ok) in
    next ∙ ap (λ (h : HallValue). restart_at h.desks (world_of h) c.args.desk) c.self.view_is
