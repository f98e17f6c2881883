use Rattle.std.proofs.Common.{◌<◌, ◌-◌, ap, sym, ◌∙◌, subst}
use Rattle.learner.specs.declared.event.DeskEvent.TheVariants.{Tick}
use Rattle.hall.{specs.world.model.Halls.HallValue, proofs.world.Happening.seen_follows}
use Rattle.hall.proofs.world.Places.{here_at, numbered_set, place_less}
use Rattle.hall.proofs.world.desks.Desks.tick.Goals as goal

pub index_mut-requires : goal.index_mut-requires
index_mut-requires c =
    let ours = sym c.is_desk.ensures ∙ c.if-not-is_desk.false in
    subst (λ m. c.args.desk - 1 < m) (sym c.self.inside.desks.ok.0)
    (place_less c.self.inside.count c.args.desk c.self.inside.desks.items c.self.invariant ours)

pub invariant_of-self : goal.invariant_of-self
invariant_of-self c =
    let ours = sym c.is_desk.ensures ∙ c.if-not-is_desk.false in
    let here = here_at c.self.inside.count c.args.desk c.self.inside.desks.items
    c.index_mut.result.now c.self.invariant ours c.index_mut.ensures.value in
    numbered_set c.self.inside.count c.args.desk c.self.inside.desks.items c.index_mut.result.now
    c.tick.new.desk c.self.invariant here c.tick.ensures.same.0 c.tick.ensures.same.1

pub returns : goal.returns
returns c =
    let ours = sym c.is_desk.ensures ∙ c.if-not-is_desk.false in
    let all = seen_follows c.self.inside.count c.args.desk c.self.inside.desks.items
    c.index_mut.result.now c.tick.new.desk c.self.inside.sent.items c.tick.new.sent.items
    c.tick.result Tick c.args.self.now c.self.view_is c.self.invariant ours
    c.index_mut.ensures.value c.tick.ensures.ok c.tick.ensures.err in
    record {
      world = all.world;
      same = ap (λ (h : HallValue). h.desks) c.self.view_is;
      refused = all.refused;
      err = all.err;
    }
