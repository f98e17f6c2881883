use Rattle.std.proofs.Common.{◌<◌, ◌-◌, ap, sym, ◌∙◌, subst}
use Rattle.hall.{specs.world.model.Halls.HallValue, proofs.world.Happening.submit_follows}
use Rattle.hall.proofs.world.Places.{here_at, numbered_set, place_less}
use Rattle.hall.proofs.world.desks.Desks.submit.Goals as goal

pub index_mut-requires : goal.index_mut-requires
index_mut-requires c =
    let ours = sym c.is_desk.ensures ∙ c.if-not-is_desk.false in
    subst (λ m. c.args.desk - 1 < m) (sym c.self.inside.desks.ok.0)
    (place_less c.self.inside.count c.args.desk c.self.inside.desks.items c.self.invariant ours)

pub invariant_of-self : goal.invariant_of-self
invariant_of-self c =
    let ours = sym c.is_desk.ensures ∙ c.if-not-is_desk.false in
    let here = here_at c.self.inside.count c.args.desk c.self.inside.desks.items
    c.index_mut.result.now c.self.invariant ours c.index_mut.ensures.value in
    numbered_set c.self.inside.count c.args.desk c.self.inside.desks.items c.index_mut.result.now
    c.submit.new.desk c.self.invariant here c.submit.ensures.same.0 c.submit.ensures.same.1

pub returns : goal.returns
returns c =
    let ours = sym c.is_desk.ensures ∙ c.if-not-is_desk.false in
    let all = submit_follows c.self.inside.count c.args.desk c.self.inside.desks.items
    c.index_mut.result.now c.submit.new.desk c.self.inside.sent.items c.submit.result
    c.in_ok-entry.entry c.args.entry.now c.in_ok-entry.ensures c.args.self.now c.self.view_is
    c.self.invariant ours c.index_mut.ensures.value c.submit.ensures.ok c.submit.ensures.err in
    record {
      world = all.world;
      same = ap (λ (h : HallValue). h.desks) c.self.view_is;
      refused = all.refused;
      err = all.err;
    }
