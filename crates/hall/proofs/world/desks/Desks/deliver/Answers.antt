use Rattle.std.proofs.Common.{◌≡◌, ◌<◌, ◌-◌, Some, slice_get, ap, sym, ◌∙◌, subst}
use Rattle.hall.{specs.world.model.Halls.HallValue, proofs.world.Happening.deliver_follows}
use Rattle.hall.proofs.world.Places.{here_at, numbered_set, place_less}
use Rattle.hall.proofs.world.desks.Desks.deliver.Goals as goal

pub index_mut-requires : goal.index_mut-requires
index_mut-requires c =
    let ours = sym c.is_desk.ensures ∙ c.if-not-is_desk.false in
    subst (λ m. c.in-Some.message.now.to - 1 < m) (sym c.self.inside.desks.ok.0)
    (place_less c.self.inside.count c.in-Some.message.now.to c.self.inside.desks.items
    c.self.invariant ours)

pub invariant_of-self : goal.invariant_of-self
invariant_of-self c =
    let ours = sym c.is_desk.ensures ∙ c.if-not-is_desk.false in
    let here = here_at c.self.inside.count c.in-Some.message.now.to c.self.inside.desks.items
    c.index_mut.result.now c.self.invariant ours c.index_mut.ensures.value in
    numbered_set c.self.inside.count c.in-Some.message.now.to c.self.inside.desks.items
    c.index_mut.result.now c.deliver.new.desk c.self.invariant here c.deliver.ensures.same.0
    c.deliver.ensures.same.1

pub returns : goal.returns
returns c =
    let ours = sym c.is_desk.ensures ∙ c.if-not-is_desk.false in
    let some : ¬ (c.args.k ≡ 0) = c.if-k-eq0.false in
    let there : slice_get c.self.inside.sent.items (c.args.k - 1) ≡ Some c.in-Some.message.now =
    sym (c.in-Some.ensures ∙ ap (λ xs. slice_get xs (c.args.k - 1)) c.deref.ensures.value) in
    let all = deliver_follows c.self.inside.count c.self.inside.desks.items c.index_mut.result.now
    c.deliver.new.desk c.self.inside.sent.items c.deliver.new.sent.items c.deliver.result c.args.k
    c.in-Some.message.now some there c.args.self.now c.self.view_is c.self.invariant ours
    c.index_mut.ensures.value c.deliver.ensures.ok c.deliver.ensures.err in
    record {
      world = all.world;
      same = ap (λ (h : HallValue). h.desks) c.self.view_is;
      refused = all.refused;
      err = all.err;
    }
