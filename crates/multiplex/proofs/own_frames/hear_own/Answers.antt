use Rattle.std.proofs.Common.{◌≡◌, refl, sym, ap, subst, inl, inr, ◌∙◌, List, ℕ, rules}
use Rattle.serving.specs.Turns.{Receives, Talk, WantsRead}
use Rattle.multiplex.specs.model.{Ticks.desks, Visiting.HearsBytes}
use Rattle.multiplex.proofs.Heard.{hears_off, hears_on}
use Rattle.multiplex.proofs.own_frames.hear_own.Goals as goal

pub returns-then-not-hears-clause-hears : goal.returns-then-not-hears-clause-hears
returns-then-not-hears-clause-hears g c =
    hears_off g.D.Desk g.L.Peers g.L.OwnLinks.waiting c.args.hears _ _
    (desks c.args.node.now c.args.links.now) c.if-not-hears.true

pub returns-then-is_empty-clause-hears : goal.returns-then-is_empty-clause-hears
returns-then-is_empty-clause-hears g c =
    hears_on g.D.Desk g.L.Peers g.L.OwnLinks.waiting c.args.hears _ _
    (desks c.args.node.now c.args.links.now) (desks c.args.node.now c.own-frames.new.self)
    c.if-not-hears.false (record {
      taken = c.own-frames.new.self;
      none = c.own-frames.ensures.none;
      handed = c.own-frames.ensures.handed;
      heard = inl refl;
    })

pub returns-in_default-clause-hears : goal.returns-in_default-clause-hears
returns-in_default-clause-hears g c =
    hears_on g.D.Desk g.L.Peers g.L.OwnLinks.waiting c.args.hears _ _
    (desks c.args.node.now c.args.links.now) (desks c.args.node.now c.own-frames.new.self)
    c.if-not-hears.false (record {
      taken = c.own-frames.new.self;
      none = c.own-frames.ensures.none;
      handed = c.own-frames.ensures.handed;
      heard = inl refl;
    })

pub receive-requires : goal.receive-requires
receive-requires g c =
    subst (λ (t : Talk). WantsRead t) (sym c.in-Ok.ensures)
    (record { free = record { unended = refl; taken = refl }; served = refl; unbroken = refl })

pub hear-requires : goal.hear-requires
hear-requires g c = record {
  home = sym (c.receive.ensures.0.home ∙ ap (λ (t : Talk). t.home) c.in-Ok.ensures);
}

pub returns-clause-hears : goal.returns-clause-hears
returns-clause-hears g c =
    let a = desks c.args.node.now c.own-frames.new.self in
    let b = desks c.hear.new.node c.hear.new.peers in
    let frames : c.deref.result.now ≡ c.own-frames.result.items = search rules in
    hears_on g.D.Desk g.L.Peers g.L.OwnLinks.waiting c.args.hears _ _
    (desks c.args.node.now c.args.links.now) b c.if-not-hears.false (record {
      taken = c.own-frames.new.self;
      none = c.own-frames.ensures.none;
      handed = c.own-frames.ensures.handed;
      heard =
          inr (subst (λ (z : List ℕ). HearsBytes g.D.Desk g.L.Peers c.args.wire
          (g.D.Desk.home_of c.args.node.now) z a b) (frames ∙ c.own-frames.ensures.frames) (
            c.receive.new.self,
            c.hear.new.talk,
            subst (λ (t : Talk). Receives c.deref.result.now t c.receive.new.self) c.in-Ok.ensures
                c.receive.ensures,
            c.hear.ensures.hears,
          ));
    })
