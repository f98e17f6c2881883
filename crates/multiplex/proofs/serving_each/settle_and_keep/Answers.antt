use Rattle.std.proofs.Common.{refl, ◌∙◌}
use Rattle.multiplex.proofs.Looking.{kept_at}
use Rattle.multiplex.proofs.serving_each.settle_and_keep.Goals as goal

pub returns-clause-settles : goal.returns-clause-settles
returns-clause-settles g c =
    let h = c.if-not-settle.ensures.settles in
    record {
      between = h.between;
      hears = h.hears;
      settles = h.settles;
      seen = h.seen;
      handed = c.keep_links.ensures.handed ∙ h.handed;
    }

pub returns-clause-kept : goal.returns-clause-kept
returns-clause-kept g c so =
    kept_at c.args.now (g.L.PeerLinks.kept c.settle.new.links)
    (g.L.PeerLinks.kept c.keep_links.new.links) (g.L.PeerLinks.kept c.keep_links.new.links)
    c.keep_links.ensures.kept refl

pub returns-clause-heard : goal.returns-clause-heard
returns-clause-heard g c = c.if-not-settle.ensures.heard

pub returns-then-not-settle-clause-heard : goal.returns-then-not-settle-clause-heard
returns-then-not-settle-clause-heard g c = c.if-not-settle.ensures.heard
