use Rattle.std.proofs.Common.{refl}
use Rattle.multiplex.proofs.Heard.{own_where}
use Rattle.multiplex.specs.model.Ticks.{desks}
use Rattle.multiplex.proofs.own_frames.settle.Goals as goal

pub returns-clause-settles : goal.returns-clause-settles
returns-clause-settles g c = record {
  between = desks c.hear_own.new.node c.hear_own.new.links;
  hears =
      own_where g.D.Desk g.L.Peers g.L.OwnLinks.waiting c.args.hears _ _ _ _
      c.hear_own.ensures.hears;
  settles = c.settle.ensures.settles;
  seen = c.settle.ensures.seen;
  handed = refl;
}

pub returns-clause-heard : goal.returns-clause-heard
returns-clause-heard g c = (
  desks c.hear_own.new.node c.hear_own.new.links,
  c.hear_own.ensures.hears,
  c.settle.ensures.settles,
)
