use Rattle.std.proofs.Common.{◌≡◌, ◌+◌, ◌≤◌, List, Option, length}
use Rattle.learner.specs.Ranges.{AreInRange}
use Rattle.wire.specs.declared.values.Version.{Version}
use Rattle.serving.specs.{Adding.Push, model.Reaching.at, Serving.learn}
use Rattle.serving.{specs.Making.outside_of, specs.Making.speaking, proofs.Delivered.ComesSo}
use Rattle.serving.proofs.session.Session.deliver_each.Given as goal

-- what is to be done comes to what is left of it
abbrev pub invariant-loop-entry : goal.invariant-loop-entry
invariant-loop-entry g l = record {
  range : AreInRange l.fn.self.home.desks l.fn.self.home.desk l.waiting.items;
  home : g.D.Desk.home_of l.node ≡ l.fn.self.home;
  most : l.pos + length l.entries.items ≤ 65536;
  so_far : (wire : Version) (handed : Option (List Push))
      → ComesSo l.fn.self.home (learn l.fn.self.home l.from l.to l.fn.run.pos l.fn.run.entries)
      (at (g.D.Desk.seen l.initial.node) l.initial.waiting.items)
      (learn l.fn.self.home l.from l.to l.pos l.entries.items)
      (at (g.D.Desk.seen l.node) l.waiting.items)
      (outside_of (speaking g.D.Desk.handles g.D.Desk.settles wire) l.initial.node handed)
      (outside_of (speaking g.D.Desk.handles g.D.Desk.settles wire) l.node handed);
}

abbrev pub decreases-loop-entry : goal.decreases-loop-entry
decreases-loop-entry g l = length l.entries.items
