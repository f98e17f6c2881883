use Rattle.std.proofs.Common.{sym, ap, subst, inr, ◌∙◌, ◌||◌}
use Rattle.serving.specs.OwnTicks.{sides_alone}
use Rattle.multiplex.{specs.Passing.TicksBy, proofs.Looking.own_same, proofs.Looking.ticks_by}
use Rattle.multiplex.proofs.own_ticks.OwnTicks.tick_if_due.Goals as goal

pub returns-clause-ticks : goal.returns-clause-ticks
returns-clause-ticks g c =
    let starved = c.is_err-starved.result in
    let old = c.args.self.now in
    let home = g.D.Desk.home_of c.args.node.now in
    let a = sides_alone g.D.Desk g.P.Peers c.args.wire c.args.node.now c.args.peers.now in
    let b = sides_alone g.D.Desk g.P.Peers c.args.wire c.tick.new.node c.tick.new.peers in
    inr (
      starved,
      record {
        due = sym c.if-not-look.ensures.due;
        tick =
            subst (λ z. TicksBy z home a b) (sym c.is_err-starved.ensures.value)
            (ticks_by c.tick.result home a b c.tick.ensures.ok c.tick.ensures.err);
        own =
            c.note.ensures
            ∙ own_same c.look.ensures.after (ap (λ z. starved || z) c.look.ensures.starved);
        ends = c.over_if_down.ensures;
      },
    )
