use Rattle.std.proofs.Common.{refl, sym, subst, arith, rules}
use Rattle.serving.{specs.Turns.IsFree, proofs.Turning.advances_as, proofs.Turning.left_at}
use Rattle.serving.proofs.connection.Connection.advance.Goals as goal

pub returns-in-Ok-clause-turn : goal.returns-in-Ok-clause-turn
returns-in-Ok-clause-turn g c =
    let is_free : IsFree c.args.self.now = search rules in
    let free = subst IsFree (sym c.self.view_is) is_free in
    let few = c.self.invariant.3 free.unended in
    let ok = c.in-Ok.ensures.ok in
    advances_as g.D.Desk g.P.Peers _ _ _ _ c.args.may c.args.differs _ _ _ c.self.view_is (
      record {
        frame = c.in-Some.frame;
        may = c.args.may;
        differs = c.args.differs;
        fates = ok.0;
      },
      record {
        free = free;
        next = c.in-Some.ensures.items;
        counted = refl;
        few = omega (arith, few);
        home = refl;
        wire = refl;
        stream = refl;
      },
      left_at c.self.inside.session.home _ _ _ _ _ _ _ c.in-Ok.reply.close _ _ free.taken
          c.end_after-self-inside.ensures (omega (arith, few)) ok.1,
      refl,
      refl,
    )
