use Rattle.store.proofs.Leaving.{leaves_alone}
use Rattle.store.proofs.lent_keeper.save_to.Goals as goal

pub returns-clause-leaves : goal.returns-clause-leaves
returns-clause-leaves g c honest s log k fit =
    leaves_alone (g.K.Keeper.keeps c.save.new.self) (g.K.Keeper.may_hold c.save.new.self)
    (g.K.Keeper.may_break c.save.new.self) s log c.args.change.now c.save.result
    (λ t more kept. g.met.K.Keeper.alone c.save.new.self t more honest kept)
    (c.save.ensures.leaves honest s log k fit)
