use Rattle.std.proofs.{Common.refl, Common.arith, lemmas.Grind.common_steps}
use Rattle.seal.specs.Records.{record_of}
use Rattle.seal.proofs.sealer.Sealer.seal.Goals as goal

pub returns-clause-sealed : goal.returns-clause-sealed
unfolding record_of
returns-clause-sealed c =
    rw (← c.self.view_is)
    (record {
      sealed = grind (arith, common_steps);
      good = ((grind (arith, c.if-is_empty.ensures), omega arith), omega arith);
      counted = refl;
    })
