use Rattle.std.proofs.Common.{refl, rules}
use Rattle.wire.proofs.Told.{standing_told}
use Rattle.serving.proofs.Standings.{promise_fits}
use Rattle.serving.proofs.standing.inspected.Goals as goal

pub returns-clause-in_range : goal.returns-clause-in_range
returns-clause-in_range g c =
    λ version high. record {
      body = (
        high,
        standing_told version _ (record {
          log = search rules;
          queue = search rules;
          promised = promise_fits _ _ _ (search rules) (search rules) c.promised.ensures.real
              c.promised_of-promised.ensures;
          told = c.lengths_of_hall.ensures.in_range;
          differs = c.requires;
        }),
      );
      way = refl;
    }
