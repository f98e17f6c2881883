use Rattle.std.proofs.Common.{[], refl, arith}
use Rattle.ticking.proofs.{Kept.reached_ticker, Still.ticks_where_nothing}
use Rattle.ticking.specs.Worked.{worked}
use Rattle.ticking.proofs.laws.ticks_where_nothing_happens.Goals as goal

pub returns-clause-ticks : goal.returns-clause-ticks
returns-clause-ticks c = λ t log first looks last reached.
    ticks_where_nothing t log first looks last (reached_ticker t reached)

pub returns-clause-example : goal.returns-clause-example
returns-clause-example c =
    record {
      ticks = refl;
      made =
          record {
            start = worked;
            moment = 0;
            made =
                record {
                  log = 5;
                  period = (omega arith, omega arith);
                  desk = record { first = omega arith; last = omega arith; most = omega arith };
                  made = refl;
                };
            looks = [];
            ran = refl;
          };
      still =
          record {
            still = ((refl, omega arith), ((refl, omega arith), ((refl, omega arith), tt)));
            begun = omega arith;
            late = omega arith;
          };
    }
