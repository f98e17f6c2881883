use Rattle.outbox.proofs.Halls.{names_one_hall, of_this_hall_alone}
use Rattle.outbox.proofs.laws.names_one_hall.Goals as goal

pub returns : goal.returns
returns c = record { line = names_one_hall; journal = of_this_hall_alone }
