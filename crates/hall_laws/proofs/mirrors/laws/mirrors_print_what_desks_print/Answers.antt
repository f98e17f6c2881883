use Rattle.hall_laws.proofs.mirrors.Fronts.{hall_mirrors_hold_fronts, hall_mirrors_print_alike}
use Rattle.hall_laws.proofs.mirrors.laws.mirrors_print_what_desks_print.Goals as goal

pub returns-clause-fronts : goal.returns-clause-fronts
returns-clause-fronts g c =
    hall_mirrors_hold_fronts _ c.copies_are_of_logs.ensures.copies
    c.halls_are_runs.ensures.logs_agree c.mirrors_hold_fronts.ensures.fronts

pub returns-clause-alike : goal.returns-clause-alike
returns-clause-alike g c =
    hall_mirrors_print_alike _ c.copies_are_of_logs.ensures.copies
    c.halls_are_runs.ensures.logs_agree c.mirrors_hold_fronts.ensures.fronts
    c.mirrors_hold_fronts.ensures.alike
