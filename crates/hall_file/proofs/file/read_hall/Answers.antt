use Rattle.std.proofs.Common.{map, rules, string_bytes}
use Rattle.hall_file.proofs.file.read_hall.Goals as goal

pub returns-in_err-key-clause-err : goal.returns-in_err-key-clause-err
returns-in_err-key-clause-err c =
    let fails =
    c.in_err-key.ensures.err c.in_ok-hall.hall (map string_bytes c.in_ok-desks.desks.items)
    c.in_ok-hall.ensures.ok c.in_ok-desks.ensures.ok in
    search rules
