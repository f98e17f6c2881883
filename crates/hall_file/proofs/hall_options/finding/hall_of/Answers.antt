use Rattle.std.proofs.Common.{◌∙◌, refl, sym}
use Rattle.clap.specs.Words.{found_of}
use Rattle.hall_file.proofs.hall_options.Found.{of_file}
use Rattle.hall_file.proofs.hall_options.finding.hall_of.Goals as goal

pub returns-clause-ok : goal.returns-clause-ok
returns-clause-ok c =
    of_file (found_of c.args.found.now) c.get_str.result c.in_ok-file.file
    (record { hall = c.in_ok-file.file.hall; desks = c.in_ok-desks.desks; key = c.in_ok-key.key })
    c.get_str.ensures (sym c.is_some.ensures ∙ c.if-is_some.false) c.in_ok-file.ensures.ok
    (record { number = refl; desks = c.in_ok-desks.ensures.ok; key = c.in_ok-key.ensures.ok })
