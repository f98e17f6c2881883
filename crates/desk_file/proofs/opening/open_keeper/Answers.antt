use Rattle.sqlite.specs.Files.{file_state}
use Rattle.desk_file.proofs.Opened.{opened_on, other_on}
use Rattle.desk_file.proofs.opening.open_keeper.Goals as goal

pub returns-in-Ok-clause-opened : goal.returns-in-Ok-clause-opened
returns-in-Ok-clause-opened g c =
    opened_on _ _ c.args.home (file_state c.in-Ok.conn) c.open.result c.in-Ok.ensures.opened
    c.in-Ok.ensures.found c.open.ensures.home c.open.ensures.failures c.open.ensures.settled
    c.open.ensures.opened

pub returns-in-Ok-clause-wrong : goal.returns-in-Ok-clause-wrong
returns-in-Ok-clause-wrong g c =
    other_on _ _ c.args.home (file_state c.in-Ok.conn) c.open.result c.in-Ok.ensures.opened
    c.in-Ok.ensures.found c.open.ensures.told
