use Rattle.sqlite.specs.Files.{file_state}
use Rattle.desk_file.proofs.Opened.{is_there, other_on, there_on}
use Rattle.desk_file.proofs.opening.open_keeper_there.Goals as goal

pub returns-clause-opened : goal.returns-clause-opened
returns-clause-opened g c =
    there_on _ _ c.args.home (file_state c.in-Ok.conn) c.open.result c.in-Ok.ensures.opened
    c.in-Ok.ensures.found
    (is_there c.has_nothing.result _ c.has_nothing.ensures.1 c.if-has_nothing.false)
    c.open.ensures.home c.open.ensures.failures c.open.ensures.settled c.open.ensures.opened

pub returns-clause-wrong : goal.returns-clause-wrong
returns-clause-wrong g c =
    other_on _ _ c.args.home (file_state c.in-Ok.conn) c.open.result c.in-Ok.ensures.opened
    c.in-Ok.ensures.found c.open.ensures.told
