use Rattle.table_service.proofs.OverFiles.{is_over}
use Rattle.table_service.proofs.journal_file.read_over.Goals as goal

pub returns : goal.returns
returns g c =
    is_over c.args.hall.now c.args.now c.in_ok-journal.journal.whole c.args.bytes.now
    (g.D.Disk.holds c.args.disk) c.in_ok-journal.journal.outbox c.in_ok-file.file c.requires
    c.in_ok-journal.ensures.items c.in_ok-journal.ensures.new c.in_ok-journal.ensures.whole
    c.in_ok-file.ensures
