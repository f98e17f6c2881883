use Rattle.table_service.proofs.Kept.{put_done}
use Rattle.table_service.proofs.journal_file.put.Goals as goal

pub returns : goal.returns
returns g c =
    put_done c.args.bytes.now c.append.result c.sync.result (g.D.Disk.holds c.args.disk.now)
    (g.D.Disk.holds c.append.new.self) (g.D.Disk.holds c.sync.new.self) c.if-not-append.false
    c.append.ensures c.sync.ensures
