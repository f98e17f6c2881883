use Rattle.std.proofs.Common.{◌%◌, ◌<◌, ap, sym, subst, ◌∙◌, arith}
use Rattle.sqlite_disk.specs.Disk.{Holds}
use Rattle.desk_file.proofs.Marking.{field_read}
use Rattle.desk_file.proofs.mark.uses_of.Goals as goal

pub returns-clause-ok : goal.returns-clause-ok
returns-clause-ok g c clean long =
    let db = g.D.Disk.seen c.args.db.now in
    let holds : Holds db 60 c.read_at.new.buf =
    c.in_ok-read_at.ensures.read clean (omega arith) in
    c.count_in.ensures.count
    ∙ ap (λ n. n % 0x100_0000) (field_read db c.read_at.new.buf holds (omega arith))

pub returns-clause-bytes : goal.returns-clause-bytes
returns-clause-bytes g c clean long =
    let holds : Holds (g.D.Disk.seen c.args.db.now) 60 c.read_at.new.buf =
    c.in_ok-read_at.ensures.read clean (omega arith) in
    let is = c.count_in.ensures.bytes in (
      subst (λ b. b < 256) (sym (holds.each 1 (omega arith))) (is 1),
      subst (λ b. b < 256) (sym (holds.each 2 (omega arith))) (is 2),
      subst (λ b. b < 256) (sym (holds.each 3 (omega arith))) (is 3),
    )
