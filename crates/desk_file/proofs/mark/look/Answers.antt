use Rattle.std.proofs.Common.{◌≡◌, ◌≢◌, ◌≤◌, slice_index, sym, ◌∙◌, arith, rules}
use Rattle.std.proofs.lemmas.Bool.{false≢true}
use Rattle.sqlite_disk.specs.Disk.{Holds}
use Rattle.desk_file.{specs.Marks.IsMarked, proofs.Marking.field_read, proofs.Marking.stands_by}
use Rattle.desk_file.proofs.mark.look.Goals as goal

pub returns-then-branch-lt-USE_END-clause-ok : goal.returns-then-branch-lt-USE_END-clause-ok
returns-then-branch-lt-USE_END-clause-ok g c log_clean clean =
    let is = c.in_ok-len.ensures.len clean in (
      λ marked. let long = marked.0 in absurd (omega arith),
      λ strange. let long = strange.0 in absurd (omega arith),
    )

pub returns-then-field-ne0-clause-ok : goal.returns-then-field-ne0-clause-ok
returns-then-field-ne0-clause-ok g c log_clean clean =
    let db = g.D.Disk.seen c.args.files.now.db in
    let log = g.D.Disk.seen c.args.files.now.log in
    let holds : Holds db 60 c.read_at.new.buf =
    rw (← c.len.ensures.seen) (c.in_ok-read_at.ensures.read clean (omega arith)) in
    let is = c.in_ok-len.ensures.len (search rules) in
    let number = c.get_be32-number.ensures ∙ field_read db c.read_at.new.buf holds (omega arith) in
    let len = c.in_ok-size.ensures.len (c.front_of.ensures.same.clean log_clean) in
    let front : 41 ≤ c.in_ok-size.size → Holds log 0 c.in_ok-front.front =
    λ long. rw (← c.len-2.ensures.seen) (c.in_ok-front.ensures.bytes log_clean long) in
    let marked : IsMarked db =
    (omega arith, λ zero. c.if-field-ne0.true (sym (holds.each 0 (omega arith)) ∙ zero)) in
    stands_by c.standing_of.result c.get_be32-number.result log db marked number
    (c.standing_of.ensures log (sym len) front)

pub returns-then-number-eq0-clause-ok : goal.returns-then-number-eq0-clause-ok
returns-then-number-eq0-clause-ok g c log_clean clean =
    let db = g.D.Disk.seen c.args.files.now.db in
    let log = g.D.Disk.seen c.args.files.now.log in
    let holds : Holds db 60 c.read_at.new.buf =
    rw (← c.len.ensures.seen) (c.in_ok-read_at.ensures.read clean (omega arith)) in
    let is = c.in_ok-len.ensures.len (search rules) in
    let number = c.get_be32-number.ensures ∙ field_read db c.read_at.new.buf holds (omega arith) in
    let zero : slice_index db 60 ≡ 0 = holds.each 0 (omega arith) ∙ c.if-field-ne0.false in (
      λ marked. marked.1 zero,
      λ strange. strange.2 (sym number ∙ c.if-number-eq0.true),
    )

pub returns-then-has_frame-clause-ok : goal.returns-then-has_frame-clause-ok
returns-then-has_frame-clause-ok g c log_clean clean =
    let db = g.D.Disk.seen c.args.files.now.db in
    let log = g.D.Disk.seen c.args.files.now.log in
    let holds : Holds db 60 c.read_at.new.buf =
    rw (← c.len.ensures.seen) (c.in_ok-read_at.ensures.read clean (omega arith)) in
    let is = c.in_ok-len.ensures.len (search rules) in
    let number = c.get_be32-number.ensures ∙ field_read db c.read_at.new.buf holds (omega arith) in
    let len = c.in_ok-size.ensures.len (c.front_of.ensures.same.clean log_clean) in
    let front : 41 ≤ c.in_ok-size.size → Holds log 0 c.in_ok-front.front =
    λ long. rw (← c.len-2.ensures.seen) (c.in_ok-front.ensures.bytes log_clean long) in
    let zero : slice_index db 60 ≡ 0 = holds.each 0 (omega arith) ∙ c.if-field-ne0.false in (
      omega arith,
      zero,
      λ none. c.if-number-eq0.false (number ∙ none),
      (c.has_frame.ensures log (sym len) front).0 c.if-has_frame.true,
    )

pub returns-clause-ok : goal.returns-clause-ok
returns-clause-ok g c log_clean clean =
    let db = g.D.Disk.seen c.args.files.now.db in
    let log = g.D.Disk.seen c.args.files.now.log in
    let holds : Holds db 60 c.read_at.new.buf =
    rw (← c.len.ensures.seen) (c.in_ok-read_at.ensures.read clean (omega arith)) in
    let is = c.in_ok-len.ensures.len (search rules) in
    let number = c.get_be32-number.ensures ∙ field_read db c.read_at.new.buf holds (omega arith) in
    let len = c.in_ok-size.ensures.len (c.front_of.ensures.same.clean log_clean) in
    let front : 41 ≤ c.in_ok-size.size → Holds log 0 c.in_ok-front.front =
    λ long. rw (← c.len-2.ensures.seen) (c.in_ok-front.ensures.bytes log_clean long) in
    let zero : slice_index db 60 ≡ 0 = holds.each 0 (omega arith) ∙ c.if-field-ne0.false in (
      λ marked. marked.1 zero,
      λ strange. false≢true (sym c.if-has_frame.false
          ∙ (c.has_frame.ensures log (sym len) front).1 strange.3),
    )
