use Rattle.std.{proofs.Common.rules, proofs.Common.subst, specs.Io.KnownBytes.Appends}
use Rattle.lines.specs.Bytes.{AppendsPart}
use Rattle.exports.proofs.Whole.{fails, fails_by, makes}
use Rattle.exports.specs.Files.{FailsExport}
use Rattle.exports.proofs.files.print_export.Goals as goal

pub returns-in_err-made-clause-err : goal.returns-in_err-made-clause-err
returns-in_err-made-clause-err g c =
    let file = g.R.Read.remaining c.args.file in
    let log = g.L.Read.remaining c.args.log.now in
    let old = g.W.Write.contents c.args.writer.now in
    let e = c.in_err-made.field-0.0 in
    fails_by (λ f. FailsExport f c.args.running file log old old) c.from_residual.result e
    (search rules) (fails e c.args.running file log old c.in-Ok.bytes.items c.deref.result.now
    c.in-Ok-read_log.meet c.in-Ok.ensures c.deref.ensures.value c.in-Ok-read_log.ensures.ok
    c.in_err-made.ensures.err)

pub returns-in-Ok-write_text-clause-ok : goal.returns-in-Ok-write_text-clause-ok
returns-in-Ok-write_text-clause-ok g c =
    let old = g.W.Write.contents c.args.writer.now in
    let new = g.W.Write.contents c.write_text.new.writer in (
      c.in_ok-made.made.text.items,
      makes c.args.running c.in_ok-made.made.notes.items _ _ c.in-Ok.bytes.items
          c.deref.result.now _ c.in-Ok-read_log.meet c.in-Ok.ensures c.deref.ensures.value
          c.in-Ok-read_log.ensures.ok c.in_ok-made.ensures.ok,
      subst (Appends old new) c.deref-2.ensures.value c.in-Ok-write_text.ensures.ok,
    )

pub returns-clause-err : goal.returns-clause-err
returns-clause-err g c =
    let old = g.W.Write.contents c.args.writer.now in
    let new = g.W.Write.contents c.write_text.new.writer in (
      c.in_ok-made.made.text.items,
      c.in_ok-made.made.notes.items,
      makes c.args.running c.in_ok-made.made.notes.items _ _ c.in-Ok.bytes.items
          c.deref.result.now _ c.in-Ok-read_log.meet c.in-Ok.ensures c.deref.ensures.value
          c.in-Ok-read_log.ensures.ok c.in_ok-made.ensures.ok,
      subst (AppendsPart old new) c.deref-2.ensures.value c.in-Err-write_text.ensures.err,
    )
