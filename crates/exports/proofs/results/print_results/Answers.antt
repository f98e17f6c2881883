use Rattle.std.proofs.Common.{rules, subst, sym}
use Rattle.std.{proofs.KnownBytes.Keeps-refl, specs.Io.KnownBytes.Appends}
use Rattle.lines.specs.Bytes.{AppendsPart}
use Rattle.exports.{proofs.Whole.fails_by, specs.Results.FailsResults}
use Rattle.exports.proofs.results.print_results.Goals as goal

pub returns-in_err-text-clause-err : goal.returns-in_err-text-clause-err
returns-in_err-text-clause-err g c =
    let log = g.L.Read.remaining c.args.log.now in
    let old = g.W.Write.contents c.args.writer.now in
    fails_by (λ f. FailsResults f log old old) c.from_residual.result c.in_err-text.field-0.0
    (search rules)
    (subst (λ f. FailsResults f log old old) (sym c.in_err-text.ensures.err) (Keeps-refl old))

pub returns-in-Ok-write_text-clause-ok : goal.returns-in-Ok-write_text-clause-ok
returns-in-Ok-write_text-clause-ok g c =
    let old = g.W.Write.contents c.args.writer.now in
    let new = g.W.Write.contents c.write_text.new.writer in (
      c.in_ok-text.text.items,
      (c.in-Ok.meet, c.in-Ok.ensures.ok, c.in_ok-text.ensures.ok),
      subst (Appends old new) c.deref.ensures.value c.in-Ok-write_text.ensures.ok,
    )

pub returns-clause-err : goal.returns-clause-err
returns-clause-err g c =
    let old = g.W.Write.contents c.args.writer.now in
    let new = g.W.Write.contents c.write_text.new.writer in (
      c.in_ok-text.text.items,
      (c.in-Ok.meet, c.in-Ok.ensures.ok, c.in_ok-text.ensures.ok),
      subst (AppendsPart old new) c.deref.ensures.value c.in-Err-write_text.ensures.err,
    )
