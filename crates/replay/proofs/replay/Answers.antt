use Rattle.std.{proofs.Common.subst, proofs.Common.rules, specs.Io.KnownBytes.Appends}
use Rattle.lines.specs.Bytes.{AppendsPart, sides}
use Rattle.replay.specs.Replay.{Run, replay_text, run_of}
use Rattle.replay.proofs.Applied.{replays, cut_off, fails_among, fails_at_once, fails_by}
use Rattle.lines.specs.declared.fault.RunFault.TheVariants as run_fault
use Rattle.replay.specs.declared.fault.ReplayFault.TheVariants as fault
use Rattle.replay.proofs.replay.Goals as goal

pub returns-in_err-meet-clause-err : goal.returns-in_err-meet-clause-err
returns-in_err-meet-clause-err g c =
    fails_by _ c.from_residual.result (fault.Lines run_fault.NoMemory) (search rules)
    (fails_at_once _ _ (replay_text c.args.style c.args.event c.args.round))

pub returns-in_err-position-clause-err : goal.returns-in_err-position-clause-err
returns-in_err-position-clause-err g c =
    let f = c.in_err-position.ensures.err in
    let r : Run =
    run_of c.args.style c.args.event c.args.round f.0
    (sides g.R.Read.remaining g.W.Write.contents c.args.reader.now c.apply_lines.new.reader
    c.args.writer.now c.apply_lines.new.writer) in
    fails_by _ c.from_residual-in_err-position.result (fault.Lines c.in_err-position.field-0.0)
    (search rules) (f.0, f.1, fails_among c.in_err-position.field-0.0 r f.2)

pub returns-in-Ok-write_text-clause-ok : goal.returns-in-Ok-write_text-clause-ok
returns-in-Ok-write_text-clause-ok g c =
    let f = c.in_ok-position.ensures.ok in
    let r : Run =
    run_of c.args.style c.args.event c.args.round f.0
    (sides g.R.Read.remaining g.W.Write.contents c.args.reader.now c.apply_lines.new.reader
    c.args.writer.now c.write_text.new.writer) in (
      f.0,
      f.1,
      replays r _ _ _ _ f.2 c.in-Ok.ensures.sheet
          (subst
          (Appends (g.W.Write.contents c.apply_lines.new.writer)
          (g.W.Write.contents c.write_text.new.writer))
          c.deref.ensures.value c.in-Ok-write_text.ensures.ok),
    )

pub returns-clause-err : goal.returns-clause-err
returns-clause-err g c =
    let f = c.in_ok-position.ensures.ok in
    let r : Run =
    run_of c.args.style c.args.event c.args.round f.0
    (sides g.R.Read.remaining g.W.Write.contents c.args.reader.now c.apply_lines.new.reader
    c.args.writer.now c.write_text.new.writer) in (
      f.0,
      f.1,
      cut_off r _ _ _ _ f.2 c.in-Ok.ensures.sheet
          (subst
          (AppendsPart (g.W.Write.contents c.apply_lines.new.writer)
          (g.W.Write.contents c.write_text.new.writer))
          c.deref.ensures.value c.in-Err.ensures.err),
    )
