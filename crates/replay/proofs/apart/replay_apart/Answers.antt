use Rattle.std.proofs.{Common.subst, Common.rules, KnownBytes.Keeps-refl}
use Rattle.std.specs.Io.KnownBytes.{Appends}
use Rattle.lines.specs.Bytes.{AppendsPart, Sides, sides}
use Rattle.replay.specs.{Apart.ReplaysPartApart, Apart.Told, Apart.told, Replay.Run, Replay.run_of}
use Rattle.replay.proofs.{Applied.fails_by, Parted.stops_apart}
use Rattle.replay.proofs.Parted.{cut_apart, fails_apart_at_once, replays_apart, starves_apart}
use Rattle.lines.specs.declared.fault.RunFault.TheVariants as run_fault
use Rattle.replay.specs.declared.fault.ReplayFault.TheVariants as fault
use Rattle.replay.proofs.apart.replay_apart.Goals as goal

pub returns-in_err-meet-clause-err : goal.returns-in_err-meet-clause-err
returns-in_err-meet-clause-err g c =
    let had = g.R.Read.remaining c.args.reader.now in
    let told_of = g.F.Write.contents c.args.refused.now in
    let old = g.W.Write.contents c.args.writer.now in
    let s : Sides = record { had = had; left = had; old = old; new = old } in
    fails_by (ReplaysPartApart c.args.style c.args.event c.args.round s
    (record { before = told_of; now = told_of })) c.from_residual.result
    (fault.Lines run_fault.NoMemory) (search rules)
    (fails_apart_at_once c.args.style c.args.event c.args.round had told_of old)

pub returns-in_err-position-clause-err : goal.returns-in_err-position-clause-err
returns-in_err-position-clause-err g c =
    let f = c.in_err-position.ensures.err in
    let r : Run =
    run_of c.args.style c.args.event c.args.round f.0
    (sides g.R.Read.remaining g.W.Write.contents c.args.reader.now c.apply_lines.new.reader
    c.args.writer.now c.args.writer.now) in
    let t : Told = told g.F.Write.contents c.args.refused.now c.apply_lines.new.writer in
    fails_by _ c.from_residual-in_err-position.result (fault.Lines c.in_err-position.field-0.0)
    (search rules) (f.0, f.1, stops_apart c.in_err-position.field-0.0 r t f.2 (Keeps-refl _))

pub returns-in-Err-NoMemory-clause-err : goal.returns-in-Err-NoMemory-clause-err
returns-in-Err-NoMemory-clause-err g c =
    let f = c.in_ok-position.ensures.ok in
    let r : Run =
    run_of c.args.style c.args.event c.args.round f.0
    (sides g.R.Read.remaining g.W.Write.contents c.args.reader.now c.apply_lines.new.reader
    c.args.writer.now c.args.writer.now) in
    let t : Told = told g.F.Write.contents c.args.refused.now c.apply_lines.new.writer in
    (f.0, f.1, starves_apart r t _ _ f.2 (Keeps-refl _))

pub returns-in-Ok-write_text-clause-ok : goal.returns-in-Ok-write_text-clause-ok
returns-in-Ok-write_text-clause-ok g c =
    let f = c.in_ok-position.ensures.ok in
    let r : Run =
    run_of c.args.style c.args.event c.args.round f.0
    (sides g.R.Read.remaining g.W.Write.contents c.args.reader.now c.apply_lines.new.reader
    c.args.writer.now c.write_text.new.writer) in
    let t : Told = told g.F.Write.contents c.args.refused.now c.apply_lines.new.writer in (
      f.0,
      f.1,
      replays_apart r t _ _ _ f.2 c.in-Ok.ensures.sheet
          (subst
          (Appends (g.W.Write.contents c.args.writer.now)
          (g.W.Write.contents c.write_text.new.writer))
          c.deref.ensures.value c.in-Ok-write_text.ensures.ok),
    )

pub returns-clause-err : goal.returns-clause-err
returns-clause-err g c =
    let f = c.in_ok-position.ensures.ok in
    let r : Run =
    run_of c.args.style c.args.event c.args.round f.0
    (sides g.R.Read.remaining g.W.Write.contents c.args.reader.now c.apply_lines.new.reader
    c.args.writer.now c.write_text.new.writer) in
    let t : Told = told g.F.Write.contents c.args.refused.now c.apply_lines.new.writer in (
      f.0,
      f.1,
      cut_apart r t _ _ _ f.2 c.in-Ok.ensures.sheet
          (subst
          (AppendsPart (g.W.Write.contents c.args.writer.now)
          (g.W.Write.contents c.write_text.new.writer))
          c.deref.ensures.value c.in-Err.ensures.err),
    )
