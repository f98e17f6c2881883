use Rattle.std.specs.Io.KnownBytes.{Keeps}
use Rattle.lines.specs.Bytes.{sides}
use Rattle.subcommands.specs.{Entering.EndsInput, Entering.Probed, Places.reach}
use Rattle.subcommands.proofs.Ending.{as_it_ended, done}
use Rattle.subcommands.proofs.entering.enter_lines_at.Goals as goal

pub returns : goal.returns
returns g c =
    let s =
    sides g.R.Read.remaining g.W.Write.contents c.args.reader.now c.enter_all-asked.new.reader
    c.args.writer.now c.enter_all-asked.new.writer in
    let status = c.tell_asked.result in
    done c.args.place c.args.patience status
    (reach g.D.Dial.dialed g.F.Write.contents c.args.dial.now c.enter_all-asked.new.dial
    c.args.faults.now) (Keeps s.had s.left × Keeps s.old s.new)
    (λ one _ t. Probed one t (EndsInput status one c.args.lines s))
    c.in-Ok.found c.contact_of-contact.result
    (g.D.Dial.dialed c.found_at.new.dial) (g.F.Write.contents c.found_at.new.faults)
    c.knows_await.result c.in-Ok.ensures.ok c.contact_of-contact.ensures (
      g.D.Dial.dialed c.knows_await.new.dial,
      c.knows_await.ensures,
      as_it_ended c.enter_all-asked.result status _ _ c.tell_asked.ensures.ends
          c.enter_all-asked.ensures.ok c.enter_all-asked.ensures.err,
    )
