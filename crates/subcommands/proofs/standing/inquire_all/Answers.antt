use Rattle.subcommands.proofs.standing.inquire_all.Goals as goal

pub returns : goal.returns
returns g c = record {
  report = c.inquire_once-status.result;
  dialed = g.D.Dial.dialed c.inquire_once-status.new.dial;
  out = g.W.Write.contents c.inquire_once-status.new.writer;
  reports = c.inquire_once-status.ensures;
  is = c.status_after.ensures;
}
