use Rattle.std.proofs.Common.{◌∙◌, ap, inr, refl}
use Rattle.standings.specs.Standings.{status_of}
use Rattle.desk_requests.proofs.polling.print_standings.Goals as goal

pub returns-in-Ok-write_text-clause-ok : goal.returns-in-Ok-write_text-clause-ok
returns-in-Ok-write_text-clause-ok g c = record {
  polled = c.in-Ok.polled.items;
  asked = c.in-Ok.ensures.all;
  written =
      rw (c.deref-3.ensures.value, c.in-Ok-report.ensures, c.deref.ensures.value)
      at c.in-Ok-write_text.ensures.ok;
  status_is = c.status_of-status.ensures ∙ ap status_of c.deref-2.ensures.value;
}

pub returns-clause-err : goal.returns-clause-err
returns-clause-err g c =
    inr (
      refl,
      c.in-Ok.polled.items,
      c.in-Ok.ensures.all,
      rw (c.deref-3.ensures.value, c.in-Ok-report.ensures, c.deref.ensures.value)
          at c.in-Err.ensures.err,
    )
