use Rattle.std.{proofs.Common.false, specs.Io.KnownBytes.Keeps}
use Rattle.subcommands.specs.{Asking.EndsCopy, Places.reach}
use Rattle.subcommands.proofs.Ending.{as_it_ended, done, quiet}
use Rattle.subcommands.proofs.asking.copy_log_at.Goals as goal

pub returns-clause-ends : goal.returns-clause-ends
returns-clause-ends g c =
    let old = g.W.Write.contents c.args.writer.now in
    let new = g.W.Write.contents c.print_log-asked.new.writer in
    let r =
    reach g.D.Dial.dialed g.F.Write.contents c.args.dial.now c.print_log-asked.new.dial
    c.args.faults.now in
    let form = c.log_form-form.result in
    let status = c.tell_asked.result in
    rw (← c.log_form-form.ensures) (done c.args.place c.args.patience status r
    (Keeps old new) (λ one _ t. EndsCopy status one form c.args.from t old new)
    c.in-Ok.found c.contact_of-contact.result
    (g.D.Dial.dialed c.found_at.new.dial) (g.F.Write.contents c.found_at.new.faults) false
    c.in-Ok.ensures.ok c.contact_of-contact.ensures
    (as_it_ended c.print_log-asked.result status _ _ c.tell_asked.ensures.ends
    c.print_log-asked.ensures.ok c.print_log-asked.ensures.err))

pub returns-clause-quiet : goal.returns-clause-quiet
returns-clause-quiet g c = λ zero named.
    quiet c.print_log-asked.result c.tell_asked.result _ _ _ c.tell_asked.ensures.ends
    c.tell_asked.ensures.quiet (c.in-Ok.ensures.quiet named) zero
