use Rattle.std.{proofs.Common.false, specs.Io.KnownBytes.Keeps}
use Rattle.subcommands.specs.{Asking.EndsErrand, Asking.errand_of, Places.reach}
use Rattle.subcommands.proofs.Ending.{as_it_ended, done, quiet}
use Rattle.subcommands.proofs.asking.carry_named.Goals as goal

pub returns-clause-ends : goal.returns-clause-ends
returns-clause-ends g c =
    let old = g.W.Write.contents c.args.writer.now in
    let new = g.W.Write.contents c.carry-asked.new.writer in
    let status = c.tell_asked.result in
    done c.args.place c.args.patience status
    (reach g.D.Dial.dialed g.F.Write.contents c.args.dial.now c.carry-asked.new.dial
    c.args.faults.now) (Keeps old new)
    (λ one there t. EndsErrand status (errand_of c.args.names one there c.args.request) t old new)
    c.in-Ok.found c.contact_of-contact.result
    (g.D.Dial.dialed c.found_at.new.dial) (g.F.Write.contents c.found_at.new.faults) false
    c.in-Ok.ensures.ok c.contact_of-contact.ensures
    (as_it_ended c.carry-asked.result status _ _ c.tell_asked.ensures.ends c.carry-asked.ensures.ok
    c.carry-asked.ensures.err)

pub returns-clause-quiet : goal.returns-clause-quiet
returns-clause-quiet g c = λ zero named.
    quiet c.carry-asked.result c.tell_asked.result _ _ _ c.tell_asked.ensures.ends
    c.tell_asked.ensures.quiet (c.in-Ok.ensures.quiet named) zero
