use Rattle.std.{proofs.Common.inl, proofs.Common.inr, specs.Io.KnownBytes.Keeps}
use Rattle.subcommands.specs.Entering.{EndsOne, Probed, Single}
use Rattle.subcommands.{specs.Places.reach, proofs.Ending.done}
use Rattle.subcommands.proofs.entering.enter_at.Goals as goal

pub returns-in-Ok-enter_one : goal.returns-in-Ok-enter_one
returns-in-Ok-enter_one g c =
    let old = g.W.Write.contents c.args.writer.now in
    let new = g.W.Write.contents c.enter_one.new.writer in
    let single : Single =
    record { id = c.args.id; text = c.args.text.now; waits = c.args.waits } in
    let status = c.in-Ok-enter_one.status in
    done c.args.place c.args.patience status
    (reach g.D.Dial.dialed g.F.Write.contents c.args.dial.now c.enter_one.new.dial
    c.args.faults.now)
    (Keeps old new) (λ one _ t. Probed one t (λ u. EndsOne status one single u old new))
    c.in-Ok.found c.contact_of-contact.result
    (g.D.Dial.dialed c.found_at.new.dial) (g.F.Write.contents c.found_at.new.faults)
    c.knows_await.result c.in-Ok.ensures.ok c.contact_of-contact.ensures (
      g.D.Dial.dialed c.knows_await.new.dial,
      c.knows_await.ensures,
      inl c.in-Ok-enter_one.ensures.ok,
    )

pub returns : goal.returns
returns g c =
    let old = g.W.Write.contents c.args.writer.now in
    let new = g.W.Write.contents c.enter_one.new.writer in
    let single : Single =
    record { id = c.args.id; text = c.args.text.now; waits = c.args.waits } in
    done c.args.place c.args.patience c.tell_asked.result
    (reach g.D.Dial.dialed g.F.Write.contents c.args.dial.now c.enter_one.new.dial
    c.args.faults.now) (Keeps old new)
    (λ one _ t. Probed one t (λ u. EndsOne c.tell_asked.result one single u old new))
    c.in-Ok.found c.contact_of-contact.result
    (g.D.Dial.dialed c.found_at.new.dial) (g.F.Write.contents c.found_at.new.faults)
    c.knows_await.result c.in-Ok.ensures.ok c.contact_of-contact.ensures (
      g.D.Dial.dialed c.knows_await.new.dial,
      c.knows_await.ensures,
      inr (c.in-Err-enter_one.fault, c.tell_asked.ensures.ends, c.in-Err-enter_one.ensures.err),
    )
