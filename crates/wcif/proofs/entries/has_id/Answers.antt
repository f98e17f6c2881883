use Rattle.std.proofs.Common.{ap, sym, ◌∙◌, arith}
use Rattle.std.specs.Prelude.{bytes_eq}
use Rattle.wcif.{specs.Persons.has_id, proofs.Listed.any_viewed}
use Rattle.wcif.proofs.entries.has_id.Goals as goal

pub returns-then-eq : goal.returns-then-eq
returns-then-eq c =
    any_viewed (has_id c.args.id.now) c.args.events.now c.loop-event.event-index c.event-item.result
    (omega arith) c.event-item.is (ap (λ t. bytes_eq c.args.id.now t) (sym c.text_under.ensures)
    ∙ ap (λ t. bytes_eq c.args.id.now t) (sym c.as_bytes-in-loop-event.ensures.value)
    ∙ ap (λ t. bytes_eq t c.as_bytes-in-loop-event.result.now) (sym c.as_bytes.ensures.value)
    ∙ sym c.eq.ensures ∙ c.if-eq.true)
