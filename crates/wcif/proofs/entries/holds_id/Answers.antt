use Rattle.std.proofs.Common.{ap, sym, ◌∙◌, arith}
use Rattle.std.specs.Prelude.{bytes_eq}
use Rattle.wcif.{specs.Persons.is_id, proofs.Listed.any_viewed}
use Rattle.wcif.proofs.entries.holds_id.Goals as goal

pub returns-then-eq : goal.returns-then-eq
returns-then-eq c =
    any_viewed (is_id c.args.id.now) c.args.ids.now c.loop-item.item-index c.item-item.result
    (omega arith) c.item-item.is (ap (λ t. bytes_eq c.args.id.now t) (sym c.text_of.ensures)
    ∙ ap (λ t. bytes_eq c.args.id.now t) (sym c.as_bytes-in-loop-item.ensures.value)
    ∙ ap (λ t. bytes_eq t c.as_bytes-in-loop-item.result.now) (sym c.as_bytes.ensures.value)
    ∙ sym c.eq.ensures ∙ c.if-eq.true)
