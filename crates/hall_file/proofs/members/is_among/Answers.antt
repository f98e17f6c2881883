use Rattle.std.proofs.Common.{ap, sym, ◌∙◌, arith, string_bytes}
use Rattle.std.specs.Prelude.{bytes_eq}
use Rattle.hall_file.proofs.Texts.{any_named}
use Rattle.hall_file.proofs.members.is_among.Goals as goal

pub returns-then-eq : goal.returns-then-eq
returns-then-eq c =
    any_named (bytes_eq c.args.text.now) string_bytes c.args.texts.now c.loop-other.other-index
    c.other-item.result (omega arith) c.other-item.is
    (ap (λ t. bytes_eq t (string_bytes c.other-item.result)) (sym c.as_bytes.ensures.value)
    ∙ ap (λ t. bytes_eq c.as_bytes.result.now t) (sym c.as_bytes-in-loop-other.ensures.value)
    ∙ sym c.eq.ensures ∙ c.if-eq.true)
