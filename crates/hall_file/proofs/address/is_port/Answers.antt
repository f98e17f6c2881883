use Rattle.std.proofs.Common.{◌≡◌, sym, ap, ◌∙◌, arith, Ok}
use Rattle.std.specs.Fmt.{decimal}
use Rattle.std.proofs.lemmas.{Bool.Decides.nat_tests, Fmt.parse-decimal}
use Rattle.hall_file.proofs.Texts.{same_texts}
use Rattle.hall_file.proofs.address.is_port.Goals as goal

pub returns-in_default : goal.returns-in_default
returns-in_default c = (
  λ f. absurd (cc),
  λ (n, above, below, e).
      let parsed : c.parse.result ≡ Ok n =
      parse-decimal 16 n c.args.text.now c.parse.result (omega arith) (omega arith) e
      c.parse.ensures.value.0 in
      absurd (cc),
)

pub returns-then-port-gt0 : goal.returns-then-port-gt0
returns-then-port-gt0 c =
    let text = c.args.text.now in
    let port = c.in-Ok.port in
    let shown = c.format.result.now in
    let told = same_texts shown text in (
      λ t.
          let same : shown ≡ text = told.0 (sym c.eq.ensures ∙ t) in (
            port,
            omega arith,
            omega (arith, c.in-Ok.ensures.value.0.0.1, c.in-Ok.ensures.value.0.1),
            sym same ∙ c.format.ensures.text,
          ),
      λ (n, above, below, e).
          let parsed : c.parse.result ≡ Ok n =
          parse-decimal 16 n text c.parse.result (omega arith) (omega arith) e
          c.parse.ensures.value.0 in
          let number : port ≡ n = cc in
          c.eq.ensures ∙ told.1 (c.format.ensures.text ∙ ap decimal number ∙ sym e),
    )

pub returns-else-port-gt0 : goal.returns-else-port-gt0
returns-else-port-gt0 c = (
  λ t. absurd (grind (arith, nat_tests)),
  λ (n, above, below, e).
      let parsed : c.parse.result ≡ Ok n =
      parse-decimal 16 n c.args.text.now c.parse.result (omega arith) (omega arith) e
      c.parse.ensures.value.0 in
      let number : c.in-Ok.port ≡ n = cc in
      absurd (omega arith),
)
