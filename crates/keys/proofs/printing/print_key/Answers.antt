use Rattle.std.proofs.Common.{◌≡◌, ℕ, List, ap, ◌∙◌}
use Rattle.std.specs.Prelude.{string_bytes}
use Rattle.hex.specs.Hex.{IsBytes, decode_of, encode_lower}
use Rattle.hex.proofs.HexLemmas.{decode_of-encode_lower}
use Rattle.keys.proofs.Digits.{digits_with_feed}
use Rattle.keys.proofs.printing.print_key.Goals as goal

pub returns-clause-back : goal.returns-clause-back
returns-clause-back c =
    let text = string_bytes c.in_ok-text.text in
    let small : IsBytes c.args.key.now = c.fits-key in
    let is : text ≡ encode_lower c.as_slice.result.now = c.in_ok-text.ensures in
    ap (λ (s : List ℕ). decode_of s) (digits_with_feed text)
    ∙ ap (λ (s : List ℕ). decode_of s) is
    ∙ ap (λ (s : List ℕ). decode_of (encode_lower s)) c.as_slice.ensures
    ∙ decode_of-encode_lower c.args.key.now small
