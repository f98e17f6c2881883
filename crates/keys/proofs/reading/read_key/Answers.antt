use Rattle.std.proofs.Common.{◌≡◌, ℕ, List, length, sym, subst, ◌∙◌}
use Rattle.std.specs.Prelude.{◌↔◌, IsSome}
use Rattle.std.specs.List.{AllPass}
use Rattle.hex.{specs.Hex.is_hex_digit, proofs.HexLemmas.IsOk-decode_sized}
use Rattle.keys.proofs.reading.read_key.Goals as goal

pub returns-clause-found : goal.returns-clause-found
returns-clause-found c =
    let text = c.digits_of-digits.result.now in
    let digits = IsOk-decode_sized text 32 in
    let sized = c.from_hex.ensures in
    let whole : IsSome c.ok.result ↔ ((length text ≡ 64) × AllPass is_hex_digit text) = (
      λ h. digits.0 (rw sized at (sym c.ok.ensures.variant ∙ h)),
      λ h. c.ok.ensures.variant ∙ rw sized (digits.1 h),
    ) in
    subst (λ (s : List ℕ). IsSome c.ok.result ↔ ((length s ≡ 64) × AllPass is_hex_digit s))
    c.digits_of-digits.ensures whole
