use Rattle.std.proofs.Common.{◌≡◌, Bool, true, false, List, ℕ, Result, Ok, Err, refl, sym, ◌∙◌}
use Rattle.std.specs.{Result.MatchResult, Result.is_ok, Str.IsUtf8, Str.is_utf8}
use Rattle.std.proofs.lemmas.Str.{is_utf8-from_IsUtf8, IsUtf8-from_is_utf8}
use Rattle.texts.proofs.names.is_text.Goals as goal

-- whether a result is there is whether the bytes are text
decided : {T E : Type 0} (P : T → Type 0) (Q : E → Type 0) (r : Result T E) (bytes : List ℕ)
    → MatchResult r (λ s. P s × IsUtf8 bytes) (λ e. ¬ (IsUtf8 bytes) × Q e)
    → is_ok r ≡ is_utf8 bytes
decided P Q (Ok s) bytes h = sym (is_utf8-from_IsUtf8 bytes h.1)
decided P Q (Err e) bytes h = step (is_utf8 bytes) refl
  where
    step : (b : Bool) → is_utf8 bytes ≡ b → false ≡ b
    step true is = absurd (h.0 (IsUtf8-from_is_utf8 bytes is))
    step false is = refl

pub returns : goal.returns
returns c =
    c.is_ok.ensures.value
    ∙ decided _ _ c.from_utf8.result c.args.bytes.now c.from_utf8.ensures.cases
