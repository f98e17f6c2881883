-- Whole numbers are read back from their texts, and the numbers of results are of 64 bits.
use Rattle.std.proofs.Common.{◌≡◌, refl, ap, ◌∙◌, ℕ, zero, suc, ◌<◌, ◌^◌, cond, ℤ, pos, negsuc}
use Rattle.std.proofs.Common.{neg_ℤ, decimal, drop, get_or, arith, ◌≢◌, ◌-◌, List, [], ◌∷◌}
use Rattle.sheets.proofs.ShortTexts.{IsSmallValue, best_small, average_holds}
use Rattle.std.specs.{Fmt.signed_decimal, Fmt.digits, Str.Parse.digits_value, List.AllByRecursion}
use Rattle.std.proofs.lemmas.Bool.{ne_eqb}
use Rattle.std.proofs.lemmas.Fmt.{digits_value-decimal, first_decimal, decimal_digit}
use Rattle.wcif_results.{specs.Laws.whole_of, proofs.MeetIds.own}
use Rattle.attempts.specs.declared.{Value.Value, Unit.Unit as Measure}
use Rattle.formats.specs.declared.events.Format.{Format}
use Rattle.formats.specs.Results.{numbers, best_of, average_of}
use Rattle.wcif_results.specs.Encoding.{attempt_result, best_result, average_result}
use Rattle.attempts.specs.declared.Value.TheVariants as value

-- a whole number that is written: not negative and of 64 bits, or -1 or -2
abbrev pub IsShort : ℤ → Type 0
IsShort (pos n) = n < 2 ^ 64
IsShort (negsuc zero) = Unit {0}
IsShort (negsuc (suc zero)) = Unit {0}
IsShort (negsuc (suc (suc n))) = ⊥

first_digit : (n : ℕ) → n < 2 ^ 64 → get_or (decimal n) 0 0 ≢ 45
first_digit zero small =
    let zero_text : get_or (decimal 0) 0 0 ≡ 48 = ap (λ ds. get_or ds 0 0) (decimal_digit 0 (omega
    arith)) in
    λ h. omega (arith, zero_text, h)
first_digit (suc n) small =
    let above : 48 < get_or (decimal (suc n)) 0 0 = first_decimal (suc n) (omega arith) small in
    λ h. omega (arith, above, h)

pub whole_decimal : (n : ℕ) → n < 2 ^ 64 → whole_of (decimal n) ≡ pos n
whole_decimal n small =
    ap (λ b. cond b (neg_ℤ (pos (digits_value 10 (drop 1 (decimal n)))))
    (pos (digits_value 10 (decimal n)))) (ne_eqb (get_or (decimal n) 0 0) 45 (first_digit n small))
    ∙ ap pos (digits_value-decimal own n small)

pub whole_signed : (z : ℤ) → IsShort z → whole_of (signed_decimal z) ≡ z
unfolding digits
whole_signed (pos n) h = whole_decimal n h
whole_signed (negsuc zero) h = refl
whole_signed (negsuc (suc zero)) h = refl
whole_signed (negsuc (suc (suc n))) h = absurd h

pub attempt_short : (v : Value) → IsSmallValue v → IsShort (attempt_result v)
attempt_short (value.Number n) h = omega arith
attempt_short value.Dnf h = tt
attempt_short value.Dns h = tt

pub best_short : (vs : List Value) → AllByRecursion IsSmallValue vs → IsShort (best_result vs)
best_short [] are = omega arith
best_short (v ∷ vs) are = attempt_short (best_of (v ∷ vs)) (best_small (v ∷ vs) are)

pub average_short : (format : Format) (unit : Measure) (vs : List Value)
    → AllByRecursion IsSmallValue vs → IsShort (average_result (average_of format unit vs))
average_short =
    average_holds (λ x. IsShort (average_result x)) (omega arith) tt (λ n small. omega arith)
