-- A text is read as a number where it is how the number is printed.
use Rattle.std.proofs.Common.{◌≡◌, ℕ, ◌+◌, ◌*◌, ◌-◌, ◌<◌, ◌≤◌, zero, suc, Bool, true, false, ◌&&◌}
use Rattle.std.proofs.Common.{◌==◌, cond, nat_le, List, length, fold, get_or, Some, None, refl, sym}
use Rattle.std.proofs.Common.{◌∙◌, subst, arith, rules, decimal, bytes_eq}
use Rattle.std.specs.{Fmt.digits, Char.is_ascii_digit, List.list_all}
use Rattle.std.proofs.lemmas.Bool.{false≢true}
use Rattle.std.proofs.lemmas.{Bool.Decides.nat_tests, Slice.Eq.bytes_eq-Decides}
use Rattle.std.proofs.lemmas.Fmt.{decimal-digits_value, digits_decimal, digits_value-decimal}
use Rattle.std.proofs.lemmas.Fmt.{length-decimal-le, decimal_nonempty, first_decimal}
use Rattle.std.proofs.lemmas.Str.Parse.{IsNumeralModel, numerals_by_fold, digits_value_short}
use Rattle.texts.specs.Numerals.{digits_value, within}
use Rattle.texts.specs.{model.Numeral.is_numeral, Fields.number_between}

-- digits stand for their value
pub own : IsNumeralModel (λ ds. list_all is_ascii_digit ds ≡ true) digits_value
own =
    numerals_by_fold _ (search rules) (λ n ds. fold (λ v b. 10 * v + (b - 48)) n ds) (search rules)

pub decimal-numeral : (bytes : List ℕ) → is_numeral bytes ≡ true
    → bytes ≡ decimal (digits_value bytes)
decimal-numeral bytes h =
    let some : 0 < length bytes = grind (arith, nat_tests) in
    let digits : list_all is_ascii_digit bytes ≡ true = grind (arith, nat_tests) in
    let zeros : get_or bytes 0 0 ≡ 48 → length bytes ≡ 1 = λ z. grind (arith, nat_tests) in
    let few : length bytes ≤ 19 = grind (arith, nat_tests) in
    sym
    (decimal-digits_value own bytes digits some zeros
    (omega (arith, digits_value_short own bytes 19 digits few)))

numeral-zero : is_numeral (decimal 0) ≡ true
unfolding digits
numeral-zero = refl

numeral-first : (bytes : List ℕ) → 0 < length bytes → length bytes ≤ 19
    → list_all is_ascii_digit bytes ≡ true → 48 < get_or bytes 0 0 → is_numeral bytes ≡ true
numeral-first bytes some few digits first =
    let zero_test : (get_or bytes 0 0 == 48) ≡ false = grind (arith, nat_tests) in
    grind (arith, nat_tests)

pub is_numeral-decimal : (n : ℕ) → n < 10000000000000000000 → is_numeral (decimal n) ≡ true
is_numeral-decimal zero small = numeral-zero
is_numeral-decimal (suc n) small =
    numeral-first (decimal (suc n)) (decimal_nonempty (suc n) (omega arith))
    (length-decimal-le 19 (suc n) (omega arith) (omega arith) (omega arith))
    (digits_decimal own (suc n) (omega arith)) (first_decimal (suc n) (omega arith) (omega arith))

pub bytes_eq-same : (bytes : List ℕ) → bytes_eq bytes bytes ≡ true
bytes_eq-same bytes = (bytes_eq-Decides bytes bytes).1 refl

pub within-Some : (low high n : ℕ) → low ≤ n → n ≤ high → within low high n ≡ Some n
within-Some low high n above below = grind (arith, nat_tests)

pub number_between-decimal : (low high n : ℕ) → low ≤ n → n ≤ high → high < 10000000000000000000
    → number_between low high (decimal n) ≡ Some n
unfolding number_between
number_between-decimal low high n above below small =
    rw (digits_value-decimal own n (omega arith), bytes_eq-same (decimal n))
    (within-Some low high n above below)

-- what is no numeral is no number that is printed in so few digits
other : (b : Bool) (low high : ℕ) (bytes : List ℕ)
    → bytes_eq bytes (decimal (digits_value bytes)) ≡ b → high < 10000000000000000000
    → is_numeral bytes ≡ false
    → cond b (within low high (digits_value bytes)) None ≡ None
other false low high bytes is small h = refl
other true low high bytes is small h =
    step (nat_le low (digits_value bytes) && nat_le (digits_value bytes) high) refl
  where
    step : (b : Bool) → (nat_le low (digits_value bytes) && nat_le (digits_value bytes) high) ≡ b
        → cond b (Some (digits_value bytes)) None ≡ None
    step false e = refl
    step true e =
        let below : digits_value bytes ≤ high = grind (arith, nat_tests) in
        let same : bytes ≡ decimal (digits_value bytes) = (bytes_eq-Decides _ _).0 is in
        let numeral : is_numeral bytes ≡ true =
        subst (λ (x : List ℕ). is_numeral x ≡ true) (sym same)
        (is_numeral-decimal (digits_value bytes) (omega arith)) in
        absurd (false≢true (sym h ∙ numeral))

pub number_between-other : (low high : ℕ) (bytes : List ℕ) → high < 10000000000000000000
    → is_numeral bytes ≡ false → number_between low high bytes ≡ None
unfolding number_between
number_between-other low high bytes small h = other _ low high bytes refl small h

pub number_between-numeral : (low high : ℕ) (bytes : List ℕ) → is_numeral bytes ≡ true
    → number_between low high bytes ≡ within low high (digits_value bytes)
unfolding number_between
number_between-numeral low high bytes h =
    let yes : bytes_eq bytes (decimal (digits_value bytes)) ≡ true =
    (bytes_eq-Decides _ _).1 (decimal-numeral bytes h) in
    rw yes refl

pub ruleset readings = (number_between-other, number_between-numeral, nat_tests)
