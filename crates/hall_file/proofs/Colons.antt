-- The last colon of a text parts it in one way.
use Rattle.std.proofs.Common.{◌≡◌, ◌≢◌, ℕ, ◌<◌, ◌^◌, List, [], ◌∷◌, ◌++◌, length, get_or, refl}
use Rattle.std.proofs.Common.{arith, length-append}
use Rattle.std.specs.{Fmt.decimal, Str.Parse.AllDigits, Str.Parse.digits_value}
use Rattle.std.proofs.lemmas.{Fmt.digits_decimal, Str.Parse.not_in_digits}
use Rattle.std.proofs.lemmas.Str.Parse.{IsNumeralModel, numerals_by_value, tells_digits}

abbrev pub NoColon : List ℕ → Type 0
NoColon xs = (i : ℕ) → i < length xs → get_or xs i 0 ≢ 58

at_middle : (xs ys : List ℕ) → get_or (xs ++ 58 ∷ ys) (length xs) 0 ≡ 58
at_middle [] ys = refl
at_middle (x ∷ xs) ys = at_middle xs ys

within_middle : (xs ys : List ℕ) → length xs < length (xs ++ 58 ∷ ys)
within_middle xs ys = rw length-append (omega arith)

-- a text with a colon in it has one
pub has_colon : (xs ys zs : List ℕ) → zs ≡ xs ++ 58 ∷ ys → NoColon zs → ⊥
has_colon xs ys zs e none = none (length xs) (rw e (within_middle xs ys)) (rw e (at_middle xs ys))

-- two ways to part a text by a colon, with none after it, are one
pub same_split : (h k p q : List ℕ) → h ++ 58 ∷ p ≡ k ++ 58 ∷ q → NoColon p → NoColon q
    → (h ≡ k) × (p ≡ q)
same_split [] [] p q e a b = (refl, cc)
same_split [] (y ∷ k) p q e a b =
    let tail : p ≡ k ++ 58 ∷ q = cc in absurd (has_colon k q p tail a)
same_split (x ∷ h) [] p q e a b =
    let tail : q ≡ h ++ 58 ∷ p = cc in absurd (has_colon h p q tail b)
same_split (x ∷ h) (y ∷ k) p q e a b =
    let tail : h ++ 58 ∷ p ≡ k ++ 58 ∷ q = cc in
    let head : x ≡ y = cc in
    let (front, back) = same_split h k p q tail a b in
    (rw (head, front) refl, back)

numerals : IsNumeralModel (AllDigits 10) (digits_value 10)
numerals = numerals_by_value _ tells_digits

-- a number's digits have none
pub decimal_has_none : (n : ℕ) → n < 2 ^ 64 → NoColon (decimal n)
decimal_has_none n small i within =
    not_in_digits numerals (decimal n) 58 (digits_decimal numerals n small)
    (λ r. absurd (omega (arith, r.0, r.1))) i within
