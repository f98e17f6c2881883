-- What a text begins with tells a time, a result and a solution from the words of no result.
use Rattle.std.proofs.Common.{◌≡◌, ◌⊎◌, inl, inr, ℕ, ◌<◌, ◌≤◌, Bool, true, false, ◌||◌, not, List}
use Rattle.std.proofs.Common.{[], ◌∷◌, ◌++◌, length, map, get_or, codes, decimal, bytes_eq, refl}
use Rattle.std.proofs.Common.{sym, ap, ◌∙◌, subst, arith}
use Rattle.std.specs.{Char.is_ascii_digit, Char.to_ascii_lowercase, List.list_all}
use Rattle.std.proofs.lemmas.Bool.{false≢true}
use Rattle.std.proofs.lemmas.{Bool.Decides.nat_tests, Fmt.decimal_nonempty}
use Rattle.attempts.specs.declared.Unit.{Unit as Measure}
use Rattle.attempts.specs.declared.Unit.TheVariants.{Time, Moves, Multi}
use Rattle.texts.proofs.{Cuts.and-true, Spelled.bytes_eq-equal, FieldSpellings.decimal_digits}
use Rattle.scorecard.specs.Spelling.{EndsInPair, IsFilled, IsSeconds, IsMinutes, IsTimed, points}
use Rattle.scorecard.specs.Spelling.{colons, IsMulti, is_word, is_dnf, is_dns}

-- a digit is first
abbrev pub BeginsWithDigit : List ℕ → Type 0
BeginsWithDigit [] = ⊥
BeginsWithDigit (b ∷ bs) = is_ascii_digit b ≡ true

pub begins_by_digits : (bytes : List ℕ) → 1 ≤ length bytes → list_all is_ascii_digit bytes ≡ true
    → BeginsWithDigit bytes
begins_by_digits [] some digits = absurd (omega arith)
begins_by_digits (b ∷ bs) some digits =
    (and-true (is_ascii_digit b) (list_all is_ascii_digit bs) digits).0

pub begins_append : (xs ys : List ℕ) → BeginsWithDigit xs → BeginsWithDigit (xs ++ ys)
begins_append [] ys h = absurd h
begins_append (x ∷ xs) ys h = h

begins_along : (xs ys : List ℕ) → xs ≡ ys → BeginsWithDigit ys → BeginsWithDigit xs
begins_along xs ys e h = subst BeginsWithDigit (sym e) h

pub begins_pair : (marks text front : List ℕ) (n : ℕ) → EndsInPair marks text front n
    → BeginsWithDigit front → BeginsWithDigit text
begins_pair marks text front n ends h =
    begins_along text (front ++ ends.mark ∷ ends.tens ∷ ends.ones ∷ []) ends.parts
    (begins_append front (ends.mark ∷ ends.tens ∷ ends.ones ∷ []) h)

clock_begins : (text : List ℕ) (time : ℕ)
    → IsFilled text time ⊎ (IsSeconds text time ⊎ IsMinutes text time) → BeginsWithDigit text
clock_begins text time (inl f) = begins_by_digits text f.digits.some f.digits.decimal
clock_begins text time (inr (inl f)) =
    begins_pair points text f.front f.hundredths f.back
    (begins_by_digits f.front f.digits.some f.digits.decimal)
clock_begins text time (inr (inr f)) =
    begins_pair points text f.middle f.hundredths f.back
    (begins_pair colons f.middle f.front f.seconds f.between
    (begins_by_digits f.front f.digits.some f.digits.decimal))

pub timed_begins : (text : List ℕ) (time penalties : ℕ) → IsTimed text time penalties
    → BeginsWithDigit text
timed_begins text time penalties h =
    begins_along text (h.front ++ h.mark) h.parts
    (begins_append h.front h.mark (clock_begins h.front time h.timed.form))

pub decimal_begins : (n : ℕ) → n < 10000000000000000000 → BeginsWithDigit (decimal n)
decimal_begins n small =
    begins_by_digits (decimal n) (decimal_nonempty n (omega arith)) (decimal_digits n small)

pub multi_begins : (text : List ℕ) (s a t : ℕ) → IsMulti text s a t → BeginsWithDigit text
multi_begins text s a t h =
    let few = h.few in
    let all = h.all in
    begins_along text (decimal s ++ codes "/" ++ decimal a ++ codes " " ++ h.clock) h.parts
    (begins_append (decimal s ++ codes "/" ++ decimal a ++ codes " ") h.clock
    (begins_append (decimal s ++ codes "/" ++ decimal a) (codes " ")
    (begins_append (decimal s ++ codes "/") (decimal a)
    (begins_append (decimal s) (codes "/") (decimal_begins s (omega arith))))))

-- a word that begins with no digit
abbrev pub is_no_number : List ℕ → Bool
is_no_number word = not (is_ascii_digit (get_or word 0 0))

same_digit : (b : ℕ) → is_ascii_digit b ≡ true → to_ascii_lowercase b ≡ b
same_digit b digit = grind (arith, nat_tests)

word_begins : (words : List (List ℕ)) (text : List ℕ) → list_all is_no_number words ≡ true
    → is_word words text ≡ true → BeginsWithDigit text → ⊥
word_begins words [] none is begins = begins
word_begins [] (b ∷ bs) none is begins = false≢true is
word_begins (w ∷ ws) (b ∷ bs) none is begins =
    let both = and-true (is_no_number w) (list_all is_no_number ws) none in
    step both.0 (word_begins ws (b ∷ bs) both.1) (bytes_eq (map to_ascii_lowercase (b ∷ bs)) w)
    refl is
  where
    step : is_no_number w ≡ true → (is_word ws (b ∷ bs) ≡ true → BeginsWithDigit (b ∷ bs) → ⊥)
        → (t : Bool) → bytes_eq (map to_ascii_lowercase (b ∷ bs)) w ≡ t
        → (t || is_word ws (b ∷ bs)) ≡ true → ⊥
    step plain later false e h = later h begins
    step plain later true e h =
        let first : to_ascii_lowercase b ≡ get_or w 0 0 =
        ap (λ l. get_or l 0 0) (bytes_eq-equal (map to_ascii_lowercase (b ∷ bs)) w e) in
        let digit : is_ascii_digit (get_or w 0 0) ≡ true =
        ap is_ascii_digit (sym first ∙ same_digit b begins) ∙ begins in
        false≢true (sym (ap not digit) ∙ plain)

by_cases : (b : Bool) → (b ≡ true → ⊥) → b ≡ false
by_cases false not_it = refl
by_cases true not_it = absurd (not_it refl)

pub no_dnf : (unit : Measure) (text : List ℕ) → BeginsWithDigit text → is_dnf unit text ≡ false
no_dnf Time text h =
    by_cases (is_dnf Time text)
    (λ is. word_begins (codes "d" ∷ codes "dnf" ∷ codes "/" ∷ []) text refl is h)
no_dnf Moves text h =
    by_cases (is_dnf Moves text) (λ is. word_begins (codes "dnf" ∷ codes "/" ∷ []) text refl is h)
no_dnf Multi text h =
    by_cases (is_dnf Multi text)
    (λ is. word_begins (codes "d" ∷ codes "dnf" ∷ codes "/" ∷ []) text refl is h)

pub no_dns : (unit : Measure) (text : List ℕ) → BeginsWithDigit text → is_dns unit text ≡ false
no_dns Time text h =
    by_cases (is_dns Time text)
    (λ is. word_begins (codes "s" ∷ codes "dns" ∷ codes "*" ∷ []) text refl is h)
no_dns Moves text h =
    by_cases (is_dns Moves text) (λ is. word_begins (codes "dns" ∷ codes "*" ∷ []) text refl is h)
no_dns Multi text h =
    by_cases (is_dns Multi text)
    (λ is. word_begins (codes "s" ∷ codes "dns" ∷ codes "*" ∷ []) text refl is h)
