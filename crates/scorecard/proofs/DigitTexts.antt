-- Digits, and pairs of them at the end: what is read is what is spelled.
use Rattle.std.proofs.Common.{◌≡◌, ℕ, ◌+◌, ◌-◌, ◌*◌, ◌≤◌, Bool, true, false, ◌&&◌, nat_le, not}
use Rattle.std.proofs.Common.{◌||◌, ◌==◌, List, [], ◌∷◌, ◌++◌, length, take, drop, get_or, Option}
use Rattle.std.proofs.Common.{Some, None, refl, sym, ap, ◌∙◌, arith, take-append-drop, eqb-true}
use Rattle.std.{proofs.Common.length-append, specs.Char.is_ascii_digit, specs.List.list_all}
use Rattle.std.proofs.lemmas.{Bool.Decides.nat_tests, List.Folds.list_all-append}
use Rattle.std.proofs.lemmas.List.{take_at, get_or_at, drop_more, drop_all, get_or-append-add}
use Rattle.texts.{specs.Numerals.digits_value, proofs.Cuts.and-true, proofs.Spelled.chosen}
use Rattle.std.proofs.lemmas.Bool.{false≢true}
use Rattle.scorecard.specs.Spelling.{AreDigits, EndsInPair, is_among}
use Rattle.scorecard.specs.Reading.{number_of, last_but, pair_of, or_fault, ◌>>=◌}
use Rattle.scorecard.specs.declared.fault.ScorecardFault.{ScorecardFault}
use Rattle.std.proofs.Common.{Result, Ok, Err, cond}

-- what is read in two steps
pub record Bound {A B : Type 0} (o : Result A ScorecardFault) (f : A → Result B ScorecardFault)
    (x : B) : Type 0 where
  pub value : A
  pub was : o ≡ Ok value
  pub next : f value ≡ Ok x

pub bind_ok : {A B : Type 0} (o : Result A ScorecardFault) (f : A → Result B ScorecardFault) (x : B)
    → (o >>= f) ≡ Ok x → Bound o f x
bind_ok (Err e) f x h = absurd (let bad : Err e ≡ Ok x = h in cc)
bind_ok (Ok a) f x h = record { value = a; was = refl; next = h }

pub or_fault_ok : {A : Type 0} (e : ScorecardFault) (o : Option A) (x : A) → or_fault e o ≡ Ok x
    → o ≡ Some x
or_fault_ok e None x h = absurd (let bad : Err e ≡ Ok x = h in cc)
or_fault_ok e (Some y) x h = let same : Ok y ≡ Ok x = h in cc

-- what is read where a test is passed, and where none is met
pub kept_ok : {A : Type 0} (b : Bool) (y x : A) (e : ScorecardFault) → cond b (Ok y) (Err e) ≡ Ok x
    → (b ≡ true) × (y ≡ x)
kept_ok true y x e h = (refl, let same : Ok y ≡ Ok x = h in cc)
kept_ok false y x e h = absurd (let bad : Err e ≡ Ok x = h in cc)

pub spared_ok : {A : Type 0} (b : Bool) (y x : A) (e : ScorecardFault)
    → cond b (Err e) (Ok y) ≡ Ok x → (b ≡ false) × (y ≡ x)
spared_ok true y x e h = absurd (let bad : Err e ≡ Ok x = h in cc)
spared_ok false y x e h = (refl, let same : Ok y ≡ Ok x = h in cc)

-- no digit
abbrev pub is_no_digit : ℕ → Bool
is_no_digit b = not (is_ascii_digit b)

pub digits-read : (most : ℕ) (bytes : List ℕ) (n : ℕ) → number_of most bytes ≡ Some n
    → AreDigits most bytes n
unfolding number_of
digits-read most bytes n h =
    let yes =
    chosen (nat_le 1 (length bytes) && nat_le (length bytes) most && list_all is_ascii_digit bytes)
    (Some (digits_value bytes)) None n h refl in
    let parts =
    and-true (nat_le 1 (length bytes) && nat_le (length bytes) most) (list_all is_ascii_digit bytes)
    yes.0 in
    let lengths = and-true (nat_le 1 (length bytes)) (nat_le (length bytes) most) parts.0 in
    record {
      some = grind (arith, nat_tests, lengths.0);
      few = grind (arith, nat_tests, lengths.1);
      decimal = parts.1;
      value = let e = yes.1 in cc;
    }

pub digits-found : (most : ℕ) (bytes : List ℕ) (n : ℕ) → AreDigits most bytes n
    → number_of most bytes ≡ Some n
unfolding number_of
digits-found most bytes n h =
    let some : nat_le 1 (length bytes) ≡ true = let s = h.some in grind (arith, nat_tests) in
    let few : nat_le (length bytes) most ≡ true = let s = h.few in grind (arith, nat_tests) in
    rw (some, few, h.decimal) (ap Some h.value)

-- three bytes are left of a text before its last three
last_three : (bytes : List ℕ) → 3 ≤ length bytes
    → bytes ≡ take (length bytes - 3) bytes ++ last_but 3 bytes ∷ last_but 2 bytes
    ∷ last_but 1 bytes ∷ []
last_three bytes long =
    let one : length bytes - 3 + 1 ≡ length bytes - 2 = omega arith in
    let two : length bytes - 2 + 1 ≡ length bytes - 1 = omega arith in
    let a : drop (length bytes - 3) bytes ≡ last_but 3 bytes ∷ drop (length bytes - 3 + 1) bytes =
    drop_more bytes (length bytes - 3) 0 (omega arith) in
    let b : drop (length bytes - 2) bytes ≡ last_but 2 bytes ∷ drop (length bytes - 2 + 1) bytes =
    drop_more bytes (length bytes - 2) 0 (omega arith) in
    let c : drop (length bytes - 1) bytes ≡ last_but 1 bytes ∷ drop (length bytes - 1 + 1) bytes =
    drop_more bytes (length bytes - 1) 0 (omega arith) in
    let d : drop (length bytes - 1 + 1) bytes ≡ [] = drop_all _ bytes (omega arith) in
    sym (take-append-drop (length bytes - 3) bytes)
    ∙ ap (λ x. take (length bytes - 3) bytes ++ x) (a ∙ ap (λ x. last_but 3 bytes ∷ x)
    (ap (λ i. drop i bytes) one
    ∙ b ∙ ap (λ x. last_but 2 bytes ∷ x)
    (ap (λ i. drop i bytes) two ∙ c ∙ ap (λ x. last_but 1 bytes ∷ x) d)))

same_pair : (a b : List ℕ × ℕ) → Some a ≡ Some b → a ≡ b
same_pair a b h = cc

pub pair-read : (marks bytes front : List ℕ) (n : ℕ) → pair_of marks bytes ≡ Some (front, n)
    → EndsInPair marks bytes front n
unfolding pair_of
pair-read marks bytes front n h =
    let yes =
    chosen (nat_le 3 (length bytes) && is_among marks (last_but 3 bytes)
    && is_ascii_digit (last_but 2 bytes) && is_ascii_digit (last_but 1 bytes)) (Some (
      take (length bytes - 3) bytes,
      10 * (last_but 2 bytes - 48) + (last_but 1 bytes - 48),
    ))
    None (front, n) h refl in
    let last =
    and-true (nat_le 3 (length bytes) && is_among marks (last_but 3 bytes)
    && is_ascii_digit (last_but 2 bytes)) (is_ascii_digit (last_but 1 bytes)) yes.0 in
    let next =
    and-true (nat_le 3 (length bytes) && is_among marks (last_but 3 bytes))
    (is_ascii_digit (last_but 2 bytes)) last.0 in
    let first =
    and-true (nat_le 3 (length bytes)) (is_among marks (last_but 3 bytes)) next.0 in
    let long : 3 ≤ length bytes = let l = first.0 in grind (arith, nat_tests) in
    let pair =
    same_pair (
      take (length bytes - 3) bytes,
      10 * (last_but 2 bytes - 48) + (last_but 1 bytes - 48),
    ) (front, n) yes.1 in
    let start : take (length bytes - 3) bytes ≡ front = ap (λ (p : List ℕ × ℕ). p.0) pair in
    let value : 10 * (last_but 2 bytes - 48) + (last_but 1 bytes - 48) ≡ n =
    ap (λ (p : List ℕ × ℕ). p.1) pair in
    record {
      mark = last_but 3 bytes;
      tens = last_but 2 bytes;
      ones = last_but 1 bytes;
      parts = last_three bytes long ∙ ap (λ (x : List ℕ). x ++ last_but 3 bytes ∷ last_but 2 bytes
          ∷ last_but 1 bytes ∷ []) start;
      marked = first.1;
      pair = record {
        some = omega arith;
        few = omega arith;
        decimal = rw (next.1, last.1) refl;
        value = omega (arith, value);
      };
    }

pub pair-found : (marks bytes front : List ℕ) (n : ℕ) → EndsInPair marks bytes front n
    → pair_of marks bytes ≡ Some (front, n)
unfolding pair_of
pair-found marks bytes front n h =
    let long : length bytes ≡ length front + 3 =
    ap length h.parts ∙ length-append front (h.mark ∷ h.tens ∷ h.ones ∷ []) in
    let at : length bytes - 3 ≡ length front = omega arith in
    let at' : length bytes - 2 ≡ length front + 1 = omega arith in
    let at'' : length bytes - 1 ≡ length front + 2 = omega arith in
    let enough : nat_le 3 (length bytes) ≡ true = grind (arith, nat_tests) in
    let first : last_but 3 bytes ≡ h.mark =
    ap (λ i. get_or bytes i 0) at ∙ ap (λ x. get_or x (length front) 0) h.parts
    ∙ get_or_at front h.mark (h.tens ∷ h.ones ∷ []) 0 (length front) refl in
    let second : last_but 2 bytes ≡ h.tens =
    ap (λ i. get_or bytes i 0) at' ∙ ap (λ x. get_or x (length front + 1) 0) h.parts
    ∙ get_or-append-add front (h.mark ∷ h.tens ∷ h.ones ∷ []) 1 0 in
    let third : last_but 1 bytes ≡ h.ones =
    ap (λ i. get_or bytes i 0) at'' ∙ ap (λ x. get_or x (length front + 2) 0) h.parts
    ∙ get_or-append-add front (h.mark ∷ h.tens ∷ h.ones ∷ []) 2 0 in
    let before : take (length bytes - 3) bytes ≡ front =
    ap (λ i. take i bytes) at ∙ ap (take (length front)) h.parts
    ∙ take_at front (h.mark ∷ h.tens ∷ h.ones ∷ []) (length front) refl in
    let both =
    and-true (is_ascii_digit h.tens) (list_all is_ascii_digit (h.ones ∷ [])) h.pair.decimal in
    let last = and-true (is_ascii_digit h.ones) true both.1 in
    let value : 10 * (h.tens - 48) + (h.ones - 48) ≡ n = let v = h.pair.value in omega arith in
    rw (enough, first, second, third, before, h.marked, both.0, last.0, value) refl

-- a byte among digits that is one of these marks, where no mark is a digit
no_digit_among : (marks : List ℕ) (b : ℕ) → list_all is_no_digit marks ≡ true
    → is_among marks b ≡ true → is_ascii_digit b ≡ true → ⊥
no_digit_among [] b none among digit = false≢true among
no_digit_among (m ∷ ms) b none among digit =
    let both = and-true (is_no_digit m) (list_all is_no_digit ms) none in
    step both.0 (no_digit_among ms b both.1) (m == b) refl among
  where
    step : is_no_digit m ≡ true → (is_among ms b ≡ true → is_ascii_digit b ≡ true → ⊥)
        → (t : Bool) → (m == b) ≡ t → (t || is_among ms b) ≡ true → ⊥
    step plain later false is h = later h digit
    step plain later true is h =
        let same : m ≡ b = eqb-true m b is in
        let too : is_ascii_digit m ≡ true = ap is_ascii_digit same ∙ digit in
        false≢true (sym (ap not too) ∙ plain)

-- digits alone do not end in a mark and two digits
pub pair-none : (marks bytes : List ℕ) → list_all is_no_digit marks ≡ true
    → list_all is_ascii_digit bytes ≡ true → pair_of marks bytes ≡ None
pair-none marks bytes none digits = step (pair_of marks bytes) refl
  where
    step : (o : Option (List ℕ × ℕ)) → pair_of marks bytes ≡ o → o ≡ None
    step None is = refl
    step (Some p) is =
        let ends = pair-read marks bytes p.0 p.1 is in
        let all : (list_all is_ascii_digit p.0
        && list_all is_ascii_digit (ends.mark ∷ ends.tens ∷ ends.ones ∷ [])) ≡ true =
        sym (list_all-append is_ascii_digit p.0 (ends.mark ∷ ends.tens ∷ ends.ones ∷ []))
        ∙ ap (list_all is_ascii_digit) (sym ends.parts) ∙ digits in
        let last =
        and-true (list_all is_ascii_digit p.0)
        (list_all is_ascii_digit (ends.mark ∷ ends.tens ∷ ends.ones ∷ [])) all in
        let mark =
        and-true (is_ascii_digit ends.mark)
        (list_all is_ascii_digit (ends.tens ∷ ends.ones ∷ [])) last.1 in
        absurd (no_digit_among marks ends.mark none ends.marked mark.0)
