-- What is in a scorecard is read from its one spelling.
use Rattle.std.proofs.Common.{◌≡◌, nat_le, length, get_or, decimal, bytes_eq, Option, length-append}
use Rattle.std.proofs.Common.{ℕ, suc, ◌*◌, ◌≤◌, not, [], ◌∷◌, map, All, None, refl, sym, ap, ◌∙◌}
use Rattle.std.proofs.Common.{zero, Bool, true, false, cond, ◌==◌, List, codes, Some, subst, arith}
use Rattle.std.specs.{Prelude.IfSome, List.join_with_byte}
use Rattle.std.specs.Option.{option_map, option_and_then}
use Rattle.std.proofs.lemmas.{Bool.Decides.nat_tests, Fmt.length-decimal-le, List.length-map}
use Rattle.std.proofs.lemmas.List.Elements.{All-head, All-map, All-nil, All-tail}
use Rattle.attempts.specs.declared.Value.{Value}
use Rattle.attempts.specs.declared.Value.TheVariants.{Number, Dnf, Dns}
use Rattle.texts.{specs.declared.command.Entered.Entered, proofs.Bytes.stays_inner}
use Rattle.texts.specs.Spelling.{AreCounted, AreToStand, IsCounted, IsEntered, IsWithin}
use Rattle.texts.specs.Spelling.{counted_text, entered_text, now_text, stays_or_text, was_text}
use Rattle.texts.specs.Fields.{all_of, at_most_5, counted_of, entered_of, enters_later, now_of}
use Rattle.texts.specs.Fields.{number_between, over, stays_or_of, was_of}
use Rattle.texts.proofs.Bytes.{counts_counted, is_counted, is_inner, joined_pass, no_dash}
use Rattle.texts.proofs.{Bytes.passes_lack, Cuts.lacks, OutcomeSpellings.entered_spelled}
use Rattle.texts.proofs.FieldSpellings.{decimal_other, number_spelled}
use Rattle.texts.proofs.Spelled.{IsSpelled, bytes_eq-equal, chosen}
use Rattle.texts.proofs.Splits.{joined-found, joined-only, not_too_many, parts}
use Rattle.texts.specs.declared.command.Entered.TheVariants as entered

-- ---- lists with a byte between, or `-` for none

abbrev pub dashed : {A : Type 0} → ℕ → (A → List ℕ) → List A → List ℕ
dashed by text [] = codes "-"
dashed by text (x ∷ xs) = join_with_byte by (map text (x ∷ xs))

-- the values, where they pass a test
abbrev pub dashed_of : {A : Type 0} → (List A → Option (List A)) → (List ℕ → Option A) → ℕ
    → List ℕ → Option (List A)
dashed_of test of by bytes =
    cond (bytes_eq bytes (codes "-")) (Some [])
    (option_and_then test (all_of (map of (parts by bytes))))

pub dashed-only : {A : Type 0} {of : List ℕ → Option A} {text : A → List ℕ} {F : A → Type 0}
    → IsSpelled of text F → (by : ℕ) (test : List A → Option (List A)) (G : List A → Type 0)
    → G [] → ((xs ys : List A) → test xs ≡ Some ys → (xs ≡ ys) × G xs) → (bytes : List ℕ)
    → (xs : List A) → dashed_of test of by bytes ≡ Some xs
    → All F xs × G xs × (bytes ≡ dashed by text xs)
dashed-only {A = A} {of = of} {text = text} {F = F} s by test G none passes bytes xs h =
    step (bytes_eq bytes (codes "-")) refl h
  where
    are : (ys : List A) → 1 ≤ length ys → dashed by text ys ≡ join_with_byte by (map text ys)
    are [] some = absurd (omega arith)
    are (y ∷ ys) some = refl

    tested : (o : Option (List A)) → all_of (map of (parts by bytes)) ≡ o
        → option_and_then test o ≡ Some xs → All F xs × G xs × (bytes ≡ dashed by text xs)
    tested None is e = absurd (let bad : None ≡ Some xs = e in cc)
    tested (Some ys) is e =
        let read = joined-only s by bytes ys is in
        let passed = passes ys xs e in
        subst (λ (zs : List A). All F zs × G zs × (bytes ≡ dashed by text zs)) passed.0
        (read.0, passed.1, read.2 ∙ sym (are ys read.1))

    step : (b : Bool) → bytes_eq bytes (codes "-") ≡ b
        → cond b (Some []) (option_and_then test (all_of (map of (parts by bytes)))) ≡ Some xs
        → All F xs × G xs × (bytes ≡ dashed by text xs)
    step true is e =
        let same : [] ≡ xs = cc in
        subst (λ (zs : List A). All F zs × G zs × (bytes ≡ dashed by text zs)) same
        (All-nil F, none, bytes_eq-equal bytes (codes "-") is)
    step false is e = tested (all_of (map of (parts by bytes))) refl e

pub dashed-found : {A : Type 0} {of : List ℕ → Option A} {text : A → List ℕ} {F : A → Type 0}
    → IsSpelled of text F → (by : ℕ) (test : List A → Option (List A)) → not (by == 45) ≡ true
    → ((x : A) → F x → lacks by (text x) ≡ true) → ((x : A) → F x → lacks 45 (text x) ≡ true)
    → (xs : List A) → All F xs → test xs ≡ Some xs
    → dashed_of test of by (dashed by text xs) ≡ Some xs
dashed-found s by test other plain dash [] fits passes = refl
dashed-found {A = A} {of = of} {text = text} {F = F} s by test other plain dash (x ∷ xs) fits
    passes =
    rw (no_dash (dashed by text (x ∷ xs)) joined)
    (rw (joined-found s by x xs each fits) passes)
  where
    each : All (λ y. lacks by (text y) ≡ true) (x ∷ xs)
    each = λ k d less. plain (get_or (x ∷ xs) k d) (fits k d less)

    joined : lacks 45 (dashed by text (x ∷ xs)) ≡ true
    joined =
        joined_pass (λ b. not (b == 45)) by other (map text (x ∷ xs))
        (All-map (λ t. lacks 45 t ≡ true) text (x ∷ xs)
        (λ k d less. dash (get_or (x ∷ xs) k d) (fits k d less)))

five : {A : Type 0} (xs ys : List A) → at_most_5 xs ≡ Some ys → (xs ≡ ys) × (length xs ≤ 5)
five xs ys h =
    let yes = chosen (nat_le (length xs) 5) (Some xs) None ys h refl in
    let same : xs ≡ ys = let found = yes.1 in cc in
    let few : length xs ≤ 5 = grind (arith, nat_tests, yes.0) in
    (same, few)

-- ---- what attempts count

number : IsSpelled (number_between 0 990599949) decimal (IsWithin 0 990599949)
number = number_spelled 0 990599949 (omega arith)

abbrev IsCount : List ℕ → Value → Type 0
IsCount bytes v = IsCounted v × (bytes ≡ counted_text v)

pub counted_spelled : IsSpelled counted_of counted_text IsCounted
counted_spelled = record {
  only = λ bytes v h. dnf bytes v (bytes_eq bytes (codes "DNF")) refl h;
  found = found;
}
  where
    numbers : (bytes : List ℕ) (v : Value) (o : Option ℕ) → number_between 0 990599949 bytes ≡ o
        → option_map Number o ≡ Some v → IsCount bytes v
    numbers bytes v None is h = absurd (let bad : None ≡ Some v = h in cc)
    numbers bytes v (Some n) is h =
        let same : Number n ≡ v = cc in subst (IsCount bytes) same (number.only bytes n is)

    dns : (bytes : List ℕ) (v : Value) (b : Bool) → bytes_eq bytes (codes "DNS") ≡ b
        → cond b (Some Dns) (option_map Number (number_between 0 990599949 bytes)) ≡ Some v
        → IsCount bytes v
    dns bytes v false is h = numbers bytes v (number_between 0 990599949 bytes) refl h
    dns bytes v true is h =
        let same : Dns ≡ v = cc in
        subst (IsCount bytes) same (tt, bytes_eq-equal bytes (codes "DNS") is)

    dnf : (bytes : List ℕ) (v : Value) (b : Bool) → bytes_eq bytes (codes "DNF") ≡ b
        → cond b (Some Dnf)
        (cond (bytes_eq bytes (codes "DNS")) (Some Dns)
        (option_map Number (number_between 0 990599949 bytes)))
        ≡ Some v
        → IsCount bytes v
    dnf bytes v false is h = dns bytes v (bytes_eq bytes (codes "DNS")) refl h
    dnf bytes v true is h =
        let same : Dnf ≡ v = cc in
        subst (IsCount bytes) same (tt, bytes_eq-equal bytes (codes "DNF") is)

    found : (v : Value) → IsCounted v → counted_of (counted_text v) ≡ Some v
    found (Number n) fits =
        rw (
          decimal_other (codes "DNF") refl n (omega arith),
          decimal_other (codes "DNS") refl n (omega arith),
          number.found n fits,
        ) refl
    found Dnf fits = refl
    found Dns fits = refl

counted_lacks : (by : ℕ) → is_counted by ≡ false → (v : Value) → IsCounted v
    → lacks by (counted_text v) ≡ true
counted_lacks by fails v fits =
    passes_lack is_counted by fails (counted_text v) (counts_counted v fits)

pub was_spelled : IsSpelled was_of was_text AreCounted
unfolding was_of
was_spelled = record { only = only; found = found }
  where
    text : (vs : List Value) → dashed 44 counted_text vs ≡ was_text vs
    text [] = refl
    text (v ∷ vs) = refl

    only : (bytes : List ℕ) (vs : List Value) → was_of bytes ≡ Some vs
        → AreCounted vs × (bytes ≡ was_text vs)
    only bytes vs h =
        let read =
        dashed-only counted_spelled 44 (λ xs. at_most_5 xs) (λ xs. length xs ≤ 5) (omega arith) five
        bytes vs h in
        (((omega arith, read.1), read.0), read.2 ∙ text vs)

    found : (vs : List Value) → AreCounted vs → was_of (was_text vs) ≡ Some vs
    found vs fits =
        ap was_of (sym (text vs))
        ∙ dashed-found counted_spelled 44 (λ xs. at_most_5 xs) refl (counted_lacks 44 refl)
        (counted_lacks 45 refl) vs fits.1 (not_too_many vs fits.0.1)

-- ---- the attempts that are to stand

not_equals : (x : Entered) → bytes_eq (entered_text x) (codes "=") ≡ false
not_equals (entered.Time t p) = refl
not_equals _ = refl

stays_or_spelled : IsSpelled stays_or_of stays_or_text (λ x. IfSome x IsEntered)
stays_or_spelled = record { only = only; found = found }
  where
    outcome : (bytes : List ℕ) (x : Option Entered) (o : Option Entered) → entered_of bytes ≡ o
        → option_map Some o ≡ Some x → IfSome x IsEntered × (bytes ≡ stays_or_text x)
    outcome bytes x None is h = absurd (let bad : None ≡ Some x = h in cc)
    outcome bytes x (Some y) is h =
        let same : Some y ≡ x = cc in
        subst (λ (z : Option Entered). IfSome z IsEntered × (bytes ≡ stays_or_text z)) same
        (entered_spelled.only bytes y is)

    step : (bytes : List ℕ) (x : Option Entered) (b : Bool) → bytes_eq bytes (codes "=") ≡ b
        → cond b (Some None) (option_map Some (entered_of bytes)) ≡ Some x
        → IfSome x IsEntered × (bytes ≡ stays_or_text x)
    step bytes x false is h = outcome bytes x (entered_of bytes) refl h
    step bytes x true is h =
        let same : None ≡ x = cc in
        subst (λ (z : Option Entered). IfSome z IsEntered × (bytes ≡ stays_or_text z)) same
        (tt, bytes_eq-equal bytes (codes "=") is)

    only : (bytes : List ℕ) (x : Option Entered) → stays_or_of bytes ≡ Some x
        → IfSome x IsEntered × (bytes ≡ stays_or_text x)
    only bytes x h = step bytes x (bytes_eq bytes (codes "=")) refl h

    found : (x : Option Entered) → IfSome x IsEntered → stays_or_of (stays_or_text x) ≡ Some x
    found None fits = refl
    found (Some x) fits = rw (not_equals x, entered_spelled.found x fits) refl

stays_lacks : (by : ℕ) → is_inner by ≡ false → (x : Option Entered) → IfSome x IsEntered
    → lacks by (stays_or_text x) ≡ true
stays_lacks by fails x fits = passes_lack is_inner by fails (stays_or_text x) (stays_inner x fits)

pub now_spelled : (stands : ℕ) → IsSpelled (now_of stands) now_text (AreToStand stands)
unfolding now_of
now_spelled stands = record { only = only; found = found }
  where
    text : (xs : List (Option Entered)) → dashed 47 stays_or_text xs ≡ now_text xs
    text [] = refl
    text (x ∷ xs) = refl

    none : (n : ℕ) → enters_later n [] ≡ true
    none zero = refl
    none (suc n) = refl

    passes : (xs ys : List (Option Entered)) → over stands xs ≡ Some ys
        → (xs ≡ ys) × ((length xs ≤ 5) × (enters_later stands xs ≡ true))
    passes xs ys h =
        let yes = chosen (enters_later stands xs) (at_most_5 xs) None ys h refl in
        let few = five xs ys yes.1 in
        (few.0, (few.1, yes.0))

    only : (bytes : List ℕ) (xs : List (Option Entered)) → now_of stands bytes ≡ Some xs
        → AreToStand stands xs × (bytes ≡ now_text xs)
    only bytes xs h =
        let read =
        dashed-only stays_or_spelled 47 (over stands)
        (λ xs. (length xs ≤ 5) × (enters_later stands xs ≡ true)) (omega arith, none stands) passes
        bytes xs h in
        (((omega arith, read.1.0), read.0, read.1.1), read.2 ∙ text xs)

    found : (xs : List (Option Entered)) → AreToStand stands xs
        → now_of stands (now_text xs) ≡ Some xs
    found xs fits =
        ap (now_of stands) (sym (text xs))
        ∙ dashed-found stays_or_spelled 47 (over stands) refl (stays_lacks 47 refl)
        (stays_lacks 45 refl) xs fits.1 (rw fits.2 (not_too_many xs fits.0.1))

-- ---- how long what stands is

counted_short : (v : Value) → IsCounted v → length (counted_text v) ≤ 9
counted_short (Number n) fits = length-decimal-le 9 n (omega arith) (omega arith) (omega arith)
counted_short Dnf fits = omega arith
counted_short Dns fits = omega arith

texts_short : (texts : List (List ℕ)) → All (λ t. length t ≤ 9) texts
    → length (join_with_byte 44 texts) ≤ 10 * length texts
texts_short [] short = omega arith
texts_short (t ∷ []) short =
    let first : length t ≤ 9 = All-head (λ (x : List ℕ). length x ≤ 9) t [] short in omega arith
texts_short (t ∷ u ∷ texts) short =
    let later =
    texts_short (u ∷ texts) (All-tail (λ (x : List ℕ). length x ≤ 9) t (u ∷ texts) short) in
    let first : length t ≤ 9 = All-head (λ (x : List ℕ). length x ≤ 9) t (u ∷ texts) short in
    let total = length-append t (44 ∷ join_with_byte 44 (u ∷ texts)) in
    omega arith

pub was_short : (vs : List Value) → AreCounted vs → length (was_text vs) ≤ 80
was_short [] fits = omega arith
was_short (v ∷ vs) fits =
    let all =
    texts_short (map counted_text (v ∷ vs))
    (All-map (λ (t : List ℕ). length t ≤ 9) counted_text (v ∷ vs)
    (λ k d less. counted_short (get_or (v ∷ vs) k d) (fits.1 k d less))) in
    let count = length-map (v ∷ vs) counted_text in
    let few = fits.0.1 in
    omega arith

-- ---- what the code reads

pub was_is : (bytes : List ℕ) → bytes_eq bytes (codes "-") ≡ false
    → was_of bytes ≡ option_and_then at_most_5 (all_of (map counted_of (parts 44 bytes)))
unfolding was_of
was_is bytes other = rw other refl

-- the outcomes, where those that stay are among this many that count
pub now_is : (stands : ℕ) (bytes : List ℕ) (o : Option (List (Option Entered)))
    → bytes_eq bytes (codes "-") ≡ false
    → o ≡ option_and_then at_most_5 (all_of (map stays_or_of (parts 47 bytes)))
    → now_of stands bytes ≡ option_and_then (λ xs. cond (enters_later stands xs) (Some xs) None) o
unfolding now_of
now_is stands bytes o other is =
    rw other (rw is (step (all_of (map stays_or_of (parts 47 bytes)))))
  where
    tested : (xs : List (Option Entered)) (few : Bool)
        → cond (enters_later stands xs) (cond few (Some xs) None) None
        ≡ option_and_then (λ ys. cond (enters_later stands ys) (Some ys) None)
        (cond few (Some xs) None)
    tested xs true = refl
    tested xs false = none (enters_later stands xs)
      where
        none : (b : Bool) → (let n : Option (List (Option Entered)) = None in cond b n n ≡ n)
        none true = refl
        none false = refl

    step : (o : Option (List (Option Entered)))
        → option_and_then (over stands) o
        ≡ option_and_then (λ ys. cond (enters_later stands ys) (Some ys) None)
        (option_and_then at_most_5 o)
    step None = refl
    step (Some xs) = tested xs (nat_le (length xs) 5)
