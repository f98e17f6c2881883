-- A field is read from its one spelling.
use Rattle.std.proofs.Common.{◌≡◌, ◌↔◌, ℕ, ◌+◌, ◌<◌, ◌≤◌, Bool, true, false, ◌&&◌, ◌||◌, ◌==◌, not}
use Rattle.std.proofs.Common.{cond, nat_le, IsTrue, List, [], ◌∷◌, ◌++◌, length, take, drop, codes}
use Rattle.std.proofs.Common.{decimal, bytes_eq, Option, Some, None, refl, sym, ap, ◌∙◌, subst}
use Rattle.std.proofs.Common.{arith, append_assoc, eqb-true, take-append-drop, length-append}
use Rattle.std.specs.{Char.is_ascii_digit, List.list_all, Option.option_map, Option.option_and_then}
use Rattle.std.proofs.lemmas.Bool.{false≢true}
use Rattle.std.proofs.lemmas.Bool.Decides.{nat_tests}
use Rattle.std.proofs.lemmas.Fmt.{digits_decimal, length-decimal-le, decimal_nonempty}
use Rattle.formats.specs.declared.events.Event.{Event, TheVariants.Cube3}
use Rattle.formats.specs.declared.events.Format.{Format, TheVariants.Ao5}
use Rattle.formats.specs.Events.{all_events, event_name, event_of_name, formats, format_name}
use Rattle.formats.specs.{Events.format_named, declared.advance.Advance.Advance}
use Rattle.formats.specs.declared.advance.Advance.TheVariants.{Final, Top, Percent}
use Rattle.texts.specs.{Numerals.digits_value, Numerals.within, Names.is_name_in, Names.is_name}
use Rattle.texts.specs.Names.{has_single_spaces, is_name_byte, is_early_name, is_clear_name}
use Rattle.texts.specs.Spelling.{IsWithin, IsFitCutoff, IsFitLimit, IsFitAdvance, cutoff_text}
use Rattle.texts.specs.Spelling.{limit_text, advance_text}
use Rattle.texts.specs.Fields.{number_between, name_of, new_name_of, cutoff_of, limit_of}
use Rattle.texts.specs.Fields.{advance_of, cut, pair_with, second_number, two_numbers}
use Rattle.texts.proofs.Numerals.{own, number_between-decimal}
use Rattle.texts.proofs.Cuts.{and-true, lacks, behind, cut_spelled, cut-behind}
use Rattle.texts.proofs.Spelled.{IsSpelled, chosen, bytes_eq-equal, find-only}

-- Numbers.

pub number_spelled : (low high : ℕ) → high < 10000000000000000000
    → IsSpelled (number_between low high) decimal (IsWithin low high)
unfolding number_between
number_spelled low high small = record {
  only = λ bytes n h.
      let first =
      chosen (bytes_eq bytes (decimal (digits_value bytes))) (within low high (digits_value bytes))
      None n h refl in
      let second =
      chosen (nat_le low (digits_value bytes) && nat_le (digits_value bytes) high)
      (Some (digits_value bytes)) None n first.1 refl in
      let value : digits_value bytes ≡ n = let e = second.1 in cc in
      let above : low ≤ digits_value bytes = grind (arith, nat_tests, second.0) in
      let below : digits_value bytes ≤ high = grind (arith, nat_tests, second.0) in
      ((omega arith, omega arith), bytes_eq-equal bytes _ first.0 ∙ ap decimal value);
  found = λ n fits. number_between-decimal low high n fits.0 fits.1 small;
}

-- a number that was read, or that was not
pub number_spelled_alone : (low high : ℕ) (bytes : List ℕ) (read : Option ℕ)
    → high < 10000000000000000000 → read ≡ number_between low high bytes → (n : ℕ)
    → (read ≡ Some n) ↔ ((low ≤ n) × (n ≤ high) × (bytes ≡ decimal n))
number_spelled_alone low high bytes read small is n = (
  λ h. let s = (number_spelled low high small).only bytes n (sym is ∙ h) in (s.0.0, s.0.1, s.1),
  λ h. is ∙ ap (number_between low high) h.2 ∙ (number_spelled low high small).found n (h.0, h.1),
)

pub number_short : (n : ℕ) → n < 10000000000000000000 → length (decimal n) ≤ 80
number_short n small =
    let few = length-decimal-le 19 n (omega arith) (omega arith) (omega arith) in omega arith

digits_lack : (by : ℕ) → is_ascii_digit by ≡ false → (bytes : List ℕ)
    → list_all is_ascii_digit bytes ≡ true → lacks by bytes ≡ true
digits_lack by other [] h = refl
digits_lack by other (b ∷ bytes) h =
    let both = and-true (is_ascii_digit b) (list_all is_ascii_digit bytes) h in
    let first : not (b == by) ≡ true = step (b == by) refl both.0 in
    rw (first, digits_lack by other bytes both.1) refl
  where
    step : (t : Bool) → (b == by) ≡ t → is_ascii_digit b ≡ true → not t ≡ true
    step false is digit = refl
    step true is digit =
        absurd (false≢true (sym other ∙ ap is_ascii_digit (sym (eqb-true b by is)) ∙ digit))

pub decimal_digits : (n : ℕ) → n < 10000000000000000000 → list_all is_ascii_digit (decimal n) ≡ true
decimal_digits n small = digits_decimal own n (omega arith)

pub decimal_no_space : (n : ℕ) → n < 10000000000000000000 → lacks 32 (decimal n) ≡ true
decimal_no_space n small = digits_lack 32 refl (decimal n) (decimal_digits n small)

pub decimal_no_colon : (n : ℕ) → n < 10000000000000000000 → lacks 58 (decimal n) ≡ true
decimal_no_colon n small = digits_lack 58 refl (decimal n) (decimal_digits n small)

-- a number is not a text with another byte than digits
pub decimal_other : (text : List ℕ) → list_all is_ascii_digit text ≡ false → (n : ℕ)
    → n < 10000000000000000000 → bytes_eq (decimal n) text ≡ false
decimal_other text other n small = step (bytes_eq (decimal n) text) refl
  where
    step : (b : Bool) → bytes_eq (decimal n) text ≡ b → b ≡ false
    step false is = refl
    step true is =
        let digit : list_all is_ascii_digit text ≡ true =
        subst (λ (x : List ℕ). list_all is_ascii_digit x ≡ true)
        (bytes_eq-equal (decimal n) text is) (decimal_digits n small) in
        absurd (false≢true (sym other ∙ digit))

decimal_no_dash : (n : ℕ) → n < 10000000000000000000 → bytes_eq (decimal n) (codes "-") ≡ false
decimal_no_dash n small = decimal_other (codes "-") refl n small

-- Names.

pub name_spelled : IsSpelled name_of (λ bytes. bytes) (λ bytes. IsTrue (is_name bytes))
unfolding name_of
name_spelled = record {
  only = λ bytes x h.
      let yes = chosen (is_name bytes) (Some bytes) None x h refl in
      let same : bytes ≡ x = let e = yes.1 in cc in
      (subst (λ (y : List ℕ). is_name y ≡ true) same yes.0, same);
  found = λ bytes fits. rw fits refl;
}

pub new_name_spelled
    : IsSpelled new_name_of (λ bytes. bytes) (λ bytes. IsTrue (is_name_in 3 bytes))
unfolding new_name_of
new_name_spelled = record {
  only = λ bytes x h.
      let yes = chosen (is_name_in 3 bytes) (Some bytes) None x h refl in
      let same : bytes ≡ x = let e = yes.1 in cc in
      (subst (λ (y : List ℕ). is_name_in 3 y ≡ true) same yes.0, same);
  found = λ bytes fits. rw fits refl;
}

-- how long a name is in editions 1 and 2, in edition 3, and in some edition
pub early_name_short : (bytes : List ℕ) → IsTrue (is_early_name bytes) → length bytes ≤ 80
early_name_short bytes fits = grind (arith, nat_tests)

pub new_name_short : (bytes : List ℕ) → IsTrue (is_name_in 3 bytes) → length bytes ≤ 160
unfolding is_clear_name
new_name_short bytes fits = grind (arith, nat_tests)

pub name_short : (bytes : List ℕ) → IsTrue (is_name bytes) → length bytes ≤ 160
name_short bytes fits = step (is_early_name bytes) refl fits
  where
    step : (b : Bool) → is_early_name bytes ≡ b → (b || is_clear_name bytes) ≡ true
        → length bytes ≤ 160
    step true is h = let few = early_name_short bytes is in omega arith
    step false is h = new_name_short bytes h

-- no byte of a name is a control character of ASCII
early_name_bytes : (bytes : List ℕ) → IsTrue (is_early_name bytes)
    → list_all is_name_byte bytes ≡ true
early_name_bytes bytes fits =
    (and-true _ (list_all is_name_byte bytes) (and-true _ (has_single_spaces bytes) fits).0).1

pub new_name_bytes : (bytes : List ℕ) → IsTrue (is_name_in 3 bytes)
    → list_all is_name_byte bytes ≡ true
unfolding is_clear_name
new_name_bytes bytes fits =
    (and-true _ (list_all is_name_byte bytes) (and-true _ (has_single_spaces bytes) fits).0).1

pub name_bytes : (bytes : List ℕ) → IsTrue (is_name bytes) → list_all is_name_byte bytes ≡ true
name_bytes bytes fits = step (is_early_name bytes) refl fits
  where
    step : (b : Bool) → is_early_name bytes ≡ b → (b || is_clear_name bytes) ≡ true
        → list_all is_name_byte bytes ≡ true
    step true is h = early_name_bytes bytes is
    step false is h = new_name_bytes bytes h

-- Events and formats.

pub event_spelled : IsSpelled event_of_name event_name (λ x. Unit {0})
unfolding event_of_name
event_spelled =
    record { only = λ bytes x h. (tt, find-only event_name bytes all_events x h); found = found }
  where
    found : (x : Event) → Unit {0} → event_of_name (event_name x) ≡ Some x
    found Cube3 fits = refl
    found _ fits = refl

pub event_short : (x : Event) → length (event_name x) ≤ 80
event_short Cube3 = omega arith
event_short _ = omega arith

pub event_no_space : (x : Event) → lacks 32 (event_name x) ≡ true
event_no_space Cube3 = refl
event_no_space _ = refl

pub format_spelled : IsSpelled format_named format_name (λ x. Unit {0})
unfolding format_named
format_spelled =
    record { only = λ bytes x h. (tt, find-only format_name bytes formats x h); found = found }
  where
    found : (x : Format) → Unit {0} → format_named (format_name x) ≡ Some x
    found Ao5 fits = refl
    found _ fits = refl

pub format_short : (x : Format) → length (format_name x) ≤ 80
format_short Ao5 = omega arith
format_short _ = omega arith

pub format_no_space : (x : Format) → lacks 32 (format_name x) ≡ true
format_no_space Ao5 = refl
format_no_space _ = refl

-- Two numbers with a colon between.

abbrev pub pair_text : ℕ × ℕ → List ℕ
pair_text p = decimal p.0 ++ codes ":" ++ decimal p.1

abbrev pub ArePair : (ℕ → Type 0) → (ℕ → Type 0) → List ℕ × Option (List ℕ) → ℕ × ℕ → Type 0
ArePair First Second parts p =
    (First p.0 × Second p.1) × (parts.0 ++ behind 58 parts.1 ≡ pair_text p)

pub pair-only : (first second : List ℕ → Option ℕ) (First Second : ℕ → Type 0)
    → IsSpelled first decimal First → IsSpelled second decimal Second
    → (parts : List ℕ × Option (List ℕ)) (p : ℕ × ℕ) → two_numbers first second parts ≡ Some p
    → ArePair First Second parts p
pair-only first second First Second one two parts p h = start (first parts.0) refl h
  where
    third : (a b : ℕ) (back : List ℕ) → first parts.0 ≡ Some a → parts.1 ≡ Some back
        → second back ≡ Some b → pair_with a b ≡ p → ArePair First Second parts p
    third a b back front is end e =
        let x = one.only parts.0 a front in
        let y = two.only back b end in
        subst (ArePair First Second parts) e ((x.0, y.0), rw (is, x.1, y.1) (simp append_assoc))

    next : (a : ℕ) (back : List ℕ) → first parts.0 ≡ Some a → parts.1 ≡ Some back → (o : Option ℕ)
        → second back ≡ o → option_map (pair_with a) o ≡ Some p → ArePair First Second parts p
    next a back front is None end e = absurd (let bad : None ≡ Some p = e in cc)
    next a back front is (Some b) end e =
        third a b back front is end (let same : pair_with a b ≡ p = cc in same)

    after : (a : ℕ) → first parts.0 ≡ Some a → (o : Option (List ℕ)) → parts.1 ≡ o
        → second_number second a o ≡ Some p → ArePair First Second parts p
    after a front None is e = absurd (let bad : None ≡ Some p = e in cc)
    after a front (Some back) is e = next a back front is (second back) refl e

    start : (o : Option ℕ) → first parts.0 ≡ o
        → option_and_then (λ a. second_number second a parts.1) o ≡ Some p
        → ArePair First Second parts p
    start None front e = absurd (let bad : None ≡ Some p = e in cc)
    start (Some a) front e = after a front parts.1 refl e

pub pair-found : (first second : List ℕ → Option ℕ) (First Second : ℕ → Type 0)
    → IsSpelled first decimal First → IsSpelled second decimal Second → (a b : ℕ)
    → a < 10000000000000000000
    → First a → Second b
    → two_numbers first second (cut 58 (decimal a ++ codes ":" ++ decimal b)) ≡ Some (pair_with a b)
pair-found first second First Second one two a b small x y =
    rw (append_assoc (decimal a) (codes ":") (decimal b))
    (rw (cut-behind 58 (decimal a) (Some (decimal b)) (decimal_no_colon a small))
    (rw (one.found a x, two.found b y) refl))

lacks-append : (by : ℕ) (xs ys : List ℕ) → lacks by xs ≡ true → lacks by ys ≡ true
    → lacks by (xs ++ ys) ≡ true
lacks-append by [] ys front back = back
lacks-append by (x ∷ xs) ys front back =
    let both = and-true (not (x == by)) (lacks by xs) front in
    rw (both.0, lacks-append by xs ys both.1 back) refl

pair_no_space : (a b : ℕ) → a < 10000000000000000000 → b < 10000000000000000000
    → lacks 32 (pair_text (pair_with a b)) ≡ true
pair_no_space a b small small' =
    lacks-append 32 (decimal a ++ codes ":") (decimal b)
    (lacks-append 32 (decimal a) (codes ":") (decimal_no_space a small) refl)
    (decimal_no_space b small')

pair_length : (a b : ℕ)
    → length (pair_text (pair_with a b)) ≡ length (decimal a) + 1 + length (decimal b)
pair_length a b =
    length-append (decimal a ++ codes ":") (decimal b)
    ∙ ap (λ n. n + length (decimal b)) (length-append (decimal a) (codes ":"))

pair_short : (a b : ℕ) → a < 10000000000000000000 → b < 10000000000000000000
    → length (pair_text (pair_with a b)) ≤ 80
pair_short a b small small' =
    let first = length-decimal-le 19 a (omega arith) (omega arith) (omega arith) in
    let last = length-decimal-le 19 b (omega arith) (omega arith) (omega arith) in
    omega (arith, pair_length a b)

pair_no_dash : (a b : ℕ) → 1 ≤ a → 1 ≤ b → a < 10000000000000000000 → b < 10000000000000000000
    → bytes_eq (pair_text (pair_with a b)) (codes "-") ≡ false
pair_no_dash a b some some' small small' =
    step (bytes_eq (pair_text (pair_with a b)) (codes "-")) refl
  where
    step : (t : Bool) → bytes_eq (pair_text (pair_with a b)) (codes "-") ≡ t → t ≡ false
    step false is = refl
    step true is =
        let one : length (pair_text (pair_with a b)) ≡ 1 =
        ap length (bytes_eq-equal (pair_text (pair_with a b)) (codes "-") is) in
        let first = decimal_nonempty a (omega arith) in
        absurd (omega (arith, pair_length a b))

-- Cutoffs, limits and who advances.

attempts : IsSpelled (number_between 1 4) decimal (IsWithin 1 4)
attempts = number_spelled 1 4 (omega arith)

border : IsSpelled (number_between 1 360000) decimal (IsWithin 1 360000)
border = number_spelled 1 360000 (omega arith)

pub cutoff_spelled : IsSpelled cutoff_of cutoff_text IsFitCutoff
cutoff_spelled =
    record {
      only = λ bytes x h.
          only bytes x (bytes_eq bytes (codes "-")) refl
          (two_numbers (number_between 1 4) (number_between 1 360000) (cut 58 bytes)) refl h;
      found = found;
    }
  where
    only : (bytes : List ℕ) (x : Option (ℕ × ℕ)) (t : Bool) → bytes_eq bytes (codes "-") ≡ t
        → (o : Option (ℕ × ℕ))
        → two_numbers (number_between 1 4) (number_between 1 360000) (cut 58 bytes) ≡ o
        → cond t (Some None) (option_map Some o) ≡ Some x → IsFitCutoff x × (bytes ≡ cutoff_text x)
    only bytes None true dash o is h = (tt, bytes_eq-equal bytes (codes "-") dash)
    only bytes (Some p) true dash o is h = absurd (let bad : None ≡ Some p = cc in cc)
    only bytes x false dash None is h = absurd (let bad : None ≡ Some x = h in cc)
    only bytes None false dash (Some p) is h = absurd (let bad : Some p ≡ None = cc in cc)
    only bytes (Some p) false dash (Some q) is h =
        let same : q ≡ p = cc in
        let read = pair-only _ _ _ _ attempts border (cut 58 bytes) p (is ∙ ap Some same) in
        (read.0, cut_spelled 58 bytes ∙ read.1)

    found : (x : Option (ℕ × ℕ)) → IsFitCutoff x → cutoff_of (cutoff_text x) ≡ Some x
    found None fits = refl
    found (Some p) fits =
        rw (pair_no_dash p.0 p.1 fits.0.0 fits.1.0 (omega arith) (omega arith))
        (rw (pair-found _ _ _ _ attempts border p.0 p.1 (omega arith) fits.0 fits.1) refl)

pub cutoff_short : (x : Option (ℕ × ℕ)) → IsFitCutoff x → length (cutoff_text x) ≤ 80
cutoff_short None fits = omega arith
cutoff_short (Some p) fits = pair_short p.0 p.1 (omega arith) (omega arith)

pub cutoff_no_space : (x : Option (ℕ × ℕ)) → IsFitCutoff x → lacks 32 (cutoff_text x) ≡ true
cutoff_no_space None fits = refl
cutoff_no_space (Some p) fits = pair_no_space p.0 p.1 (omega arith) (omega arith)

abbrev pub number_or_dash : Bool → Option ℕ → Option (Option ℕ)
number_or_dash b o = cond b (Some None) (option_map Some o)

pub limit_spelled : IsSpelled limit_of limit_text IsFitLimit
limit_spelled = record {
  only =
      λ bytes x h.
      only bytes x (bytes_eq bytes (codes "-")) (number_between 1 360000 bytes) refl refl h;
  found = found;
}
  where
    number : IsSpelled (number_between 1 360000) decimal (IsWithin 1 360000)
    number = number_spelled 1 360000 (omega arith)

    only : (bytes : List ℕ) (x : Option ℕ) (b : Bool) (o : Option ℕ)
        → bytes_eq bytes (codes "-") ≡ b → number_between 1 360000 bytes ≡ o
        → number_or_dash b o ≡ Some x → IsFitLimit x × (bytes ≡ limit_text x)
    only bytes None true o dash is h = (tt, bytes_eq-equal bytes (codes "-") dash)
    only bytes (Some n) true o dash is h = absurd (let bad : None ≡ Some n = cc in cc)
    only bytes x false None dash is h = absurd (let bad : None ≡ Some x = h in cc)
    only bytes None false (Some m) dash is h = absurd (let bad : Some m ≡ None = cc in cc)
    only bytes (Some n) false (Some m) dash is h =
        let same : m ≡ n = cc in number.only bytes n (is ∙ ap Some same)

    found : (x : Option ℕ) → IsFitLimit x → limit_of (limit_text x) ≡ Some x
    found None fits = refl
    found (Some n) fits = rw (decimal_no_dash n (omega arith), number.found n fits) refl

pub limit_short : (x : Option ℕ) → IsFitLimit x → length (limit_text x) ≤ 80
limit_short None fits = omega arith
limit_short (Some n) fits = number_short n (omega arith)

pub limit_no_space : (x : Option ℕ) → IsFitLimit x → lacks 32 (limit_text x) ≡ true
limit_no_space None fits = refl
limit_no_space (Some n) fits = decimal_no_space n (omega arith)

top : IsSpelled (number_between 1 999) decimal (IsWithin 1 999)
top = number_spelled 1 999 (omega arith)

percent : IsSpelled (number_between 1 75) decimal (IsWithin 1 75)
percent = number_spelled 1 75 (omega arith)

abbrev IsAdvance : List ℕ → Advance → Type 0
IsAdvance bytes x = IsFitAdvance x × (bytes ≡ advance_text x)

-- a number after four bytes that say what it is of
behind_word : (make : ℕ → Advance) (word bytes : List ℕ) (of : List ℕ → Option ℕ) (x : Advance)
    → bytes_eq (take 4 bytes) word ≡ true → ((n : ℕ) → word ++ decimal n ≡ advance_text (make n))
    → ((n : ℕ) → of (drop 4 bytes) ≡ Some n → IsFitAdvance (make n) × (drop 4 bytes ≡ decimal n))
    → (o : Option ℕ) → of (drop 4 bytes) ≡ o → option_map make o ≡ Some x → IsAdvance bytes x
behind_word make word bytes of x is text read None e h = absurd (let bad : None ≡ Some x = h in cc)
behind_word make word bytes of x is text read (Some n) e h =
    let same : make n ≡ x = cc in
    let number = read n e in
    subst (IsAdvance bytes) same (
      number.0,
      sym (take-append-drop 4 bytes) ∙ ap (λ y. take 4 bytes ++ y) number.1
          ∙ ap (λ y. y ++ decimal n) (bytes_eq-equal (take 4 bytes) word is) ∙ text n,
    )

pub advance_spelled : IsSpelled advance_of advance_text IsFitAdvance
advance_spelled = record {
  only = λ bytes x h. final bytes x (bytes_eq bytes (codes "final")) refl h;
  found = found;
}
  where
    percents : (bytes : List ℕ) (x : Advance) (b : Bool)
        → bytes_eq (take 4 bytes) (codes "pct:") ≡ b
        → cond b (option_map Percent (number_between 1 75 (drop 4 bytes))) None ≡ Some x
        → IsAdvance bytes x
    percents bytes x false is h = absurd (let bad : None ≡ Some x = h in cc)
    percents bytes x true is h =
        behind_word Percent (codes "pct:") bytes (number_between 1 75) x is (λ n. refl)
        (λ n e. percent.only (drop 4 bytes) n e) (number_between 1 75 (drop 4 bytes)) refl h

    tops : (bytes : List ℕ) (x : Advance) (b : Bool) → bytes_eq (take 4 bytes) (codes "top:") ≡ b
        → cond b (option_map Top (number_between 1 999 (drop 4 bytes)))
        (cond (bytes_eq (take 4 bytes) (codes "pct:"))
        (option_map Percent (number_between 1 75 (drop 4 bytes))) None)
        ≡ Some x
        → IsAdvance bytes x
    tops bytes x false is h = percents bytes x (bytes_eq (take 4 bytes) (codes "pct:")) refl h
    tops bytes x true is h =
        behind_word Top (codes "top:") bytes (number_between 1 999) x is (λ n. refl)
        (λ n e. top.only (drop 4 bytes) n e) (number_between 1 999 (drop 4 bytes)) refl h

    final : (bytes : List ℕ) (x : Advance) (b : Bool) → bytes_eq bytes (codes "final") ≡ b
        → cond b (Some Final)
        (cond (bytes_eq (take 4 bytes) (codes "top:"))
        (option_map Top (number_between 1 999 (drop 4 bytes)))
        (cond (bytes_eq (take 4 bytes) (codes "pct:"))
        (option_map Percent (number_between 1 75 (drop 4 bytes))) None))
        ≡ Some x
        → IsAdvance bytes x
    final bytes x false is h = tops bytes x (bytes_eq (take 4 bytes) (codes "top:")) refl h
    final bytes x true is h =
        let same : Final ≡ x = cc in
        subst (IsAdvance bytes) same (tt, bytes_eq-equal bytes (codes "final") is)

    found : (x : Advance) → IsFitAdvance x → advance_of (advance_text x) ≡ Some x
    found Final fits = refl
    found (Top n) fits = rw (top.found n fits) refl
    found (Percent n) fits = rw (percent.found n fits) refl

pub advance_short : (x : Advance) → IsFitAdvance x → length (advance_text x) ≤ 80
advance_short Final fits = omega arith
advance_short (Top n) fits =
    let few = length-decimal-le 19 n (omega arith) (omega arith) (omega arith) in omega arith
advance_short (Percent n) fits =
    let few = length-decimal-le 19 n (omega arith) (omega arith) (omega arith) in omega arith

pub advance_no_space : (x : Advance) → IsFitAdvance x → lacks 32 (advance_text x) ≡ true
advance_no_space Final fits = refl
advance_no_space (Top n) fits = decimal_no_space n (omega arith)
advance_no_space (Percent n) fits = decimal_no_space n (omega arith)
