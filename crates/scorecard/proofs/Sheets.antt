-- What a sheet prints of an attempt is read back.
use Rattle.std.proofs.Common.{◌≡◌, ℕ, ◌+◌, ◌-◌, ◌*◌, ◌/◌, ◌%◌, ◌^◌, ◌<◌, ◌≤◌, inl, inr, Bool, true}
use Rattle.std.proofs.Common.{false, ◌||◌, ◌==◌, cond, nat_le, nat_lt, List, [], ◌∷◌, ◌++◌, length}
use Rattle.std.proofs.Common.{drop, reverse, get_or, codes, decimal, Option, refl, sym, ap, ◌∙◌}
use Rattle.std.proofs.Common.{subst, arith, append_assoc}
use Rattle.std.specs.Char.{is_ascii_digit, is_ascii_whitespace}
use Rattle.std.specs.List.{list_all, prefix_len, suffix_len}
use Rattle.std.proofs.lemmas.Bool.{false≢true}
use Rattle.std.proofs.lemmas.{Bool.Decides.nat_tests, Fmt.digits_value-decimal}
use Rattle.std.proofs.lemmas.Fmt.{decimal_nonempty, decimal_digit, decimal_step, length-decimal-le}
use Rattle.std.proofs.lemmas.List.{append-nil, take_all, reverse-append}
use Rattle.attempts.specs.declared.{Outcome.Outcome, Unit.Unit as Measure}
use Rattle.attempts.specs.declared.Unit.TheVariants.{Time, Moves, Multi}
use Rattle.attempts.specs.Attempts.{rounded, reaches, value_of, IsOutcome, points, unsolved}
use Rattle.attempts.specs.Attempts.{is_multi_finished, multi_number}
use Rattle.attempts.specs.Texts.{two_digits, time_text, clock_text, multi_text, unsolved_in}
use Rattle.attempts.specs.Texts.{solved_in, attempted_in, seconds_in}
use Rattle.formats.specs.Events.{unit_of}
use Rattle.cube.specs.declared.moves.Move.{Move}
use Rattle.texts.proofs.{Cuts.and-true, Numerals.own, FieldSpellings.decimal_digits}
use Rattle.texts.specs.declared.command.Entered.{Entered}
use Rattle.scorecard.specs.Spelling.{AreDigits, EndsInPair, points as marks, colons, IsTime}
use Rattle.scorecard.specs.Spelling.{IsMulti, without_front, without_end, trimmed, is_among, Spells}
use Rattle.scorecard.specs.Spelling.{SpellsBare, IsSolution, mended}
use Rattle.scorecard.specs.Laws.{IsOutcomeIn, IsReadable, IsReadBack, SheetReadsBack, SpellsNoMoves}
use Rattle.scorecard.proofs.Begins.{BeginsWithDigit, decimal_begins, multi_begins, begins_pair}
use Rattle.scorecard.proofs.Begins.{no_dnf, no_dns}
use Rattle.scorecard.proofs.Starts.{is_start, moves-start, mended_first}
use Rattle.attempts.specs.declared.Fm.TheVariants as fm
use Rattle.attempts.specs.declared.Outcome.TheVariants as outcome
use Rattle.attempts.specs.declared.Value.TheVariants as value
use Rattle.texts.specs.declared.command.Entered.TheVariants as entered

-- ---- a text with no white space around stays as it is

pub record HasEnds (text : List ℕ) : Type 0 where
  pub first : is_ascii_whitespace (get_or text 0 0) ≡ false
  pub front : List ℕ
  pub last : ℕ
  pub parts : text ≡ front ++ last ∷ []
  pub end : is_ascii_whitespace last ≡ false

prefix_none : (text : List ℕ) → is_ascii_whitespace (get_or text 0 0) ≡ false
    → prefix_len is_ascii_whitespace text ≡ 0
prefix_none [] h = refl
prefix_none (b ∷ bs) h = rw h refl

suffix_none : (text front : List ℕ) (last : ℕ) → text ≡ front ++ last ∷ []
    → is_ascii_whitespace last ≡ false → suffix_len is_ascii_whitespace text ≡ 0
suffix_none text front last parts h =
    ap (λ t. prefix_len is_ascii_whitespace (reverse t)) parts
    ∙ ap (prefix_len is_ascii_whitespace) (reverse-append front (last ∷ []))
    ∙ rw h refl

pub trimmed_same : (text : List ℕ) → HasEnds text → trimmed text ≡ text
unfolding trimmed
trimmed_same text h =
    let front : without_front text ≡ text =
    ap (λ n. drop n text) (prefix_none text h.first) in
    let none = suffix_none text h.front h.last h.parts h.end in
    ap without_end front ∙ take_all (length text - suffix_len is_ascii_whitespace text) text
    (omega (arith, none))

digit_black : (b : ℕ) → is_ascii_digit b ≡ true → is_ascii_whitespace b ≡ false
digit_black b h = grind (arith, nat_tests)

first_black : (text : List ℕ) → BeginsWithDigit text → is_ascii_whitespace (get_or text 0 0) ≡ false
first_black [] h = absurd h
first_black (b ∷ bs) h = digit_black b h

ends_by_pair : (ms text front : List ℕ) (n : ℕ) → EndsInPair ms text front n
    → BeginsWithDigit text → HasEnds text
ends_by_pair ms text front n h begins =
    let pair =
    and-true (is_ascii_digit h.tens) (list_all is_ascii_digit (h.ones ∷ [])) h.pair.decimal in
    let one = and-true (is_ascii_digit h.ones) true pair.1 in
    record {
      first = first_black text begins;
      front = front ++ h.mark ∷ h.tens ∷ [];
      last = h.ones;
      parts = h.parts ∙ sym (append_assoc front (h.mark ∷ h.tens ∷ []) (h.ones ∷ []));
      end = digit_black h.ones one.0;
    }

-- ---- numbers

two_are : (n : ℕ) → n < 100 → AreDigits 2 (two_digits n) n
two_are n small =
    let a : is_ascii_digit (48 + n / 10 % 10) ≡ true =
    let l : n / 10 % 10 < 10 = omega arith in grind (arith, nat_tests) in
    let b : is_ascii_digit (48 + n % 10) ≡ true =
    let l : n % 10 < 10 = omega arith in grind (arith, nat_tests) in
    record {
      some = omega arith;
      few = omega arith;
      decimal = rw (a, b) refl;
      value = omega arith;
    }

number_are : (most n : ℕ) → 0 < most → n < 10 ^ most → n < 10000000000000000000
    → AreDigits most (decimal n) n
number_are most n some few small = record {
  some = let s = decimal_nonempty n (omega arith) in omega arith;
  few = length-decimal-le most n some few (omega arith);
  decimal = decimal_digits n small;
  value = digits_value-decimal own n (omega arith);
}

pair_after : (ms front : List ℕ) (mark n : ℕ) → is_among ms mark ≡ true → n < 100
    → EndsInPair ms (front ++ (mark ∷ []) ++ two_digits n) front n
pair_after ms front mark n is small = record {
  mark = mark;
  tens = 48 + n / 10 % 10;
  ones = 48 + n % 10;
  parts = append_assoc front (mark ∷ []) (two_digits n);
  marked = is;
  pair = two_are n small;
}

-- ---- times

short_text : (n : ℕ) → n < 6000
    → time_text n ≡ decimal (n / 100) ++ codes "." ++ two_digits (n % 100)
short_text n small =
    let test : nat_lt n 6000 ≡ true = grind (arith, nat_tests) in rw test refl

long_text : (n : ℕ) → 6000 ≤ n → time_text n
    ≡ decimal (n / 6000) ++ codes ":" ++ two_digits (n / 100 % 60) ++ codes "."
    ++ two_digits (n % 100)
long_text n long =
    let test : nat_lt n 6000 ≡ false = grind (arith, nat_tests) in rw test refl

abbrev pub Spelled : List ℕ → ℕ → Type 0
Spelled text n = HasEnds text × IsTime text n

short_spelled : (n : ℕ) → 1 ≤ n → n < 6000
    → Spelled (decimal (n / 100) ++ codes "." ++ two_digits (n % 100)) n
short_spelled n some small =
    let seconds : n / 100 < 60 = omega arith in
    let back = pair_after marks (decimal (n / 100)) 46 (n % 100) refl (omega arith) in
    let digits = number_are 2 (n / 100) (omega arith) (omega arith) (omega arith) in
    let begins =
    begins_pair marks (decimal (n / 100) ++ codes "." ++ two_digits (n % 100))
    (decimal (n / 100)) (n % 100) back (decimal_begins (n / 100) (omega arith)) in (
      ends_by_pair marks _ (decimal (n / 100)) (n % 100) back begins,
      record {
        form = inr (inl (record {
          front = decimal (n / 100);
          hundredths = n % 100;
          seconds = n / 100;
          back = back;
          digits = digits;
          value = omega arith;
        }));
        some = some;
        most = omega arith;
      },
    )

long_spelled : (n : ℕ) → 6000 ≤ n → n ≤ 999999
    → Spelled (decimal (n / 6000) ++ codes ":" ++ two_digits (n / 100 % 60) ++ codes "."
    ++ two_digits (n % 100)) n
long_spelled n long most =
    let minutes : n / 6000 ≤ 166 = omega arith in
    let middle : List ℕ = decimal (n / 6000) ++ codes ":" ++ two_digits (n / 100 % 60) in
    let between =
    pair_after colons (decimal (n / 6000)) 58 (n / 100 % 60) refl (omega arith) in
    let back = pair_after marks middle 46 (n % 100) refl (omega arith) in
    let digits = number_are 3 (n / 6000) (omega arith) (omega arith) (omega arith) in
    let begins =
    begins_pair marks (middle ++ codes "." ++ two_digits (n % 100)) middle (n % 100) back
    (begins_pair colons middle (decimal (n / 6000)) (n / 100 % 60) between
    (decimal_begins (n / 6000) (omega arith))) in (
      ends_by_pair marks _ middle (n % 100) back begins,
      record {
        form = inr (inr (record {
          front = decimal (n / 6000);
          middle = middle;
          hundredths = n % 100;
          seconds = n / 100 % 60;
          minutes = n / 6000;
          back = back;
          between = between;
          digits = digits;
          below = omega arith;
          value = omega arith;
        }));
        some = omega arith;
        most = most;
      },
    )

pub time_spelled : (n : ℕ) → 1 ≤ n → n ≤ 999999 → Spelled (time_text n) n
time_spelled n some most = step (nat_lt n 6000) refl
  where
    step : (b : Bool) → nat_lt n 6000 ≡ b → Spelled (time_text n) n
    step true is =
        let small : n < 6000 = grind (arith, nat_tests) in
        subst (λ (t : List ℕ). Spelled t n) (sym (short_text n small)) (short_spelled n some small)
    step false is =
        let long : 6000 ≤ n = grind (arith, nat_tests) in
        subst (λ (t : List ℕ). Spelled t n) (sym (long_text n long)) (long_spelled n long most)

time_read : (n : ℕ) → 1 ≤ n → n ≤ 999999 → Spells Time (time_text n) (entered.Time n 0)
time_read n some most =
    let spelled = time_spelled n some most in
    subst (λ (t : List ℕ). SpellsBare Time t (entered.Time n 0))
    (sym (trimmed_same (time_text n) spelled.0)) (record {
      front = time_text n;
      mark = [];
      parts = sym (append-nil (time_text n));
      timed = spelled.1;
      marked = inl (refl, refl);
    })

-- a value that was rounded stays as it is
rounded_again : (v : ℕ) → rounded (rounded v) ≡ rounded v
rounded_again v = step (nat_le v 60000) refl
  where
    long : (w : ℕ) (k : ℕ) → w ≡ k * 100 → (b : Bool) → nat_le w 60000 ≡ b
        → cond b w ((w + 50) / 100 * 100) ≡ w
    long w k is true e = refl
    long w k is false e = omega arith

    step : (b : Bool) → nat_le v 60000 ≡ b
        → rounded (cond b v ((v + 50) / 100 * 100)) ≡ cond b v ((v + 50) / 100 * 100)
    step true e = rw e refl
    step false e =
        long ((v + 50) / 100 * 100) ((v + 50) / 100) refl (nat_le ((v + 50) / 100 * 100) 60000) refl

rounded_some : (v : ℕ) → 1 ≤ v → 1 ≤ rounded v
rounded_some v some = step (nat_le v 60000) refl
  where
    step : (b : Bool) → nat_le v 60000 ≡ b → 1 ≤ cond b v ((v + 50) / 100 * 100)
    step true e = some
    step false e = let big : 60000 < v = grind (arith, nat_tests) in omega arith

-- ---- no result

dnf_read : (unit : Measure) → IsReadBack unit value.Dnf
unfolding trimmed
dnf_read Time = (entered.Dnf, refl, refl)
dnf_read _ = (entered.Dnf, refl, refl)

dns_read : (unit : Measure) → IsReadBack unit value.Dns
unfolding trimmed
dns_read Time = (entered.Dns, refl, refl)
dns_read _ = (entered.Dns, refl, refl)

-- ---- results of multi-blind

pub multi_spelled : (s a t : ℕ) → 2 ≤ a → a ≤ 99 → s ≤ a → 1 ≤ t → t ≤ 5999
    → IsMulti (multi_text s a t) s a t
multi_spelled s a t two few all some most = record {
  clock = clock_text t;
  parts = refl;
  form = inr (record {
    front = decimal (t / 60);
    seconds = t % 60;
    minutes = t / 60;
    back = pair_after (codes ":") (decimal (t / 60)) 58 (t % 60) refl (omega arith);
    digits = number_are 2 (t / 60) (omega arith) (omega arith) (omega arith);
    below = omega arith;
    value = omega arith;
  });
  two = two;
  few = few;
  all = all;
  some = some;
}

-- what is before the time
abbrev cubes_text : ℕ → ℕ → List ℕ
cubes_text s a = decimal s ++ codes "/" ++ decimal a ++ codes " "

pub multi_ends : (s a t : ℕ) → BeginsWithDigit (multi_text s a t) → HasEnds (multi_text s a t)
multi_ends s a t begins =
    let pair : EndsInPair (codes ":") (clock_text t) (decimal (t / 60)) (t % 60) =
    pair_after (codes ":") (decimal (t / 60)) 58 (t % 60) refl (omega arith) in
    let ones : is_ascii_digit pair.ones ≡ true =
    (and-true (is_ascii_digit pair.ones) true
    (and-true (is_ascii_digit pair.tens) (list_all is_ascii_digit (pair.ones ∷ []))
    pair.pair.decimal).1).0 in
    record {
      first = first_black (multi_text s a t) begins;
      front = cubes_text s a ++ (decimal (t / 60) ++ pair.mark ∷ pair.tens ∷ []);
      last = pair.ones;
      parts =
          ap (λ y. cubes_text s a ++ y) (pair.parts
          ∙ sym (append_assoc (decimal (t / 60)) (pair.mark ∷ pair.tens ∷ []) (pair.ones ∷ [])))
          ∙ sym (append_assoc (cubes_text s a) (decimal (t / 60) ++ pair.mark ∷ pair.tens ∷ [])
          (pair.ones ∷ []));
      end = digit_black pair.ones ones;
    }

multi_same : (s a t : ℕ) → 2 ≤ s → unsolved s a ≤ s → s ≤ a → a ≤ 99 → t ≤ 5999
    → multi_text (solved_in (multi_number s a t)) (attempted_in (multi_number s a t))
    (seconds_in (multi_number s a t)) ≡ multi_text s a t
multi_same s a t two enough all few most =
    let n : ℕ = multi_number s a t in
    let above : multi_number s a t / 10000000 ≡ 99 - points s a = omega arith in
    let rest : multi_number s a t % 10000000 ≡ 100 * t + unsolved s a = omega arith in
    let last : unsolved_in (multi_number s a t) ≡ unsolved s a = omega (arith, rest) in
    let time : seconds_in (multi_number s a t) ≡ t = omega (arith, rest) in
    let solved : solved_in (multi_number s a t) ≡ s = omega (arith, above, last) in
    let attempted : attempted_in (multi_number s a t) ≡ a = omega (arith, above, last) in
    ap (λ x. multi_text x (attempted_in (multi_number s a t)) (seconds_in (multi_number s a t)))
    solved
    ∙ ap (λ x. multi_text s x (seconds_in (multi_number s a t))) attempted
    ∙ ap (λ x. multi_text s a x) time

multi_read : (s a t : ℕ) → IsOutcome (outcome.Multi s a t) → is_multi_finished s a ≡ true
    → IsReadBack Multi (value.Number (multi_number s a t))
multi_read s a t valid finished =
    let two : 2 ≤ s = grind (arith, nat_tests) in
    let enough : unsolved s a ≤ s = grind (arith, nat_tests) in
    let spelled = multi_spelled s a t valid.0 valid.1 valid.2 valid.3 valid.4 in
    let same = multi_same s a t two enough valid.2 valid.1 valid.4 in
    let ends = multi_ends s a t (multi_begins (multi_text s a t) s a t spelled) in (
      entered.Multi s a t,
      subst (λ (y : List ℕ). SpellsBare Multi (trimmed y) (entered.Multi s a t)) (sym same)
          (subst (λ (y : List ℕ). SpellsBare Multi y (entered.Multi s a t))
          (sym (trimmed_same (multi_text s a t) ends)) spelled),
      rw finished refl,
    )

-- ---- all of them

back : (unit : Measure) (limit : Option ℕ) (x : Outcome) → IsOutcome x → IsOutcomeIn unit x
    → IsReadable unit (value_of limit x) → IsReadBack unit (value_of limit x)
back Time limit (outcome.Time t p) valid fits readable = go (reaches limit t) readable
  where
    go : (b : Bool) → IsReadable Time (cond b value.Dnf (value.Number (rounded (t + 200 * p))))
        → IsReadBack Time (cond b value.Dnf (value.Number (rounded (t + 200 * p))))
    go true r = dnf_read Time
    go false r = (
      entered.Time (rounded (t + 200 * p)) 0,
      time_read (rounded (t + 200 * p))
          (rounded_some (t + 200 * p) (let v = valid.0 in omega arith)) r,
      let same : rounded (t + 200 * p) + 200 * 0 ≡ rounded (t + 200 * p) = omega arith in
          ap (λ n. value.Number (rounded n)) same ∙ ap value.Number (rounded_again (t + 200 * p)),
    )
back Moves limit (outcome.Solution (fm.Moves n)) valid fits readable = absurd readable
back Moves limit (outcome.Solution fm.Dnf) valid fits readable = dnf_read Moves
back Multi limit (outcome.Multi s a t) valid fits readable = go (is_multi_finished s a) refl
  where
    go : (b : Bool) → is_multi_finished s a ≡ b
        → IsReadBack Multi (cond b (value.Number (multi_number s a t)) value.Dnf)
    go true is = multi_read s a t valid is
    go false is = dnf_read Multi
back unit limit outcome.Dnf valid fits readable = dnf_read unit
back unit limit outcome.Dns valid fits readable = dns_read unit
back _ limit _ valid fits readable = absurd fits

pub sheet_back : SheetReadsBack
sheet_back event limit x valid fits readable = back (unit_of event) limit x valid fits readable

-- ---- numbers of moves

digit_alone : (b : ℕ) (rest : List ℕ) → is_ascii_digit b ≡ true
    → is_start (mended (b ∷ rest)) ≡ true → ⊥
digit_alone b rest digit start =
    let plain : (226 == b) ≡ false = grind (arith, nat_tests) in
    let none : is_among (codes "URFDLBxyz") b ≡ false = grind (arith, nat_tests) in
    let both =
    and-true (is_among (codes "URFDLBxyz") b)
    (get_or (mended rest) 0 0 == 0 || is_among (codes " w'2") (get_or (mended rest) 0 0))
    (ap is_start (sym (mended_first b rest plain)) ∙ start) in
    false≢true (sym none ∙ both.0)

no_solution : (text : List ℕ) (moves : List Move) → BeginsWithDigit text → IsSolution text moves → ⊥
no_solution [] moves begins h = begins
no_solution (b ∷ bs) moves begins h =
    digit_alone b bs begins (moves-start (mended (b ∷ bs)) moves h.tokens)

no_outcome : (text : List ℕ) (x : Entered) → BeginsWithDigit text → SpellsBare Moves text x → ⊥
no_outcome text (entered.Time t p) begins h = h
no_outcome text (entered.Solution moves) begins h = no_solution text moves begins h
no_outcome text (entered.Multi s a t) begins h = h
no_outcome text entered.Dnf begins h = false≢true (sym (no_dnf Moves text begins) ∙ h)
no_outcome text entered.Dns begins h = false≢true (sym (no_dns Moves text begins) ∙ h)

last_digit : (m : ℕ) → m < 10 → is_ascii_whitespace (48 + m) ≡ false
last_digit m small = grind (arith, nat_tests)

pub number_ends : (n : ℕ) → n ≤ 80 → HasEnds (decimal n)
number_ends n few = step (nat_lt n 10) refl
  where
    step : (b : Bool) → nat_lt n 10 ≡ b → HasEnds (decimal n)
    step true is = record {
      first = first_black (decimal n) (decimal_begins n (omega arith));
      front = [];
      last = 48 + n;
      parts = decimal_digit n (grind (arith, nat_tests));
      end = last_digit n (grind (arith, nat_tests));
    }
    step false is = record {
      first = first_black (decimal n) (decimal_begins n (omega arith));
      front = decimal (n / 10);
      last = 48 + n % 10;
      parts = decimal_step n (grind (arith, nat_tests)) (omega arith);
      end = last_digit (n % 10) (omega arith);
    }

pub number_spells_nothing : SpellsNoMoves
number_spells_nothing n x few h =
    no_outcome (decimal n) x (decimal_begins n (omega arith))
    (subst (λ (t : List ℕ). SpellsBare Moves t x) (trimmed_same (decimal n) (number_ends n few)) h)
