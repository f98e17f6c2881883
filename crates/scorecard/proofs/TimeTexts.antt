-- Times: what is read is what is spelled.
use Rattle.std.proofs.Common.{◌≡◌, ◌⊎◌, inl, inr, ℕ, ◌+◌, ◌*◌, ◌/◌, ◌%◌, ◌≤◌, Bool, true, false}
use Rattle.std.proofs.Common.{◌&&◌, ◌||◌, cond, nat_le, List, [], ◌∷◌, ◌++◌, codes, bytes_eq}
use Rattle.std.proofs.Common.{Option, Some, None, Ok, Err, refl, sym, ap, ◌∙◌, arith, not}
use Rattle.std.proofs.Common.{◌==◌, ◌<◌, eqb-true, decimal, length}
use Rattle.std.{specs.Char.is_ascii_digit, specs.List.list_all, proofs.lemmas.Fmt.decimal_nonempty}
use Rattle.std.proofs.lemmas.Bool.{false≢true}
use Rattle.std.proofs.lemmas.{Bool.Decides.nat_tests, List.Folds.list_all-append}
use Rattle.texts.proofs.Cuts.{and-true, lacks, behind, cut_spelled, cut-behind}
use Rattle.texts.{proofs.Spelled.bytes_eq-equal, specs.declared.command.Entered.Entered}
use Rattle.texts.specs.Fields.{cut, number_between}
use Rattle.texts.proofs.FieldSpellings.{decimal_digits, number_spelled}
use Rattle.scorecard.specs.Spelling.{EndsInPair, is_among, points, colons, IsFilled, IsSeconds}
use Rattle.scorecard.specs.Spelling.{IsMinutes, IsTime, IsPenalty, IsTimed}
use Rattle.scorecard.specs.Reading.{number_of, pair_of, filled, seconds_with, minutes_with}
use Rattle.scorecard.specs.Reading.{before_point, clock_with, clock_of, within_limits, time_of}
use Rattle.scorecard.specs.Reading.{halved, penalties_of, timed_of}
use Rattle.scorecard.proofs.DigitTexts.{digits-read, digits-found, pair-read, pair-found, pair-none}
use Rattle.texts.specs.declared.command.Entered.TheVariants as entered
use Rattle.scorecard.specs.declared.fault.ScorecardFault.TheVariants as fault
use Rattle.scorecard.proofs.DigitTexts.{bind_ok, kept_ok, spared_ok}

abbrev IsClock : List ℕ → ℕ → Type 0
IsClock text time = IsFilled text time ⊎ (IsSeconds text time ⊎ IsMinutes text time)

-- ---- what is read

filled-read : (text : List ℕ) (time : ℕ) (o : Option ℕ) → number_of 7 text ≡ o
    → filled o ≡ Ok time → IsFilled text time
filled-read text time None is h =
    absurd (let bad : Err fault.NotATime ≡ Ok time = h in cc)
filled-read text time (Some n) is h =
    let kept =
    spared_ok (nat_le 10000 n && nat_le 6000 (n % 10000)) (6000 * (n / 10000) + n % 10000) time
    fault.BadSeconds h in
    let few : (nat_le 10000 n && nat_le 6000 (n % 10000)) ≡ false = kept.0 in
    record {
      number = n;
      digits = digits-read 7 text n is;
      seconds = λ many. grind (arith, nat_tests);
      value = sym kept.1;
    }

seconds-read : (text front : List ℕ) (time c : ℕ) → EndsInPair points text front c
    → (o : Option ℕ) → number_of 2 front ≡ o → seconds_with c o ≡ Ok time → IsSeconds text time
seconds-read text front time c back None is h =
    absurd (let bad : Err fault.NotATime ≡ Ok time = h in cc)
seconds-read text front time c back (Some s) is h = record {
  front = front;
  hundredths = c;
  seconds = s;
  back = back;
  digits = digits-read 2 front s is;
  value = cc;
}

minutes-read : (text middle front : List ℕ) (time c s : ℕ) → EndsInPair points text middle c
    → EndsInPair colons middle front s → (o : Option ℕ) → number_of 3 front ≡ o
    → minutes_with c s o ≡ Ok time → IsMinutes text time
minutes-read text middle front time c s back between None is h =
    absurd (let bad : Err fault.NotATime ≡ Ok time = h in cc)
minutes-read text middle front time c s back between (Some m) is h =
    let kept = spared_ok (nat_le 60 s) (6000 * m + 100 * s + c) time fault.BadSeconds h in
    let few : nat_le 60 s ≡ false = kept.0 in
    record {
      front = front;
      middle = middle;
      hundredths = c;
      seconds = s;
      minutes = m;
      back = back;
      between = between;
      digits = digits-read 3 front m is;
      below = grind (arith, nat_tests);
      value = sym kept.1;
    }

clock-read : (text : List ℕ) (time : ℕ) → clock_of text ≡ Ok time → IsClock text time
unfolding clock_of
clock-read text time h = outer (pair_of points text) refl h
  where
    inner : (p : List ℕ × ℕ) → pair_of points text ≡ Some p → (o : Option (List ℕ × ℕ))
        → pair_of colons p.0 ≡ o → before_point p.1 p.0 o ≡ Ok time → IsClock text time
    inner p is None e r =
        inr (inl (seconds-read text p.0 time p.1 (pair-read points text p.0 p.1 is)
        (number_of 2 p.0) refl r))
    inner p is (Some q) e r =
        inr (inr (minutes-read text p.0 q.0 time p.1 q.1 (pair-read points text p.0 p.1 is)
        (pair-read colons p.0 q.0 q.1 e) (number_of 3 q.0) refl r))

    outer : (o : Option (List ℕ × ℕ)) → pair_of points text ≡ o → clock_with text o ≡ Ok time
        → IsClock text time
    outer None is r = inl (filled-read text time (number_of 7 text) refl r)
    outer (Some p) is r = inner p is (pair_of colons p.0) refl r

-- ---- what is found

clock-found : (text : List ℕ) (time : ℕ) → IsClock text time → clock_of text ≡ Ok time
unfolding clock_of
clock-found text time (inl f) =
    let none : pair_of points text ≡ None = pair-none points text refl f.digits.decimal in
    let number : number_of 7 text ≡ Some f.number = digits-found 7 text f.number f.digits in
    let few : (nat_le 10000 f.number && nat_le 6000 (f.number % 10000)) ≡ false =
    let s = f.seconds in grind (arith, nat_tests) in
    rw (none, number, few) (ap Ok (sym f.value))
clock-found text time (inr (inl f)) =
    let split : pair_of points text ≡ Some (f.front, f.hundredths) =
    pair-found points text f.front f.hundredths f.back in
    let none : pair_of colons f.front ≡ None = pair-none colons f.front refl f.digits.decimal in
    let number : number_of 2 f.front ≡ Some f.seconds =
    digits-found 2 f.front f.seconds f.digits in
    rw (split, none, number) (ap Ok (sym f.value))
clock-found text time (inr (inr f)) =
    let split : pair_of points text ≡ Some (f.middle, f.hundredths) =
    pair-found points text f.middle f.hundredths f.back in
    let next : pair_of colons f.middle ≡ Some (f.front, f.seconds) =
    pair-found colons f.middle f.front f.seconds f.between in
    let number : number_of 3 f.front ≡ Some f.minutes =
    digits-found 3 f.front f.minutes f.digits in
    let few : nat_le 60 f.seconds ≡ false = let s = f.below in grind (arith, nat_tests) in
    rw (split, next, number, few) (ap Ok (sym f.value))

pub time-read : (text : List ℕ) (time : ℕ) → time_of text ≡ Ok time → IsTime text time
unfolding time_of
time-read text time h =
    let t = bind_ok (clock_of text) within_limits time h in
    let kept =
    kept_ok (nat_le 1 t.value && nat_le t.value 999999) t.value time fault.OutOfRange t.next in
    let same : t.value ≡ time = kept.1 in
    let within : (nat_le 1 t.value && nat_le t.value 999999) ≡ true = kept.0 in
    let some : 1 ≤ t.value = grind (arith, nat_tests) in
    let most : t.value ≤ 999999 = grind (arith, nat_tests) in
    record {
      form = clock-read text time (t.was ∙ ap Ok same);
      some = omega arith;
      most = omega arith;
    }

pub time-found : (text : List ℕ) (time : ℕ) → IsTime text time → time_of text ≡ Ok time
unfolding time_of
time-found text time h =
    let clock : clock_of text ≡ Ok time = clock-found text time h.form in
    let some = h.some in
    let most = h.most in
    let within : (nat_le 1 time && nat_le time 999999) ≡ true = grind (arith, nat_tests) in
    rw (clock, within) refl

-- ---- penalties

penalty-read : (rest : List ℕ) (penalties : ℕ) → penalties_of (Some rest) ≡ Ok penalties
    → IsPenalty (43 ∷ rest) penalties
penalty-read rest penalties h =
    signs (bytes_eq rest (codes "")) (bytes_eq rest (codes "+")) refl refl h
  where
    even : (n : ℕ) → number_between 2 18 rest ≡ Some n → (b : Bool) → (n % 2 == 0) ≡ b
        → cond b (Ok (n / 2)) (Err fault.BadPenalty) ≡ Ok penalties
        → IsPenalty (43 ∷ rest) penalties
    even n is false e r = absurd (let bad : Err fault.BadPenalty ≡ Ok penalties = r in cc)
    even n is true e r =
        let half : n / 2 ≡ penalties = cc in
        let rest_none : n % 2 ≡ 0 = grind (arith, nat_tests) in
        let spelled = (number_spelled 2 18 (omega arith)).only rest n is in
        let low : 2 ≤ n = spelled.0.0 in
        let high : n ≤ 18 = spelled.0.1 in
        let twice : n ≡ 2 * penalties = omega (arith, half, rest_none) in
        let mark : 43 ∷ rest ≡ 43 ∷ decimal (2 * penalties) =
        ap (λ z. 43 ∷ z) (spelled.1 ∙ ap decimal twice) in
        inr (inr (inr (mark, omega (arith, twice, low), omega (arith, twice, high))))

    seconds : (o : Option ℕ) → number_between 2 18 rest ≡ o → halved o ≡ Ok penalties
        → IsPenalty (43 ∷ rest) penalties
    seconds None is r = absurd (let bad : Err fault.BadPenalty ≡ Ok penalties = r in cc)
    seconds (Some n) is r = even n is (n % 2 == 0) refl r

    signs : (a b : Bool) → bytes_eq rest (codes "") ≡ a → bytes_eq rest (codes "+") ≡ b
        → cond a (Ok 1) (cond b (Ok 2) (halved (number_between 2 18 rest))) ≡ Ok penalties
        → IsPenalty (43 ∷ rest) penalties
    signs true b x y r =
        let mark : 43 ∷ rest ≡ 43 ∷ codes "" =
        ap (λ z. 43 ∷ z) (bytes_eq-equal rest (codes "") x) in
        inr (inl (mark, let v : Ok 1 ≡ Ok penalties = r in cc))
    signs false true x y r =
        let mark : 43 ∷ rest ≡ 43 ∷ codes "+" =
        ap (λ z. 43 ∷ z) (bytes_eq-equal rest (codes "+") y) in
        inr (inr (inl (mark, let v : Ok 2 ≡ Ok penalties = r in cc)))
    signs false false x y r = seconds (number_between 2 18 rest) refl r

penalties-read : (o : Option (List ℕ)) (penalties : ℕ) → penalties_of o ≡ Ok penalties
    → IsPenalty (behind 43 o) penalties
penalties-read None penalties h = inl (refl, let v : Ok 0 ≡ Ok penalties = h in cc)
penalties-read (Some rest) penalties h = penalty-read rest penalties h

record Marked (mark : List ℕ) (penalties : ℕ) : Type 0 where
  rest : Option (List ℕ)
  is : mark ≡ behind 43 rest
  found : penalties_of rest ≡ Ok penalties

-- a number is no text without digits
digits_differ : (n : ℕ) (text : List ℕ) → n < 10000000000000000000
    → list_all is_ascii_digit text ≡ false → (b : Bool) → bytes_eq (decimal n) text ≡ b → b ≡ false
digits_differ n text small none false is = refl
digits_differ n text small none true is =
    absurd (false≢true (sym none
    ∙ ap (list_all is_ascii_digit) (sym (bytes_eq-equal (decimal n) text is))
    ∙ decimal_digits n small))

seconds_found : (p : ℕ) → 1 ≤ p → p ≤ 9 → penalties_of (Some (decimal (2 * p))) ≡ Ok p
seconds_found p some few =
    let n : ℕ = 2 * p in
    let filled : bytes_eq (decimal (2 * p)) (codes "") ≡ false =
    not_empty (bytes_eq (decimal (2 * p)) (codes "")) refl in
    let plus : bytes_eq (decimal (2 * p)) (codes "+") ≡ false =
    digits_differ (2 * p) (codes "+") (omega arith) refl
    (bytes_eq (decimal (2 * p)) (codes "+")) refl in
    let between : number_between 2 18 (decimal (2 * p)) ≡ Some (2 * p) =
    (number_spelled 2 18 (omega arith)).found (2 * p) (omega arith, omega arith) in
    let even : (2 * p % 2 == 0) ≡ true =
    let e : 2 * p % 2 ≡ 0 = omega arith in grind (arith, nat_tests) in
    let half : 2 * p / 2 ≡ p = omega arith in
    rw (filled, plus, between, even) (ap Ok half)
  where
    not_empty : (b : Bool) → bytes_eq (decimal (2 * p)) (codes "") ≡ b → b ≡ false
    not_empty false is = refl
    not_empty true is =
        let some = decimal_nonempty (2 * p) (omega arith) in
        let none = ap length (bytes_eq-equal (decimal (2 * p)) (codes "") is) in
        absurd (omega (arith, some, none))

marked : (mark : List ℕ) (penalties : ℕ) → IsPenalty mark penalties → Marked mark penalties
marked mark penalties (inl h) =
    record { rest = None; is = h.0; found = ap Ok (sym h.1) }
marked mark penalties (inr (inl (e, n))) =
    record { rest = Some []; is = e; found = ap Ok (sym n) }
marked mark penalties (inr (inr (inl (e, n)))) =
    record { rest = Some (codes "+"); is = e; found = ap Ok (sym n) }
marked mark penalties (inr (inr (inr (e, some, few)))) = record {
  rest = Some (decimal (2 * penalties));
  is = e;
  found = seconds_found penalties some few;
}

-- ---- no plus stands in a time, and it begins with a digit

digits_lack : (bytes : List ℕ) → list_all is_ascii_digit bytes ≡ true → lacks 43 bytes ≡ true
digits_lack [] h = refl
digits_lack (b ∷ bytes) h =
    let both = and-true (is_ascii_digit b) (list_all is_ascii_digit bytes) h in
    let digit = both.0 in
    let first : not (b == 43) ≡ true = grind (arith, nat_tests) in
    rw (first, digits_lack bytes both.1) refl

pair_lacks : (marks text front : List ℕ) (n : ℕ) → list_all (λ m. not (m == 43)) marks ≡ true
    → EndsInPair marks text front n → lacks 43 front ≡ true → lacks 43 text ≡ true
pair_lacks marks text front n none ends before =
    let pair =
    and-true (is_ascii_digit ends.tens) (list_all is_ascii_digit (ends.ones ∷ []))
    ends.pair.decimal in
    let mark : not (ends.mark == 43) ≡ true =
    no_plus_among marks ends.mark none ends.marked in
    let last : lacks 43 (ends.mark ∷ ends.tens ∷ ends.ones ∷ []) ≡ true =
    rw (mark, digits_lack (ends.tens ∷ ends.ones ∷ []) ends.pair.decimal) refl in
    ap (lacks 43) ends.parts
    ∙ list_all-append (λ b. not (b == 43)) front (ends.mark ∷ ends.tens ∷ ends.ones ∷ [])
    ∙ rw (before, last) refl
  where
    no_plus_among : (ms : List ℕ) (b : ℕ) → list_all (λ m. not (m == 43)) ms ≡ true
        → is_among ms b ≡ true → not (b == 43) ≡ true
    no_plus_among [] b h among = absurd (false≢true among)
    no_plus_among (m ∷ ms) b h among =
        let both = and-true (not (m == 43)) (list_all (λ x. not (x == 43)) ms) h in
        step both.0 (no_plus_among ms b both.1) (m == b) refl among
      where
        step : not (m == 43) ≡ true → (is_among ms b ≡ true → not (b == 43) ≡ true) → (t : Bool)
            → (m == b) ≡ t → (t || is_among ms b) ≡ true → not (b == 43) ≡ true
        step plain later false is x = later x
        step plain later true is x = ap (λ y. not (y == 43)) (sym (eqb-true m b is)) ∙ plain

time_lacks : (text : List ℕ) (time : ℕ) → IsClock text time → lacks 43 text ≡ true
time_lacks text time (inl f) = digits_lack text f.digits.decimal
time_lacks text time (inr (inl f)) =
    pair_lacks points text f.front f.hundredths refl f.back (digits_lack f.front f.digits.decimal)
time_lacks text time (inr (inr f)) =
    pair_lacks points text f.middle f.hundredths refl f.back
    (pair_lacks colons f.middle f.front f.seconds refl f.between
    (digits_lack f.front f.digits.decimal))

pub timed-found : (text : List ℕ) (time penalties : ℕ) → IsTimed text time penalties
    → timed_of text ≡ Ok (entered.Time time penalties)
unfolding timed_of
timed-found text time penalties h =
    let mark = marked h.mark penalties h.marked in
    let split : cut 43 text ≡ (h.front, mark.rest) =
    ap (cut 43) (h.parts ∙ ap (λ x. h.front ++ x) mark.is)
    ∙ cut-behind 43 h.front mark.rest (time_lacks h.front time h.timed.form) in
    rw (split, mark.found, time-found h.front time h.timed) refl

pub record Timed (text : List ℕ) (x : Entered) : Type 0 where
  pub time : ℕ
  pub penalties : ℕ
  pub is : x ≡ entered.Time time penalties
  pub spelled : IsTimed text time penalties

pub timed-read : (text : List ℕ) (x : Entered) → timed_of text ≡ Ok x → Timed text x
unfolding timed_of
timed-read text x h =
    let p = bind_ok (penalties_of (cut 43 text).1) _ x h in
    let t = bind_ok (time_of (cut 43 text).0) _ x p.next in
    let last : Ok (entered.Time t.value p.value) ≡ Ok x = t.next in
    record {
      time = t.value;
      penalties = p.value;
      is = cc;
      spelled = record {
        front = (cut 43 text).0;
        mark = behind 43 (cut 43 text).1;
        parts = cut_spelled 43 text;
        timed = time-read (cut 43 text).0 t.value t.was;
        marked = penalties-read (cut 43 text).1 p.value p.was;
      };
    }
