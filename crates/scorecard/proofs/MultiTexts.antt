-- Results of multi-blind: what is read is what is spelled.
use Rattle.std.proofs.Common.{◌≡◌, ◌⊎◌, inl, inr, ℕ, ◌+◌, ◌*◌, ◌/◌, ◌%◌, true, ◌==◌}
use Rattle.std.proofs.{Common.false, lemmas.Bool.Decides.nat_tests}
use Rattle.std.proofs.Common.{◌&&◌, nat_le, List, [], ◌∷◌, ◌++◌, codes, decimal, Option, Some}
use Rattle.std.proofs.Common.{None, Ok, Err, refl, sym, ap, ◌∙◌, arith, append_assoc, not}
use Rattle.std.specs.{Char.is_ascii_digit, List.list_all}
use Rattle.texts.proofs.Cuts.{and-true, lacks, behind, cut_spelled, cut-behind}
use Rattle.texts.proofs.FieldSpellings.{number_spelled, decimal_no_space, decimal_digits}
use Rattle.texts.specs.{Spelling.IsWithin, declared.command.Entered.Entered}
use Rattle.texts.{proofs.Spelled.IsSpelled, specs.Fields.cut, specs.Fields.number_between}
use Rattle.scorecard.specs.Spelling.{EndsInPair, IsFilledSeconds, IsMinutesSeconds, IsMulti}
use Rattle.scorecard.specs.Reading.{number_of, pair_of, filled_seconds, seconds_after}
use Rattle.scorecard.specs.Reading.{whole_seconds_with, whole_seconds_of, or_fault, solved_of}
use Rattle.scorecard.specs.Reading.{some_seconds, multi_of}
use Rattle.scorecard.proofs.DigitTexts.{digits-read, digits-found, pair-read, pair-found, pair-none}
use Rattle.texts.specs.declared.command.Entered.TheVariants as entered
use Rattle.scorecard.specs.declared.fault.ScorecardFault.TheVariants as fault
use Rattle.scorecard.proofs.DigitTexts.{bind_ok, or_fault_ok, kept_ok, spared_ok}

abbrev IsWhole : List ℕ → ℕ → Type 0
IsWhole text time = IsFilledSeconds text time ⊎ IsMinutesSeconds text time

-- ---- the time

filled-read : (text : List ℕ) (time : ℕ) (o : Option ℕ) → number_of 4 text ≡ o
    → filled_seconds o ≡ Ok time → IsFilledSeconds text time
filled-read text time None is h = absurd (let bad : Err fault.NotAResult ≡ Ok time = h in cc)
filled-read text time (Some n) is h =
    let kept =
    spared_ok (nat_le 100 n && nat_le 60 (n % 100)) (60 * (n / 100) + n % 100) time
    fault.BadSeconds h in
    let few : (nat_le 100 n && nat_le 60 (n % 100)) ≡ false = kept.0 in
    record {
      number = n;
      digits = digits-read 4 text n is;
      seconds = λ many. grind (arith, nat_tests);
      value = sym kept.1;
    }

minutes-read : (text front : List ℕ) (time s : ℕ) → EndsInPair (codes ":") text front s
    → (o : Option ℕ) → number_of 2 front ≡ o → seconds_after s o ≡ Ok time
    → IsMinutesSeconds text time
minutes-read text front time s back None is h =
    absurd (let bad : Err fault.NotAResult ≡ Ok time = h in cc)
minutes-read text front time s back (Some m) is h =
    let kept = spared_ok (nat_le 60 s) (60 * m + s) time fault.BadSeconds h in
    let few : nat_le 60 s ≡ false = kept.0 in
    record {
      front = front;
      seconds = s;
      minutes = m;
      back = back;
      digits = digits-read 2 front m is;
      below = grind (arith, nat_tests);
      value = sym kept.1;
    }

whole-read : (text : List ℕ) (time : ℕ) → whole_seconds_of text ≡ Ok time → IsWhole text time
unfolding whole_seconds_of
whole-read text time h = start (pair_of (codes ":") text) refl h
  where
    start : (o : Option (List ℕ × ℕ)) → pair_of (codes ":") text ≡ o
        → whole_seconds_with text o ≡ Ok time → IsWhole text time
    start None is r = inl (filled-read text time (number_of 4 text) refl r)
    start (Some p) is r =
        inr (minutes-read text p.0 time p.1 (pair-read (codes ":") text p.0 p.1 is)
        (number_of 2 p.0) refl r)

whole-found : (text : List ℕ) (time : ℕ) → IsWhole text time → whole_seconds_of text ≡ Ok time
unfolding whole_seconds_of
whole-found text time (inl f) =
    let none : pair_of (codes ":") text ≡ None =
    pair-none (codes ":") text refl f.digits.decimal in
    let number : number_of 4 text ≡ Some f.number = digits-found 4 text f.number f.digits in
    let few : (nat_le 100 f.number && nat_le 60 (f.number % 100)) ≡ false =
    let s = f.seconds in grind (arith, nat_tests) in
    rw (none, number, few) (ap Ok (sym f.value))
whole-found text time (inr f) =
    let split : pair_of (codes ":") text ≡ Some (f.front, f.seconds) =
    pair-found (codes ":") text f.front f.seconds f.back in
    let number : number_of 2 f.front ≡ Some f.minutes =
    digits-found 2 f.front f.minutes f.digits in
    let few : nat_le 60 f.seconds ≡ false = let s = f.below in grind (arith, nat_tests) in
    rw (split, number, few) (ap Ok (sym f.value))

-- ---- cubes and their time

cubes : IsSpelled (number_between 0 99) decimal (IsWithin 0 99)
cubes = number_spelled 0 99 (omega arith)

attempts : IsSpelled (number_between 2 99) decimal (IsWithin 2 99)
attempts = number_spelled 2 99 (omega arith)

slashes_lack : (bytes : List ℕ) → list_all is_ascii_digit bytes ≡ true → lacks 47 bytes ≡ true
slashes_lack [] h = refl
slashes_lack (b ∷ bytes) h =
    let both = and-true (is_ascii_digit b) (list_all is_ascii_digit bytes) h in
    let digit = both.0 in
    let first : not (b == 47) ≡ true = grind (arith, nat_tests) in
    rw (first, slashes_lack bytes both.1) refl

in_parts : (s a : ℕ) (clock : List ℕ) → decimal s ++ codes "/" ++ decimal a ++ codes " " ++ clock
    ≡ decimal s ++ 47 ∷ (decimal a ++ 32 ∷ clock)
in_parts s a clock =
    append_assoc (decimal s ++ codes "/" ++ decimal a) (codes " ") clock
    ∙ append_assoc (decimal s ++ codes "/") (decimal a) (32 ∷ clock)
    ∙ append_assoc (decimal s) (codes "/") (decimal a ++ 32 ∷ clock)

pub multi-found : (text : List ℕ) (s a t : ℕ) → IsMulti text s a t
    → multi_of text ≡ Ok (entered.Multi s a t)
unfolding multi_of
multi-found text s a t h =
    let few = h.few in
    let all = h.all in
    let two = h.two in
    let some = h.some in
    let split : cut 47 text ≡ (decimal s, Some (decimal a ++ 32 ∷ h.clock)) =
    ap (cut 47) (h.parts ∙ in_parts s a h.clock)
    ∙ cut-behind 47 (decimal s) (Some (decimal a ++ 32 ∷ h.clock))
    (slashes_lack (decimal s) (decimal_digits s (omega arith))) in
    let next : cut 32 (decimal a ++ 32 ∷ h.clock) ≡ (decimal a, Some h.clock) =
    cut-behind 32 (decimal a) (Some h.clock) (decimal_no_space a (omega arith)) in
    let solved : number_between 0 99 (decimal s) ≡ Some s =
    cubes.found s (omega arith, omega arith) in
    let attempted : number_between 2 99 (decimal a) ≡ Some a =
    attempts.found a (omega arith, omega arith) in
    let below : nat_le s a ≡ true = grind (arith, nat_tests) in
    let least : nat_le 1 t ≡ true = grind (arith, nat_tests) in
    rw (split, solved, next, attempted, below, whole-found h.clock t h.form, least) refl

pub record Multis (text : List ℕ) (x : Entered) : Type 0 where
  pub solved : ℕ
  pub attempted : ℕ
  pub seconds : ℕ
  pub is : x ≡ entered.Multi solved attempted seconds
  pub spelled : IsMulti text solved attempted seconds

pub multi-read : (text : List ℕ) (x : Entered) → multi_of text ≡ Ok x → Multis text x
unfolding multi_of
multi-read text x h =
    let s = bind_ok (or_fault fault.NotAResult (number_between 0 99 (cut 47 text).0)) _ x h in
    let front = or_fault_ok fault.NotAResult (number_between 0 99 (cut 47 text).0) s.value s.was in
    let r = bind_ok (or_fault fault.NotAResult (cut 47 text).1) _ x s.next in
    let is = or_fault_ok fault.NotAResult (cut 47 text).1 r.value r.was in
    let rest = r.value in
    let a = bind_ok (or_fault fault.BadAttempted (number_between 2 99 (cut 32 rest).0)) _ x r.next in
    let back =
    or_fault_ok fault.BadAttempted (number_between 2 99 (cut 32 rest).0) a.value a.was in
    let c = bind_ok (solved_of s.value a.value) _ x a.next in
    let cubes_kept =
    kept_ok (nat_le s.value a.value) (s.value, a.value) c.value (fault.MoreSolved a.value) c.was in
    let k = bind_ok (or_fault fault.NotAResult (cut 32 rest).1) _ x c.next in
    let end = or_fault_ok fault.NotAResult (cut 32 rest).1 k.value k.was in
    let t = bind_ok (whole_seconds_of k.value) _ x k.next in
    let m = bind_ok (some_seconds t.value) _ x t.next in
    let time_kept = kept_ok (nat_le 1 t.value) t.value m.value fault.NoSeconds m.was in
    let one = cubes.only (cut 47 text).0 s.value front in
    let two = attempts.only (cut 32 rest).0 a.value back in
    let tail : rest ≡ decimal a.value ++ 32 ∷ k.value =
    cut_spelled 32 rest ∙ ap (λ y. y ++ behind 32 (cut 32 rest).1) two.1
    ∙ ap (λ y. decimal a.value ++ behind 32 y) end in
    let solved : s.value ≡ c.value.0 = ap (λ (p : ℕ × ℕ). p.0) cubes_kept.1 in
    let attempted : a.value ≡ c.value.1 = ap (λ (p : ℕ × ℕ). p.1) cubes_kept.1 in
    let seconds : t.value ≡ m.value = time_kept.1 in
    let last : Ok (entered.Multi c.value.0 c.value.1 m.value) ≡ Ok x = m.next in
    let below : nat_le s.value a.value ≡ true = cubes_kept.0 in
    let least : nat_le 1 t.value ≡ true = time_kept.0 in
    record {
      solved = s.value;
      attempted = a.value;
      seconds = t.value;
      is = cc;
      spelled = record {
        clock = k.value;
        parts = cut_spelled 47 text ∙ ap (λ y. y ++ behind 47 (cut 47 text).1) one.1
            ∙ ap (λ y. decimal s.value ++ behind 47 y) is
            ∙ ap (λ y. decimal s.value ++ 47 ∷ y) tail
            ∙ sym (in_parts s.value a.value k.value);
        form = whole-read k.value t.value t.was;
        two = two.0.0;
        few = two.0.1;
        all = grind (arith, nat_tests);
        some = grind (arith, nat_tests);
      };
    }
