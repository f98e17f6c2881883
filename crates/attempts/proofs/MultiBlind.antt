-- Results of multi-blind: their numbers are ordered, and are read back from their texts.
use Rattle.std.proofs.Common.{◌≡◌, ◌↔◌, refl, ap, ◌∙◌, ℕ, ◌+◌, ◌-◌, ◌*◌, ◌/◌, ◌%◌, ◌^◌, ◌<◌, ◌≤◌}
use Rattle.std.proofs.Common.{Bool, true, false, cond, List, [], ◌∷◌, ◌++◌, map, decimal, codes}
use Rattle.std.proofs.Common.{All, None, arith, append_assoc}
use Rattle.std.specs.{List.slice_split, List.AllByRecursion, Char.digit_value}
use Rattle.std.specs.Str.Parse.{digits_value, AllDigits}
use Rattle.std.proofs.lemmas.{Bool.Decides.nat_tests, List.Elements.All-from_recursion}
use Rattle.std.proofs.lemmas.Fmt.{digits_decimal, digits_value-decimal}
use Rattle.std.proofs.lemmas.Str.Parse.{IsNumeralModel, numerals_by_value, tells_digits}
use Rattle.std.proofs.lemmas.Str.{Parse.digit_from_value, digit_value_digit}
use Rattle.std.proofs.lemmas.List.Splits.{slice_split_at, slice_split_none}
use Rattle.attempts.specs.{declared.Value.Value, Texts.seconds_in}
use Rattle.attempts.specs.Attempts.{is_multi_finished, multi_number}
use Rattle.attempts.specs.Texts.{two_digits, multi_text, unsolved_in, solved_in, attempted_in}
use Rattle.attempts.specs.MultiLaws.{Multi, points_of, unsolved_of, is_better, is_mark, numbers_in}
use Rattle.attempts.specs.MultiLaws.{CountsAs, IsOrdered, ReadsBack}
use Rattle.attempts.specs.declared.Outcome.TheVariants as outcome
use Rattle.attempts.specs.declared.Unit.TheVariants as measure
use Rattle.attempts.specs.declared.Value.TheVariants as value

-- The number of a result that counts

abbrev number_in : Value → ℕ
number_in (value.Number n) = n
number_in value.Dnf = 0
number_in value.Dns = 0

record Counted (r : Multi) (n : ℕ) : Type 0 where
  two : 2 ≤ r.solved
  enough : unsolved_of r ≤ r.solved
  number : multi_number r.solved r.attempted r.seconds ≡ n
  few : r.attempted ≤ 99
  all : r.solved ≤ r.attempted
  seconds : r.seconds ≤ 5999

counted : (r : Multi) (n : ℕ) → CountsAs r n → Counted r n
counted r n h = go (is_multi_finished r.solved r.attempted) refl (h.1 None)
  where
    go : (b : Bool) → is_multi_finished r.solved r.attempted ≡ b
        → cond b (value.Number (multi_number r.solved r.attempted r.seconds)) value.Dnf
        ≡ value.Number n
        → Counted r n
    go false is e = cc
    go true is e =
        let two : 2 ≤ r.solved = grind (arith, nat_tests) in
        let enough : unsolved_of r ≤ r.solved = grind (arith, nat_tests) in
        record {
          two = two;
          enough = enough;
          number = ap number_in e;
          few = h.0.1;
          all = h.0.2;
          seconds = h.0.4;
        }

pub ordered : IsOrdered
ordered r s m n hr hs = go (counted r m hr) (counted s n hs)
  where
    go : Counted r m → Counted s n → (m < n) ↔ (is_better r s ≡ true)
    go a b = (λ less. to less, λ is. from is)
      where
        to : m < n → is_better r s ≡ true
        to less = grind (
          arith,
          nat_tests,
          a.number,
          b.number,
          a.two,
          b.two,
          a.enough,
          b.enough,
          a.few,
          b.few,
          a.all,
          b.all,
          a.seconds,
          b.seconds,
        )

        from : is_better r s ≡ true → m < n
        from is = grind (
          arith,
          nat_tests,
          a.number,
          b.number,
          a.two,
          b.two,
          a.enough,
          b.enough,
          a.few,
          b.few,
          a.all,
          b.all,
          a.seconds,
          b.seconds,
        )

-- What is read back

own : IsNumeralModel (AllDigits 10) (digits_value 10)
own = numerals_by_value (AllDigits 10) tells_digits

abbrev NoMark : List ℕ → Type 0
NoMark text = All (λ x. is_mark x ≡ false) text

no_marks : (text : List ℕ) → AllDigits 10 text → AllByRecursion (λ x. is_mark x ≡ false) text
no_marks [] h = tt
no_marks (c ∷ cs) h =
    let digit = digit_from_value c h.0 in
    let low : 48 ≤ c = digit.0 in
    let high : c ≤ 57 = digit.1 in
    let none : is_mark c ≡ false = grind (arith, nat_tests) in
    (none, no_marks cs h.1)

digits_unmarked : (text : List ℕ) → AllDigits 10 text → NoMark text
digits_unmarked text h = All-from_recursion (λ x. is_mark x ≡ false) text (no_marks text h)

decimal_unmarked : (n : ℕ) → n < 2 ^ 64 → NoMark (decimal n)
decimal_unmarked n small = digits_unmarked (decimal n) (digits_decimal own n small)

split_three : (xs ys zs ws : List ℕ) → NoMark xs → NoMark ys → NoMark zs → NoMark ws
    → slice_split is_mark (xs ++ 47 ∷ (ys ++ 32 ∷ (zs ++ 58 ∷ ws))) ≡ xs ∷ ys ∷ zs ∷ ws ∷ []
split_three xs ys zs ws hx hy hz hw =
    slice_split_at is_mark xs 47 (ys ++ 32 ∷ (zs ++ 58 ∷ ws)) hx refl
    ∙ ap (λ r. xs ∷ r)
    (slice_split_at is_mark ys 32 (zs ++ 58 ∷ ws) hy refl
    ∙ ap (λ r. ys ∷ r)
    (slice_split_at is_mark zs 58 ws hz refl
    ∙ ap (λ r. zs ∷ r) (slice_split_none is_mark ws hw)))

in_parts : (xs ys zs ws : List ℕ)
    → xs ++ codes "/" ++ ys ++ codes " " ++ (zs ++ codes ":" ++ ws)
    ≡ xs ++ 47 ∷ (ys ++ 32 ∷ (zs ++ 58 ∷ ws))
in_parts xs ys zs ws =
    append_assoc (xs ++ codes "/" ++ ys) (codes " ") (zs ++ codes ":" ++ ws)
    ∙ append_assoc (xs ++ codes "/") ys (32 ∷ (zs ++ codes ":" ++ ws))
    ∙ append_assoc xs (codes "/") (ys ++ 32 ∷ (zs ++ codes ":" ++ ws))
    ∙ ap (λ r. xs ++ 47 ∷ (ys ++ 32 ∷ r)) (append_assoc zs (codes ":") ws)

-- two digits are digits, and their value is the number below a hundred
two_are_digits : (n : ℕ) → AllDigits 10 (two_digits n)
two_are_digits n =
    tells_digits.more (48 + n / 10 % 10) ((48 + n % 10) ∷ []) (omega arith, omega arith)
    (tells_digits.more (48 + n % 10) [] (omega arith, omega arith) tt)

two_value : (n : ℕ) → n < 100 → digits_value 10 (two_digits n) ≡ n
two_value n small =
    let tens : digit_value (48 + n / 10 % 10) + 48 ≡ 48 + n / 10 % 10 =
    digit_value_digit (48 + n / 10 % 10) (omega arith, omega arith) in
    let ones : digit_value (48 + n % 10) + 48 ≡ 48 + n % 10 =
    digit_value_digit (48 + n % 10) (omega arith, omega arith) in omega (arith, tens, ones)

read_multi : (s a t : ℕ) → s ≤ 99 → a ≤ 99 → t ≤ 5999
    → numbers_in (multi_text s a t) ≡ s ∷ a ∷ t / 60 ∷ t % 60 ∷ []
read_multi s a t hs ha ht =
    let minutes : ℕ = t / 60 in
    let rest : ℕ = t % 60 in
    ap numbers_in (in_parts (decimal s) (decimal a) (decimal (t / 60)) (two_digits (t % 60)))
    ∙ ap (map (digits_value 10))
    (split_three (decimal s) (decimal a) (decimal (t / 60)) (two_digits (t % 60))
    (decimal_unmarked s (omega arith)) (decimal_unmarked a (omega arith))
    (decimal_unmarked (t / 60) (omega arith))
    (digits_unmarked (two_digits (t % 60)) (two_are_digits (t % 60))))
    ∙ ap (λ n. n ∷ digits_value 10 (decimal a) ∷ digits_value 10 (decimal (t / 60))
    ∷ digits_value 10 (two_digits (t % 60)) ∷ []) (digits_value-decimal own s (omega arith))
    ∙ ap (λ n. s ∷ n ∷ digits_value 10 (decimal (t / 60)) ∷ digits_value 10 (two_digits (t % 60))
    ∷ [])
    (digits_value-decimal own a (omega arith))
    ∙ ap (λ n. s ∷ a ∷ n ∷ digits_value 10 (two_digits (t % 60)) ∷ [])
    (digits_value-decimal own (t / 60) (omega arith))
    ∙ ap (λ n. s ∷ a ∷ t / 60 ∷ n ∷ []) (two_value (t % 60) (omega arith))

record Found (r : Multi) (n : ℕ) : Type 0 where
  solved : solved_in n ≡ r.solved
  attempted : attempted_in n ≡ r.attempted
  seconds : seconds_in n ≡ r.seconds

found : (r : Multi) (n : ℕ) → Counted r n → Found r n
found r n c =
    let above : n / 10000000 ≡ 99 - points_of r =
    omega (arith, c.number, c.two, c.enough, c.few, c.all, c.seconds) in
    let rest : n % 10000000 ≡ 100 * r.seconds + unsolved_of r =
    omega (arith, c.number, c.two, c.enough, c.few, c.all, c.seconds) in
    let last : unsolved_in n ≡ unsolved_of r = omega (arith, rest, c.two, c.enough, c.few, c.all) in
    let time : seconds_in n ≡ r.seconds = omega (arith, rest, c.two, c.enough, c.few, c.all) in
    record {
      solved = omega (arith, above, last, c.two, c.enough, c.few, c.all);
      attempted = omega (arith, above, last, c.two, c.enough, c.few, c.all);
      seconds = time;
    }

pub reads_back : ReadsBack
reads_back r n h =
    let c = counted r n h in
    let f = found r n c in
    rw (f.solved, f.attempted, f.seconds)
    (read_multi r.solved r.attempted r.seconds (omega (arith, c.few, c.all)) c.few c.seconds)
