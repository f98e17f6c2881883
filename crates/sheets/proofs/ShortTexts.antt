-- What is printed of values and numbers is short, and no byte of it calls for quotes in a table.
use Rattle.std.proofs.Common.{◌≡◌, ℕ, zero, suc, ◌+◌, ◌-◌, ◌*◌, ◌/◌, ◌%◌, ◌^◌, ◌<◌, ◌≤◌, Bool, true}
use Rattle.std.proofs.Common.{false, ◌==◌, cond, min, nat_lt, nat_le, List, [], ◌∷◌, ◌++◌, length}
use Rattle.std.proofs.Common.{fold, sum, unwrap_or, codes, decimal, Option, Some, None, IfSome}
use Rattle.std.proofs.Common.{refl, arith, length-append, eqb-true}
use Rattle.std.{specs.Char.is_ascii_digit, proofs.Math.Nat.min-le_left}
use Rattle.std.specs.List.{AllByRecursion, list_all, list_any}
use Rattle.std.proofs.lemmas.{Bool.Decides.nat_tests, Fmt.length-decimal-le}
use Rattle.attempts.specs.declared.{Value.Value, Unit.Unit as Measure}
use Rattle.attempts.specs.declared.Unit.TheVariants.{Time, Moves, Multi}
use Rattle.attempts.specs.Attempts.{IsInRangeOf}
use Rattle.attempts.specs.Texts.{two_digits, time_text, clock_text, points_in, unsolved_in}
use Rattle.attempts.specs.Texts.{solved_in, attempted_in, seconds_in, multi_text, value_text}
use Rattle.csv.specs.Writing.{default_writer, needs_byte}
use Rattle.formats.specs.declared.events.Format.{Format, TheVariants.Ao5, TheVariants.Mo3}
use Rattle.formats.specs.declared.results.Averaged.{Averaged}
use Rattle.formats.specs.Results.{numbers, least, greatest, number_or, without_number, is_dnf}
use Rattle.formats.specs.Results.{best_of, third_of, without_least, trimmed, mean_of, average_of}
use Rattle.formats.specs.Results.{moves_text, averaged_text, average_text}
use Rattle.texts.proofs.{Cuts.and-true, FieldSpellings.decimal_digits}
use Rattle.sheets.specs.Sheet.{best_text, attempt_text}
use Rattle.commands.proofs.Sizes.{all_append}
use Rattle.std.proofs.lemmas.List.{Sums.sum_by-le, Elements.All-from_recursion}
use Rattle.attempts.specs.declared.Value.TheVariants as value
use Rattle.formats.specs.declared.results.Averaged.TheVariants as averaged

-- the byte calls for no quotes
abbrev pub IsBare : ℕ → Type 0
IsBare b = needs_byte default_writer b ≡ false

-- a value is at most the greatest one of any unit
abbrev pub IsSmallValue : Value → Type 0
IsSmallValue v = IsInRangeOf Multi v

-- a text has at most this many bytes, and calls for no quotes
pub record IsPlain (most : ℕ) (text : List ℕ) : Type 0 where
  pub short : length text ≤ most
  pub unquoted : AllByRecursion IsBare text

pub plain_append : (a b most : ℕ) (xs ys : List ℕ) → a + b ≤ most → IsPlain a xs → IsPlain b ys
    → IsPlain most (xs ++ ys)
plain_append a b most xs ys room x y = record {
  short = let long = length-append xs ys in omega (arith, long, x.short, y.short, room);
  unquoted = all_append IsBare xs ys x.unquoted y.unquoted;
}

plain_more : (a most : ℕ) (xs : List ℕ) → a ≤ most → IsPlain a xs → IsPlain most xs
plain_more a most xs room x = record { short = omega (arith, x.short, room); unquoted = x.unquoted }

digits_unquoted : (bytes : List ℕ) → list_all is_ascii_digit bytes ≡ true
    → AllByRecursion IsBare bytes
digits_unquoted [] h = tt
digits_unquoted (b ∷ bytes) h =
    let both = and-true (is_ascii_digit b) (list_all is_ascii_digit bytes) h in
    let bare : needs_byte default_writer b ≡ false = grind (arith, nat_tests) in
    (bare, digits_unquoted bytes both.1)

-- a number with this many digits
pub plain_decimal : (k n : ℕ) → 0 < k → n < 10 ^ k → n < 1000000000000 → IsPlain k (decimal n)
plain_decimal k n some fits small = record {
  short = length-decimal-le k n some fits (omega arith);
  unquoted = digits_unquoted (decimal n) (decimal_digits n (omega arith));
}

plain_two : (n : ℕ) → IsPlain 2 (two_digits n)
plain_two n =
    record {
      short = omega arith;
      unquoted = (grind (arith, nat_tests), (grind (arith, nat_tests), tt));
    }

plain_point : IsPlain 1 (codes ".")
plain_point = record { short = omega arith; unquoted = (refl, tt) }

plain_colon : IsPlain 1 (codes ":")
plain_colon = record { short = omega arith; unquoted = (refl, tt) }

-- Times and moves

plain_seconds : (n : ℕ) → n < 6000 → IsPlain 15 (decimal (n / 100) ++ codes "."
    ++ two_digits (n % 100))
plain_seconds n small =
    plain_append 3 2 15 (decimal (n / 100) ++ codes ".") (two_digits (n % 100)) (omega arith)
    (plain_append 2 1 3 (decimal (n / 100)) (codes ".") (omega arith) (plain_decimal 2 (n / 100)
    (omega arith) (omega arith) (omega arith)) plain_point) (plain_two (n % 100))

plain_minutes : (n : ℕ) → n < 200000000000 → IsPlain 15 (decimal (n / 6000) ++ codes ":"
    ++ two_digits (n / 100 % 60) ++ codes "." ++ two_digits (n % 100))
plain_minutes n small =
    plain_append 12 2 15 (decimal (n / 6000) ++ codes ":" ++ two_digits (n / 100 % 60) ++ codes ".")
    (two_digits (n % 100)) (omega arith)
    (plain_append 11 1 12 (decimal (n / 6000) ++ codes ":" ++ two_digits (n / 100 % 60))
    (codes ".") (omega arith)
    (plain_append 9 2 11 (decimal (n / 6000) ++ codes ":") (two_digits (n / 100 % 60)) (omega arith)
    (plain_append 8 1 9 (decimal (n / 6000)) (codes ":") (omega arith) (plain_decimal 8 (n / 6000)
    (omega arith) (omega arith) (omega arith)) plain_colon) (plain_two (n / 100 % 60))) plain_point)
    (plain_two (n % 100))

plain_time : (n : ℕ) → n < 200000000000 → IsPlain 15 (time_text n)
plain_time n small = step (nat_lt n 6000) refl
  where
    step : (b : Bool) → nat_lt n 6000 ≡ b
        → IsPlain 15 (cond b (decimal (n / 100) ++ codes "." ++ two_digits (n % 100))
        (decimal (n / 6000) ++ codes ":" ++ two_digits (n / 100 % 60) ++ codes "."
        ++ two_digits (n % 100)))
    step true is = plain_seconds n (grind (arith, nat_tests))
    step false is = plain_minutes n small

plain_moves : (n : ℕ) → n < 200000000000 → IsPlain 15 (moves_text n)
plain_moves n small =
    plain_append 11 2 15 (decimal (n / 100) ++ codes ".") (two_digits (n % 100)) (omega arith)
    (plain_append 10 1 11 (decimal (n / 100)) (codes ".") (omega arith) (plain_decimal 10 (n / 100)
    (omega arith) (omega arith) (omega arith)) plain_point) (plain_two (n % 100))

-- Results of multi-blind, of any number

plain_slash : IsPlain 1 (codes "/")
plain_slash = record { short = omega arith; unquoted = (refl, tt) }

plain_space : IsPlain 1 (codes " ")
plain_space = record { short = omega arith; unquoted = (refl, tt) }

few_points : (n : ℕ) → points_in n ≤ 99
few_points n = omega arith

few_unsolved : (n : ℕ) → unsolved_in n ≤ 99
few_unsolved n = omega arith

few_seconds : (n : ℕ) → seconds_in n ≤ 99999
few_seconds n = omega arith

plain_clock : (seconds : ℕ) → seconds ≤ 99999 → IsPlain 7 (clock_text seconds)
plain_clock seconds few =
    plain_append 5 2 7 (decimal (seconds / 60) ++ codes ":") (two_digits (seconds % 60))
    (omega arith) (plain_append 4 1 5 (decimal (seconds / 60)) (codes ":") (omega arith)
    (plain_decimal 4 (seconds / 60) (omega arith) (omega arith) (omega arith)) plain_colon)
    (plain_two (seconds % 60))

plain_cubes : (solved attempted seconds : ℕ) → solved ≤ 198 → attempted ≤ 297 → seconds ≤ 99999
    → IsPlain 15 (multi_text solved attempted seconds)
plain_cubes solved attempted seconds some all few =
    plain_append 8 7 15 (decimal solved ++ codes "/" ++ decimal attempted ++ codes " ")
    (clock_text seconds) (omega arith)
    (plain_append 7 1 8 (decimal solved ++ codes "/" ++ decimal attempted) (codes " ") (omega arith)
    (plain_append 4 3 7 (decimal solved ++ codes "/") (decimal attempted) (omega arith)
    (plain_append 3 1 4 (decimal solved) (codes "/") (omega arith)
    (plain_decimal 3 solved (omega arith) (omega arith) (omega arith)) plain_slash)
    (plain_decimal 3 attempted (omega arith) (omega arith) (omega arith))) plain_space)
    (plain_clock seconds few)

plain_multi : (n : ℕ) → IsPlain 15 (multi_text (solved_in n) (attempted_in n) (seconds_in n))
plain_multi n =
    let points = few_points n in
    let unsolved = few_unsolved n in
    plain_cubes (solved_in n) (attempted_in n) (seconds_in n) (omega (arith, points, unsolved))
    (omega (arith, points, unsolved)) (few_seconds n)

-- Values

plain_dnf : IsPlain 15 (codes "DNF")
plain_dnf = record { short = omega arith; unquoted = (refl, (refl, (refl, tt))) }

pub plain_value : (unit : Measure) (v : Value) → IsSmallValue v → IsPlain 15 (value_text unit v)
plain_value Time (value.Number n) is = plain_time n (omega arith)
plain_value Moves (value.Number n) is =
    plain_more 9 15 (decimal n) (omega arith) (plain_decimal 9 n (omega arith)
    (omega arith) (omega arith))
plain_value Multi (value.Number n) is = plain_multi n
plain_value unit value.Dnf is = plain_dnf
plain_value unit value.Dns is =
    record { short = omega arith; unquoted = (refl, (refl, (refl, tt))) }

pub plain_dash : IsPlain 15 (codes "-")
plain_dash = record { short = omega arith; unquoted = (refl, tt) }

pub plain_attempt : (unit : Measure) (vs : List Value) → AllByRecursion IsSmallValue vs → (k : ℕ)
    → IsPlain 15 (attempt_text unit vs k)
plain_attempt unit [] are k = plain_dash
plain_attempt unit (v ∷ vs) are zero = plain_value unit v are.0
plain_attempt unit (v ∷ vs) are (suc k) = plain_attempt unit vs are.1 k

-- The best

abbrev IsSmallNumber : ℕ → Type 0
IsSmallNumber n = n ≤ 990599949

numbers_small : (vs : List Value) → AllByRecursion IsSmallValue vs
    → AllByRecursion IsSmallNumber (numbers vs)
numbers_small [] are = tt
numbers_small (value.Number n ∷ vs) are = (are.0, numbers_small vs are.1)
numbers_small (value.Dnf ∷ vs) are = numbers_small vs are.1
numbers_small (value.Dns ∷ vs) are = numbers_small vs are.1

fold_small : (n : ℕ) (ns : List ℕ) → n ≤ 990599949 → fold min n ns ≤ 990599949
fold_small n [] is = is
fold_small n (m ∷ ns) is =
    fold_small (min n m) ns (let less = min-le_left n m in omega (arith, less, is))

least_small : (ns : List ℕ) → AllByRecursion IsSmallNumber ns → IfSome (least ns) IsSmallNumber
least_small [] are = tt
least_small (n ∷ ns) are = fold_small n ns are.0

pub best_small : (vs : List Value) → AllByRecursion IsSmallValue vs → IsSmallValue (best_of vs)
best_small vs are =
    step (least (numbers vs)) (list_any is_dnf vs) (least_small (numbers vs) (numbers_small vs are))
  where
    step : (o : Option ℕ) (b : Bool) → IfSome o IsSmallNumber
        → IsSmallValue (number_or o (without_number b))
    step (Some n) b is = is
    step None true is = tt
    step None false is = tt

pub plain_best : (unit : Measure) (vs : List Value) → AllByRecursion IsSmallValue vs
    → IsPlain 15 (best_text unit vs)
plain_best unit [] are = plain_dash
plain_best unit (v ∷ vs) are = plain_value unit (best_of (v ∷ vs)) (best_small (v ∷ vs) are)

-- The average

sum_small : (ns : List ℕ) → AllByRecursion IsSmallNumber ns → sum ns ≤ length ns * 990599949
sum_small ns are =
    sum_by-le (λ x. x) 990599949 ns (All-from_recursion IsSmallNumber ns are)

third_small : (unit : Measure) (s : ℕ) → s ≤ 5000000000 → third_of unit s < 200000000000
third_small Time s small = step (nat_le s 180000)
  where
    step : (b : Bool) → cond b ((2 * s + 3) / 6) ((s + 150) / 300 * 100) < 200000000000
    step true = omega arith
    step false = omega arith
third_small Moves s small = omega arith
third_small Multi s small = omega arith

plain_number : (printed : Measure) (n : ℕ) → n < 200000000000 → IsPlain 15 (averaged_text printed n)
plain_number Time n small = plain_time n small
plain_number Moves n small = plain_moves n small
plain_number Multi n small = plain_multi n

trimmed_holds : (P : Averaged → Type 0) → P averaged.Dnf
    → ((n : ℕ) → n < 200000000000 → P (averaged.Number n)) → (unit : Measure) (ns : List ℕ)
    → AllByRecursion IsSmallNumber ns → P (trimmed unit ns)
trimmed_holds P dnf each unit ns are = step (length ns == 5) (length ns == 4) refl refl
  where
    step : (a b : Bool) → (length ns == 5) ≡ a → (length ns == 4) ≡ b
        → P (cond a (averaged.Number (third_of unit (without_least ns - unwrap_or (greatest ns) 0)))
        (cond b (averaged.Number (third_of unit (without_least ns))) averaged.Dnf))
    step true b is_a is_b =
        let five : length ns ≡ 5 = eqb-true (length ns) 5 is_a in
        let all = sum_small ns are in
        each (third_of unit (without_least ns - unwrap_or (greatest ns) 0))
        (third_small unit (without_least ns - unwrap_or (greatest ns) 0) (omega (arith, five, all)))
    step false true is_a is_b =
        let four : length ns ≡ 4 = eqb-true (length ns) 4 is_b in
        let all = sum_small ns are in
        each (third_of unit (without_least ns))
        (third_small unit (without_least ns) (omega (arith, four, all)))
    step false false is_a is_b = dnf

mean_holds : (P : Averaged → Type 0) → P averaged.Dnf
    → ((n : ℕ) → n < 200000000000 → P (averaged.Number n)) → (unit : Measure) (ns : List ℕ)
    → AllByRecursion IsSmallNumber ns → P (mean_of unit ns)
mean_holds P dnf each unit ns are = step (length ns == 3) refl
  where
    step : (a : Bool) → (length ns == 3) ≡ a
        → P (cond a (averaged.Number (third_of unit (sum ns))) averaged.Dnf)
    step true is =
        let three : length ns ≡ 3 = eqb-true (length ns) 3 is in
        let all = sum_small ns are in
        each (third_of unit (sum ns)) (third_small unit (sum ns) (omega (arith, three, all)))
    step false is = dnf

holds_if : (P : Averaged → Type 0) (b : Bool) (x : Averaged) → P averaged.Missing → P x
    → P (cond b x averaged.Missing)
holds_if P true x none is = is
holds_if P false x none is = none

-- what holds of no average, of DNF and of each small number holds of the average of such values
pub average_holds : (P : Averaged → Type 0) → P averaged.Missing → P averaged.Dnf
    → ((n : ℕ) → n < 200000000000 → P (averaged.Number n)) → (format : Format) (unit : Measure)
    (vs : List Value) → AllByRecursion IsSmallValue vs → P (average_of format unit vs)
average_holds P none dnf each Ao5 unit vs are =
    holds_if P (length vs == 5) (trimmed unit (numbers vs)) none
    (trimmed_holds P dnf each unit (numbers vs) (numbers_small vs are))
average_holds P none dnf each Mo3 unit vs are =
    holds_if P (length vs == 3) (mean_of unit (numbers vs)) none
    (mean_holds P dnf each unit (numbers vs) (numbers_small vs are))
average_holds P none dnf each _ unit vs are = none

-- an average, printed as the event has it
pub plain_average : (printed : Measure) (format : Format) (unit : Measure) (vs : List Value)
    → AllByRecursion IsSmallValue vs → IsPlain 15 (average_text printed (average_of format unit vs))
plain_average printed =
    average_holds (λ x. IsPlain 15 (average_text printed x)) plain_dash plain_dnf
    (plain_number printed)
