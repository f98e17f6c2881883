-- What a competitor's values make: the best, the average, and the order by them (WCA Regulations,
-- article 9f). How averages are rounded and printed is the project's own.
use Rattle.std.specs.Prelude.{◌≡◌, ℕ, ◌+◌, ◌-◌, ◌*◌, ◌/◌, Bool, true, false, ◌==◌, ◌||◌, ◌&&◌}
use Rattle.std.specs.Prelude.{nat_lt, nat_le, if◌then◌else◌, min, max, List, ◌++◌, ◌%◌, codes}
use Rattle.std.specs.Prelude.{decimal, length, sum, filter_map, Option, None, Some, unwrap_or}
use Rattle.std.specs.List.{reduce, list_any}
use Rattle.attempts.specs.declared.{Value.Value, Unit.Unit as Measure}
use Rattle.attempts.specs.declared.Unit.TheVariants.{Time, Moves, Multi}
use Rattle.formats.specs.declared.events.Format.{Format, TheVariants.Ao5, TheVariants.Mo3}
use Rattle.formats.specs.declared.results.{Averaged.Averaged, RankKey.RankKey}
use Rattle.attempts.specs.Texts.{time_text, two_digits, number_text}
use Rattle.attempts.specs.declared.Value.TheVariants as value
use Rattle.formats.specs.declared.results.Averaged.TheVariants as averaged

abbrev pub number_of : Value → Option ℕ
number_of (value.Number n) = Some n
number_of value.Dnf = None
number_of value.Dns = None

abbrev pub is_dnf : Value → Bool
is_dnf (value.Number n) = false
is_dnf value.Dnf = true
is_dnf value.Dns = false

-- the numbers among the values
abbrev pub numbers : List Value → List ℕ
numbers vs = filter_map number_of vs

abbrev pub least : List ℕ → Option ℕ
least ns = reduce min ns

abbrev pub greatest : List ℕ → Option ℕ
greatest ns = reduce max ns

-- without a number a DNF is better than none
abbrev pub without_number : Bool → Value
without_number true = value.Dnf
without_number false = value.Dns

abbrev pub number_or : Option ℕ → Value → Value
number_or (Some n) other = value.Number n
number_or None other = other

-- the least number; without one DNF where a DNF is there, else DNS
abbrev pub best_of : List Value → Value
best_of vs = number_or (least (numbers vs)) (without_number (list_any is_dnf vs))

-- a third of a sum: of times to the hundredth, above ten minutes to the second; of moves to the
-- hundredth of a move; nothing is averaged in multi-blind
abbrev pub third_of : Measure → ℕ → ℕ
third_of Time s = if nat_le s 180000 then (2 * s + 3) / 6 else (s + 150) / 300 * 100
third_of Moves s = (200 * s + 3) / 6
third_of Multi s = 0

-- the sum of three or more numbers without the least
abbrev pub without_least : List ℕ → ℕ
without_least ns = sum ns - unwrap_or (least ns) 0

-- the average of five attempts of which these are numbers
abbrev pub trimmed : Measure → List ℕ → Averaged
trimmed unit ns =
    if length ns == 5
    then averaged.Number (third_of unit (without_least ns - unwrap_or (greatest ns) 0))
    else if length ns == 4 then averaged.Number (third_of unit (without_least ns))
    else averaged.Dnf

-- the mean of three attempts of which these are numbers
abbrev pub mean_of : Measure → List ℕ → Averaged
mean_of unit ns = if length ns == 3 then averaged.Number (third_of unit (sum ns)) else averaged.Dnf

abbrev pub average_of : Format → Measure → List Value → Averaged
average_of Ao5 unit vs = if length vs == 5 then trimmed unit (numbers vs) else averaged.Missing
average_of Mo3 unit vs = if length vs == 3 then mean_of unit (numbers vs) else averaged.Missing
average_of _ unit vs = averaged.Missing

abbrev pub averaged_number : Averaged → Option ℕ
averaged_number (averaged.Number n) = Some n
averaged_number averaged.Dnf = None
averaged_number averaged.Missing = None

-- ranked by the average, where there is one
abbrev pub has_average : Format → Bool
has_average Ao5 = true
has_average Mo3 = true
has_average _ = false

-- multi-blind has the best-of formats alone
abbrev pub IsFormatOf : Measure → Format → Type 0
IsFormatOf Multi format = has_average format ≡ false
IsFormatOf Time format = Unit {0}
IsFormatOf Moves format = Unit {0}

abbrev pub key_of : Format → Measure → List Value → RankKey
key_of format unit vs =
    if has_average format
    then record { main = averaged_number (average_of format unit vs); tie = number_of (best_of vs) }
    else record { main = number_of (best_of vs); tie = None }

-- a number is less than a greater one, and than none
abbrev pub is_less : Option ℕ → Option ℕ → Bool
is_less None b = false
is_less (Some a) None = true
is_less (Some a) (Some b) = nat_lt a b

abbrev pub is_same : Option ℕ → Option ℕ → Bool
is_same None None = true
is_same None (Some b) = false
is_same (Some a) None = false
is_same (Some a) (Some b) = a == b

-- by the main number, and equal ones by the tie
abbrev pub is_better : RankKey → RankKey → Bool
is_better a b = is_less a.main b.main || (is_same a.main b.main && is_less a.tie b.tie)

-- hundredths of a move as whole moves, a point and two digits
abbrev pub moves_text : ℕ → List ℕ
moves_text n = decimal (n / 100) ++ codes "." ++ two_digits (n % 100)

abbrev pub averaged_text : Measure → ℕ → List ℕ
averaged_text Time n = time_text n
averaged_text Moves n = moves_text n
averaged_text Multi n = number_text Multi n

-- an average as a sheet has it
abbrev pub average_text : Measure → Averaged → List ℕ
average_text unit (averaged.Number n) = averaged_text unit n
average_text unit averaged.Dnf = codes "DNF"
average_text unit averaged.Missing = codes "-"
