-- How values are printed (the project's own).
use Rattle.std.specs.Prelude.{ℕ, ◌+◌, ◌-◌, ◌*◌, ◌/◌, ◌%◌, nat_lt, if◌then◌else◌, List, [], ◌∷◌}
use Rattle.std.specs.Prelude.{◌++◌, codes, decimal}
use Rattle.attempts.specs.declared.{Value.Value, Unit.Unit as Measure}
use Rattle.attempts.specs.declared.Value.TheVariants.{Number, Dnf, Dns}
use Rattle.attempts.specs.declared.Unit.TheVariants.{Time, Moves, Multi}

-- the last two decimal digits
abbrev pub two_digits : ℕ → List ℕ
two_digits n = (48 + n / 10 % 10) ∷ (48 + n % 10) ∷ []

-- hundredths as seconds, or from a minute on as minutes and seconds
abbrev pub time_text : ℕ → List ℕ
time_text n =
    if nat_lt n 6000 then decimal (n / 100) ++ codes "." ++ two_digits (n % 100)
    else decimal (n / 6000) ++ codes ":" ++ two_digits (n / 100 % 60) ++ codes "."
    ++ two_digits (n % 100)

-- whole seconds as minutes and seconds
abbrev pub clock_text : ℕ → List ℕ
clock_text seconds = decimal (seconds / 60) ++ codes ":" ++ two_digits (seconds % 60)

-- solved of attempted cubes, and the time
abbrev pub multi_text : ℕ → ℕ → ℕ → List ℕ
multi_text solved attempted seconds =
    decimal solved ++ codes "/" ++ decimal attempted ++ codes " " ++ clock_text seconds

-- What a number of multi-blind was made of

abbrev pub points_in : ℕ → ℕ
points_in n = 99 - n / 10000000

abbrev pub unsolved_in : ℕ → ℕ
unsolved_in n = n % 10000000 % 100

abbrev pub solved_in : ℕ → ℕ
solved_in n = points_in n + unsolved_in n

abbrev pub attempted_in : ℕ → ℕ
attempted_in n = points_in n + 2 * unsolved_in n

abbrev pub seconds_in : ℕ → ℕ
seconds_in n = n % 10000000 / 100

abbrev pub number_text : Measure → ℕ → List ℕ
number_text Time n = time_text n
number_text Moves n = decimal n
number_text Multi n = multi_text (solved_in n) (attempted_in n) (seconds_in n)

-- a value as a sheet has it
abbrev pub value_text : Measure → Value → List ℕ
value_text unit (Number n) = number_text unit n
value_text unit Dnf = codes "DNF"
value_text unit Dns = codes "DNS"
