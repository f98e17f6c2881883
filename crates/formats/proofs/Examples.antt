-- Bests, averages and the order, computed from the definitions.
use Rattle.std.proofs.Common.{◌≡◌, refl, true, false, List, [], ◌∷◌, Some, None}
use Rattle.attempts.specs.declared.{Value.Value, Unit.TheVariants.Time, Unit.TheVariants.Moves}
use Rattle.formats.specs.declared.events.Format.TheVariants.{Ao5, Mo3, Bo3}
use Rattle.formats.specs.Results.{best_of, average_of, is_better}
use Rattle.attempts.specs.declared.Value.TheVariants as value
use Rattle.formats.specs.declared.results.Averaged.TheVariants as averaged

one_dnf : List Value
one_dnf =
    value.Number 1000 ∷ value.Number 1200 ∷ value.Number 1100 ∷ value.Number 1300 ∷ value.Dnf ∷ []

two_dnfs : List Value
two_dnfs = value.Number 1000 ∷ value.Number 1200 ∷ value.Number 1100 ∷ value.Dnf ∷ value.Dnf ∷ []

-- a DNF counts as the worst
average_with_one_dnf : average_of Ao5 Time one_dnf ≡ averaged.Number 1200
unfolding one_dnf
average_with_one_dnf = refl

average_with_two_dnfs : average_of Ao5 Time two_dnfs ≡ averaged.Dnf
unfolding two_dnfs
average_with_two_dnfs = refl

best_with_two_dnfs : best_of two_dnfs ≡ value.Number 1000
unfolding two_dnfs
best_with_two_dnfs = refl

-- 10:01.50 is rounded up
long_mean : average_of Mo3 Time (value.Number 59950 ∷ value.Number 60200 ∷ value.Number 60300 ∷ [])
    ≡ averaged.Number 60200
long_mean = refl

mean_of_moves : average_of Mo3 Moves (value.Number 25 ∷ value.Number 26 ∷ value.Number 26 ∷ [])
    ≡ averaged.Number 2567
mean_of_moves = refl

-- a DNF is no zero
mean_with_a_dnf : average_of Mo3 Moves (value.Number 25 ∷ value.Dnf ∷ value.Number 26 ∷
    []) ≡ averaged.Dnf
mean_with_a_dnf = refl

unfinished : average_of Ao5 Time (value.Number 1150 ∷ []) ≡ averaged.Missing
unfinished = refl

no_average : average_of Bo3 Time (value.Number 900 ∷ value.Number 901 ∷ value.Dns ∷ [])
    ≡ averaged.Missing
no_average = refl

best_of_dnf_and_dns : best_of (value.Dns ∷ value.Dnf ∷ []) ≡ value.Dnf
best_of_dnf_and_dns = refl

best_of_dns : best_of (value.Dns ∷ []) ≡ value.Dns
best_of_dns = refl

-- equal averages by the best attempt
by_average : is_better (record { main = Some 1100; tie = Some 1050 }) (record {
  main = Some 1200;
  tie = Some 900;
}) ≡ true
by_average = refl

by_best : is_better (record { main = Some 1100; tie = Some 950 }) (record {
  main = Some 1100;
  tie = Some 1050;
}) ≡ true
by_best = refl

-- equal keys, and keys of no number, are none of them better
equal_keys : is_better (record { main = Some 1100; tie = Some 1050 }) (record {
  main = Some 1100;
  tie = Some 1050;
}) ≡ false
equal_keys = refl

no_result : is_better (record { main = None; tie = None }) (record { main = None; tie = None })
    ≡ false
no_result = refl

worse_without_average : is_better (record { main = None; tie = Some 100 }) (record {
  main = Some 1300;
  tie = Some 1200;
}) ≡ false
worse_without_average = refl
