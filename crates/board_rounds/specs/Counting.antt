-- Which of five attempts do not count for their average (WCA Regulations, article 9f8): the best
-- and the worst, of which people write the result in parentheses.
use Rattle.std.specs.Prelude.{ℕ, ◌+◌, ◌==◌, ◌&&◌, ◌||◌, not, Bool, false, List, length, take, drop}
use Rattle.std.specs.List.{list_any, list_all}
use Rattle.attempts.specs.declared.Value.{Value}
use Rattle.formats.specs.declared.events.Format.{Format, TheVariants.Ao5}
use Rattle.formats.specs.Results.{number_of, is_less}

-- a number is better than a greater one, and than none
abbrev pub beats : Value → Value → Bool
beats v w = is_less (number_of v) (number_of w)

-- no attempt beats this one, and it beats those before it
abbrev pub is_first_best : List Value → ℕ → Value → Bool
is_first_best vs k v =
    not (list_any (λ w. beats w v) vs) && list_all (λ w. beats v w) (take k vs)

-- it beats no attempt, and those after it beat it
abbrev pub is_last_worst : List Value → ℕ → Value → Bool
is_last_worst vs k v =
    not (list_any (λ w. beats v w) vs) && list_all (λ w. beats w v) (drop (k + 1) vs)

-- attempt k, counted from 0, whose value this is
abbrev pub is_left_out : Format → List Value → ℕ → Value → Bool
is_left_out Ao5 vs k v = length vs == 5 && (is_first_best vs k v || is_last_worst vs k v)
is_left_out _ vs k v = false
