-- Those who advance are before one place.
use Rattle.std.proofs.Common.{◌≡◌, ℕ, ◌+◌, ◌<◌, ◌≤◌, ◌==◌, nat_le, nat_lt, Bool, true, false, cond}
use Rattle.std.proofs.Common.{not, ◌||◌, ◌&&◌, List, [], ◌∷◌, length, map, find, count_by}
use Rattle.std.proofs.Common.{slice_get, is_some, Option, None, Some, ◌⊎◌, inl, inr, suc, refl, sym}
use Rattle.std.proofs.Common.{ap, ◌∙◌, arith}
use Rattle.std.{specs.List.list_any, specs.Option.option_map, proofs.lemmas.Option.slice_get-map}
use Rattle.std.proofs.lemmas.Bool.{false≢true}
use Rattle.std.proofs.lemmas.{Bool.Decides.nat_tests, List.Sums.count_by-le-length}
use Rattle.attempts.specs.declared.{Value.Value, Unit.Unit as Measure}
use Rattle.formats.specs.declared.events.Format.{Format, TheVariants.Ao5, TheVariants.Mo3}
use Rattle.formats.specs.declared.{results.Averaged.TheVariants.Missing, advance.Advance.Advance}
use Rattle.formats.specs.Results.{number_of, numbers, least, best_of, average_of, averaged_number}
use Rattle.formats.specs.Results.{trimmed, mean_of, key_of, is_less, is_same, is_better}
use Rattle.rounds.specs.Tables.{Entrant, Table, entrant, has_number, has_started}
use Rattle.rounds.specs.Tables.{is_started_attempt, key, place, not_worse, started}
use Rattle.rounds.{specs.Positions.place_at, proofs.KeyOrder.IsBest, proofs.KeyOrder.best_of_those}
use Rattle.rounds.proofs.CutoffOrder.{number_of_best, better_better, not_better}
use Rattle.rounds.proofs.KeyOrder.{ahead_of, count_le_in, count_lt_in, count_all, count_same}
use Rattle.rounds.proofs.Within.{within_upper, within_there, IsThere}
use Rattle.advancement.specs.Advancing.{has_result, holds_of, is_among, is_before, IsBorder, quota}
use Rattle.advancement.specs.Advancing.{advances}
use Rattle.attempts.specs.declared.Value.TheVariants as value

-- Who has not started is worse than who has a result

no_numbers : (vs : List Value) → list_any is_started_attempt vs ≡ false → numbers vs ≡ []
no_numbers [] h = refl
no_numbers (value.Number n ∷ vs) h = absurd (false≢true (sym h))
no_numbers (value.Dnf ∷ vs) h = absurd (false≢true (sym h))
no_numbers (value.Dns ∷ vs) h = no_numbers vs h

no_best : (vs : List Value) → numbers vs ≡ [] → number_of (best_of vs) ≡ None
no_best vs none = number_of_best vs ∙ ap least none

no_trimmed : (unit : Measure) (vs : List Value) → numbers vs ≡ []
    → averaged_number (average_of Ao5 unit vs) ≡ None
no_trimmed unit vs none = step (length vs == 5)
  where
    step : (b : Bool) → averaged_number (cond b (trimmed unit (numbers vs)) Missing) ≡ None
    step true = ap (λ ns. averaged_number (trimmed unit ns)) none
    step false = refl

no_mean : (unit : Measure) (vs : List Value) → numbers vs ≡ []
    → averaged_number (average_of Mo3 unit vs) ≡ None
no_mean unit vs none = step (length vs == 3)
  where
    step : (b : Bool) → averaged_number (cond b (mean_of unit (numbers vs)) Missing) ≡ None
    step true = ap (λ ns. averaged_number (mean_of unit ns)) none
    step false = refl

-- a number in the second part or the first is better than none in either
second_better : (a b c d : Option ℕ) → is_some b ≡ true → c ≡ None → d ≡ None
    → (is_less a c || (is_same a c && is_less b d)) ≡ true
second_better a b c d h none nor =
    ap (λ x. is_less a x || (is_same a x && is_less b d)) none
    ∙ ap (λ x. is_less a None || (is_same a None && is_less b x)) nor ∙ by a b h
  where
    by : (x y : Option ℕ) → is_some y ≡ true
        → (is_less x None || (is_same x None && is_less y None)) ≡ true
    by (Some n) y h = refl
    by None (Some n) h = refl
    by None None h = absurd (false≢true h)

first_better : (a c : Option ℕ) (rest : Bool) → is_some a ≡ true → c ≡ None
    → (is_less a c || rest) ≡ true
first_better a c rest h none = ap (λ x. is_less a x || rest) none ∙ by a h
  where
    by : (x : Option ℕ) → is_some x ≡ true → (is_less x None || rest) ≡ true
    by (Some n) h = refl
    by None h = absurd (false≢true h)

better_than_none : (format : Format) (unit : Measure) (vs ws : List Value)
    → is_some (number_of (best_of vs)) ≡ true → numbers ws ≡ []
    → is_better (key_of format unit vs) (key_of format unit ws) ≡ true
better_than_none Ao5 unit vs ws h none =
    second_better _ _ _ _ h (no_trimmed unit ws none) (no_best ws none)
better_than_none Mo3 unit vs ws h none =
    second_better _ _ _ _ h (no_mean unit ws none) (no_best ws none)
better_than_none _ unit vs ws h none = first_better _ _ _ h (no_best ws none)

-- Counting

find_index : {X : Type 0} (test : X → Bool) (xs : List X) (a : X) → find test xs ≡ Some a
    → (i : ℕ) × (slice_get xs i ≡ Some a)
find_index test [] a h = cc
find_index test (x ∷ xs) a h = step (test x) h (find_index test xs a)
  where
    step : (b : Bool) → cond b (Some x) (find test xs) ≡ Some a
        → (find test xs ≡ Some a → (i : ℕ) × (slice_get xs i ≡ Some a))
        → (i : ℕ) × (slice_get (x ∷ xs) i ≡ Some a)
    step true h later = (0, h)
    step false h later = let found = later h in (suc found.0, found.1)

flip_not : (b : Bool) → not b ≡ true → b ≡ false
flip_not true h = absurd (false≢true h)
flip_not false h = refl

flip_true : (b : Bool) → b ≡ false → not b ≡ true
flip_true true h = absurd (false≢true (sym h))
flip_true false h = refl

-- what can't be true
is_false : (b : Bool) → (b ≡ true → ⊥) → b ≡ false
is_false true h = absurd (h refl)
is_false false h = refl

module _ (t : Table) (e : Entrant) (j : ℕ) (there : slice_get t.entrants j ≡ Some e) where
  -- is not worse than the entrant
  abbrev level : Entrant → Bool
  level other = not (is_better (key t e) (key t other))

  abbrev ahead : Entrant → Entrant → Bool
  ahead one other = is_better (key t other) (key t one)

  level_started : has_result e ≡ true → not_worse t e ≡ count_by level t.entrants
  level_started result =
      count_same (λ other. has_started other && level other) level
      (λ other. step other (has_started other) refl) t.entrants
    where
      step : (other : Entrant) (b : Bool) → has_started other ≡ b → (b && level other) ≡ level other
      step other true is = refl
      step other false is =
          sym (ap not (better_than_none t.format t.unit e.values other.values result
          (no_numbers other.values is)))

  -- a later place is that of a worse one
  behind_later : (o : Entrant) → place t e < place t o → is_better (key t e) (key t o) ≡ true
  behind_later o later = step (is_better (key t e) (key t o)) refl
    where
      not_false : (x : Entrant) → is_better (key t e) (key t o) ≡ false
          → is_better (key t x) (key t o) ≡ true → (c : Bool) → is_better (key t x) (key t e) ≡ c
          → c ≡ true
      not_false x is leads true same = refl
      not_false x is leads false same =
          absurd (false≢true (sym is ∙ ahead_of (key t x) (key t e) (key t o) same leads))

      step : (b : Bool) → is_better (key t e) (key t o) ≡ b → b ≡ true
      step true is = refl
      step false is =
          let le =
          count_le_in (ahead o) (ahead e) t.entrants
          (λ i x at leads. not_false x is leads (is_better (key t x) (key t e)) refl) in
          let none : place t o ≤ place t e = omega (arith, le) in
          absurd (omega (arith, none, later))

  -- a worse one has a later place
  later_behind : (o : Entrant) → is_better (key t e) (key t o) ≡ true → place t e < place t o
  later_behind o leads =
      let lt =
      count_lt_in (ahead e) (ahead o) t.entrants j e there (not_better (key t e)) leads
      (λ x first. better_better (key t x) (key t e) (key t o) first leads) in
      omega (arith, lt)

  -- those not worse are before a worse one
  level_before : (o : Entrant) → is_better (key t e) (key t o) ≡ true
      → count_by level t.entrants < place t o
  level_before o leads =
      let le =
      count_le_in level (ahead o) t.entrants
      (λ i x at not_behind. ahead_of (key t e) (key t x) (key t o) (flip_not _ not_behind) leads) in
      omega (arith, le)

  few_before : (m : ℕ) → place t e < place_at t (m + 1) → count_by level t.entrants ≤ m
  few_before m before = step (within_there (m + 1) (map (place t) t.entrants))
    where
      at_one : (i : ℕ) (p : ℕ) → p ≤ m + 1 → place t e < p → (o : Option Entrant)
          → option_map (place t) o ≡ Some p → count_by level t.entrants ≤ m
      at_one i p within less None is = cc
      at_one i p within less (Some o) is =
          let same : place t o ≡ p = cc in
          omega (arith, level_before o (behind_later o (omega (arith, same, less))), same, within)

      step : (place_at t (m + 1) ≡ 0) ⊎ IsThere (m + 1) (map (place t) t.entrants)
          → count_by level t.entrants ≤ m
      step (inl none) = absurd (omega (arith, none, before))
      step (inr w) =
          at_one w.index (place_at t (m + 1)) w.within before (slice_get t.entrants w.index)
          (sym (slice_get-map (place t) t.entrants w.index) ∙ w.there)

  before_few : (m : ℕ) → m < length t.entrants → count_by level t.entrants ≤ m
      → place t e < place_at t (m + 1)
  before_few m room few =
      step (best_of_those (key t) (λ o. is_better (key t e) (key t o)) t.entrants)
    where
      step : ((i : ℕ) (x : Entrant) → slice_get t.entrants i ≡ Some x
          → is_better (key t e) (key t x) ≡ false)
          ⊎ IsBest (key t) (λ o. is_better (key t e) (key t o)) t.entrants
          → place t e < place_at t (m + 1)
      step (inl none) =
          let all = count_all level t.entrants (λ i x at. flip_true _ (none i x at)) in
          absurd (omega (arith, all, few, room))
      step (inr b) =
          let le =
          count_le_in (ahead b.one) level t.entrants (λ i x at first.
          flip_true _ (is_false _ (λ behind. false≢true (sym (b.best i x at behind) ∙ first)))) in
          let low : place t b.one ≤ m + 1 = omega (arith, le, few) in
          let upper =
          within_upper (m + 1) (map (place t) t.entrants) b.index (place t b.one)
          (slice_get-map (place t) t.entrants b.index ∙ ap (option_map (place t)) b.there) low in
          omega (arith, later_behind b.one b.passes, upper)

same_tests : (a b : Bool) → (a ≡ true → b ≡ true) → (b ≡ true → a ≡ true) → a ≡ b
same_tests true b f g = sym (f refl)
same_tests false true f g = g refl
same_tests false false f g = refl

le_true : (a b : ℕ) → nat_le a b ≡ true → a ≤ b
le_true a b h = grind (arith, nat_tests)

true_le : (a b : ℕ) → a ≤ b → nat_le a b ≡ true
true_le a b h = grind (arith, nat_tests)

lt_true : (a b : ℕ) → nat_lt a b ≡ true → a < b
lt_true a b h = grind (arith, nat_tests)

true_lt : (a b : ℕ) → a < b → nat_lt a b ≡ true
true_lt a b h = grind (arith, nat_tests)

among_before : (t : Table) (m n : ℕ) (e : Entrant) → entrant t n ≡ Some e → m < length t.entrants
    → is_among t m e ≡ is_before t (place_at t (m + 1)) e
among_before t m n e found room = step (has_result e) refl
  where
    at : (i : ℕ) × (slice_get t.entrants i ≡ Some e)
    at = find_index (has_number n) t.entrants e found

    step : (b : Bool) → has_result e ≡ b
        → (b && nat_le (not_worse t e) m) ≡ (b && nat_lt (place t e) (place_at t (m + 1)))
    step false is = refl
    step true is =
        let level = level_started t e at.0 at.1 is in
        same_tests _ _ (λ few. let low : not_worse t e ≤ m = le_true (not_worse t e) m few in
        true_lt _ _ (before_few t e at.0 at.1 m room (omega (arith, level, low)))) (λ before.
        true_le _ _
        (let less = few_before t e at.0 at.1 m (lt_true _ _ before) in omega (arith, level, less)))

-- fewer than all advance
quota_below : (advance : Advance) (n all : ℕ) → n ≤ all → 0 < all → quota advance n < all
quota_below advance n all h some = omega (arith, h, some)

someone : {X : Type 0} (test : X → Bool) (xs : List X) (a : X) → find test xs ≡ Some a
    → 0 < length xs
someone test [] a h = cc
someone test (x ∷ xs) a h = omega arith

pub border_is : (t : Table) (advance : Advance)
    → IsBorder t advance (place_at t (quota advance (started t) + 1))
border_is t advance n = step (entrant t n) refl
  where
    step : (o : Option Entrant) → entrant t n ≡ o → holds_of (advances t advance) o
        ≡ holds_of (is_before t (place_at t (quota advance (started t) + 1))) o
    step None is = refl
    step (Some e) found =
        among_before t (quota advance (started t)) n e found
        (quota_below advance (started t) (length t.entrants)
        (count_by-le-length has_started t.entrants) (someone (has_number n) t.entrants e found))
