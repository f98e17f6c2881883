-- Who met the cutoff is better than who did not.
use Rattle.std.proofs.Common.{◌≡◌, ℕ, ◌<◌, ◌≤◌, ◌==◌, nat_lt, min, Bool, true, false, ◌||◌, ◌&&◌}
use Rattle.std.proofs.Common.{List, [], ◌∷◌, length, take, drop, fold, Option, None, Some, ◌⊎◌, inl}
use Rattle.std.proofs.Common.{inr, refl, sym, ap, ◌∙◌, arith, subst, take-append-drop, eqb-true}
use Rattle.std.specs.List.{list_any}
use Rattle.std.proofs.lemmas.{Bool.Decides.nat_tests, List.take_all, List.Folds.list_any-append}
use Rattle.std.proofs.lemmas.Bool.{false≢true, or_left, or_right, and_from}
use Rattle.attempts.specs.declared.{Value.Value, Unit.Unit as Measure}
use Rattle.formats.specs.declared.events.Format.{Format, TheVariants.Ao5, TheVariants.Mo3}
use Rattle.formats.specs.{declared.results.RankKey.RankKey, Events.attempts_of, Results.is_same}
use Rattle.formats.specs.Results.{is_better, number_of, is_dnf, numbers, least, number_or, is_less}
use Rattle.formats.specs.Results.{without_number, best_of, averaged_number, average_of, key_of}
use Rattle.rounds.specs.Tables.{is_below, meets}
use Rattle.attempts.specs.declared.Value.TheVariants as value

-- The least number

or-assoc : (a b c : Bool) → ((a || b) || c) ≡ (a || (b || c))
or-assoc true b c = refl
or-assoc false b c = refl

min_below : (x y c : ℕ) → nat_lt (min x y) c ≡ (nat_lt x c || nat_lt y c)
min_below x y c = grind (arith, nat_tests)

fold_below : (x c : ℕ) (ns : List ℕ)
    → nat_lt (fold min x ns) c ≡ (nat_lt x c || list_any (λ n. nat_lt n c) ns)
fold_below x c [] = or_false (nat_lt x c)
  where
    or_false : (b : Bool) → b ≡ (b || false)
    or_false true = refl
    or_false false = refl
fold_below x c (y ∷ ns) =
    fold_below (min x y) c ns
    ∙ ap (λ (b : Bool). b || list_any (λ n. nat_lt n c) ns) (min_below x y c)
    ∙ or-assoc (nat_lt x c) (nat_lt y c) (list_any (λ n. nat_lt n c) ns)

least_below : (c : ℕ) (ns : List ℕ) → is_less (least ns) (Some c) ≡ list_any (λ n. nat_lt n c) ns
least_below c [] = refl
least_below c (n ∷ ns) = fold_below n c ns

numbers_below : (c : ℕ) (vs : List Value)
    → list_any (λ n. nat_lt n c) (numbers vs) ≡ list_any (is_below c) vs
numbers_below c [] = refl
numbers_below c (value.Number n ∷ vs) = ap (λ (b : Bool). nat_lt n c || b) (numbers_below c vs)
numbers_below c (value.Dnf ∷ vs) = numbers_below c vs
numbers_below c (value.Dns ∷ vs) = numbers_below c vs

pub number_of_best : (vs : List Value) → number_of (best_of vs) ≡ least (numbers vs)
number_of_best vs = step (least (numbers vs)) (list_any is_dnf vs)
  where
    step : (o : Option ℕ) (dnf : Bool) → number_of (number_or o (without_number dnf)) ≡ o
    step (Some n) dnf = refl
    step None true = refl
    step None false = refl

-- the best is below a border where a value is
best_below : (c : ℕ) (vs : List Value)
    → is_less (number_of (best_of vs)) (Some c) ≡ list_any (is_below c) vs
best_below c vs =
    ap (λ (o : Option ℕ). is_less o (Some c)) (number_of_best vs) ∙ least_below c (numbers vs)
    ∙ numbers_below c vs

-- a number below the border is less than one that is not
split_less : (c : ℕ) (x y : Option ℕ) → is_less x (Some c) ≡ true → is_less y (Some c) ≡ false
    → is_less x y ≡ true
split_less c None y h k = absurd (false≢true h)
split_less c (Some m) None h k = refl
split_less c (Some m) (Some n) h k = grind (arith, nat_tests)

-- Met and not

-- one of the first values is one of all
met_below : (k c : ℕ) (vs : List Value) → list_any (is_below c) (take k vs) ≡ true
    → list_any (is_below c) vs ≡ true
met_below k c vs h =
    ap (list_any (is_below c)) (sym (take-append-drop k vs))
    ∙ list_any-append (is_below c) (take k vs) (drop k vs)
    ∙ or_left (list_any (is_below c) (take k vs)) (list_any (is_below c) (drop k vs)) h

-- the best of who met the cutoff is less than that of who did not
less_best : (k c : ℕ) (vs ws : List Value) → meets (k, c) vs ≡ true → meets (k, c) ws ≡ false
    → length ws ≤ k → is_less (number_of (best_of vs)) (number_of (best_of ws)) ≡ true
less_best k c vs ws met not few =
    split_less c (number_of (best_of vs)) (number_of (best_of ws))
    (best_below c vs ∙ met_below k c vs met)
    (best_below c ws ∙ ap (list_any (is_below c)) (sym (take_all k ws few)) ∙ not)

-- there is no average before all attempts are done
no_average : (format : Format) (unit : Measure) (ws : List Value)
    → length ws < attempts_of format → averaged_number (average_of format unit ws) ≡ None
no_average Ao5 unit ws few =
    let none : (length ws == 5) ≡ false = grind (arith, nat_tests) in
    rw none refl
no_average Mo3 unit ws few =
    let none : (length ws == 3) ≡ false = grind (arith, nat_tests) in
    rw none refl
no_average _ unit ws few = refl

by_tie : (m n x y : Option ℕ) → n ≡ None → is_less x y ≡ true
    → (is_less m n || (is_same m n && is_less x y)) ≡ true
by_tie m n x y none h = rw none (step m)
  where
    step : (o : Option ℕ) → (is_less o None || (is_same o None && is_less x y)) ≡ true
    step None = h
    step (Some a) = refl

-- by the keys
pub better_key : (format : Format) (unit : Measure) (k c : ℕ) (vs ws : List Value)
    → k < attempts_of format → meets (k, c) vs ≡ true → meets (k, c) ws ≡ false → length ws ≤ k
    → is_better (key_of format unit vs) (key_of format unit ws) ≡ true
better_key Ao5 unit k c vs ws within met not few =
    by_tie (averaged_number (average_of Ao5 unit vs)) _ (number_of (best_of vs)) _
    (no_average Ao5 unit ws (omega arith)) (less_best k c vs ws met not few)
better_key Mo3 unit k c vs ws within met not few =
    by_tie (averaged_number (average_of Mo3 unit vs)) _ (number_of (best_of vs)) _
    (no_average Mo3 unit ws (omega arith)) (less_best k c vs ws met not few)
better_key _ unit k c vs ws within met not few = or_left _ _ (less_best k c vs ws met not few)

-- The order of keys

pub less_less : (x y z : Option ℕ) → is_less x y ≡ true → is_less y z ≡ true → is_less x z ≡ true
less_less None y z h k = absurd (false≢true h)
less_less (Some a) None z h k = absurd (false≢true k)
less_less (Some a) (Some b) None h k = refl
less_less (Some a) (Some b) (Some c) h k = grind (arith, nat_tests)

pub same_is : (x y : Option ℕ) → is_same x y ≡ true → x ≡ y
same_is None None h = refl
same_is None (Some b) h = absurd (false≢true h)
same_is (Some a) None h = absurd (false≢true h)
same_is (Some a) (Some b) h = ap Some (eqb-true a b h)

pub either : (p q r : Bool) → (p || (q && r)) ≡ true → (p ≡ true) ⊎ ((q ≡ true) × (r ≡ true))
either true q r h = inl refl
either false true true h = inr (refl, refl)
either false true false h = absurd (false≢true h)
either false false r h = absurd (false≢true h)

pub by_second : (p q r : Bool) → q ≡ true → r ≡ true → (p || (q && r)) ≡ true
by_second p q r h k = or_right p (q && r) (and_from q r h k)

pub better_better : (x y z : RankKey) → is_better x y ≡ true → is_better y z ≡ true
    → is_better x z ≡ true
better_better x y z h k =
    step (either (is_less x.main y.main) (is_same x.main y.main) (is_less x.tie y.tie) h)
    (either (is_less y.main z.main) (is_same y.main z.main) (is_less y.tie z.tie) k)
  where
    first : is_less x.main z.main ≡ true → is_better x z ≡ true
    first = or_left (is_less x.main z.main) (is_same x.main z.main && is_less x.tie z.tie)

    step : (is_less x.main y.main ≡ true)
        ⊎ ((is_same x.main y.main ≡ true) × (is_less x.tie y.tie ≡ true))
        → (is_less y.main z.main ≡ true)
        ⊎ ((is_same y.main z.main ≡ true) × (is_less y.tie z.tie ≡ true)) → is_better x z ≡ true
    step (inl a) (inl b) = first (less_less x.main y.main z.main a b)
    step (inl a) (inr b) =
        first (subst (λ m. is_less x.main m ≡ true) (same_is y.main z.main b.0) a)
    step (inr a) (inl b) =
        first (subst (λ m. is_less m z.main ≡ true) (sym (same_is x.main y.main a.0)) b)
    step (inr a) (inr b) =
        by_second (is_less x.main z.main) (is_same x.main z.main) (is_less x.tie z.tie)
        (subst (λ m. is_same x.main m ≡ true) (same_is y.main z.main b.0) a.0)
        (less_less x.tie y.tie z.tie a.1 b.1)

not_less : (m : Option ℕ) → is_less m m ≡ false
not_less None = refl
not_less (Some n) = grind (arith, nat_tests)

pub not_better : (k : RankKey) → is_better k k ≡ false
not_better k =
    rw (not_less k.main, not_less k.tie)
    (elim (is_same k.main k.main) as (λ b. (b && false) ≡ false) [ true ↦ refl | false ↦ refl ])
