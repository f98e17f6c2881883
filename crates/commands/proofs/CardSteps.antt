-- A card, one attempt after the other.
use Rattle.std.proofs.Common.{◌≡◌, ◌==◌, ◌||◌, ◌&&◌, Bool, true, cond, List, drop, Some, None, ◌++◌}
use Rattle.std.proofs.Common.{ℕ, suc, ◌+◌, ◌-◌, ◌*◌, ◌/◌, ◌<◌, ◌≤◌, ◌∷◌, All, refl, sym, ◌∙◌}
use Rattle.std.proofs.Common.{zero, false, nat_le, length, get_or, Option, IfSome, ap, subst, arith}
use Rattle.std.proofs.Common.{[], slice_get, unwrap_or, option_map, add-one, append_assoc, eqb-true}
use Rattle.std.proofs.Math.Dec.{eqb-suc-suc, eqb-suc-zero}
use Rattle.std.proofs.Math.{ListN.drop_of_length-le, Seq.drop-cons, Nat.div-mul-le_self}
use Rattle.std.specs.{Prelude.nat_lt, List.list_any, List.AllByRecursion, Option.option_and_then}
use Rattle.std.proofs.lemmas.Bool.{false≢true}
use Rattle.std.proofs.lemmas.{Bool.Decides.nat_tests, List.Sums.count_by-le-length}
use Rattle.std.proofs.lemmas.List.Elements.{All-from_recursion, recursion_from_All}
use Rattle.cube.specs.declared.moves.Move.{Move}
use Rattle.cube.specs.notation.Notation.{is_turn, turn_count}
use Rattle.attempts.specs.declared.{Unit.Unit as Measure, Value.Value}
use Rattle.attempts.specs.Attempts.{rounded, reaches, solution_value, multi_number}
use Rattle.attempts.specs.Attempts.{is_multi_finished, IsInRangeOf}
use Rattle.fmc_check.specs.Fewest.{is_solution as solves, result_of}
use Rattle.formats.specs.{declared.events.Event.Event, Events.unit_of}
use Rattle.texts.specs.declared.command.{CardEntry.CardEntry, Entered.Entered, Settings.Settings}
use Rattle.texts.specs.Spelling.{IsEntered}
use Rattle.commands.specs.Accepted.{settled, is_solution, is_wrong, is_value, are_values}
use Rattle.commands.specs.Accepted.{has_outcome, unfit_card_refusal, values_now, counts_in}
use Rattle.commands.specs.{Accepted.card_values, Accepted.solving_at, model.Solved.is_set_in}
use Rattle.commands.specs.model.Cards.{IsReadCard, enters, lacks_in, value_at}
use Rattle.attempts.specs.declared.Fm.TheVariants as fm
use Rattle.attempts.specs.declared.Unit.TheVariants as measure
use Rattle.attempts.specs.declared.Value.TheVariants as value
use Rattle.texts.specs.declared.answer.Code.TheVariants as code
use Rattle.texts.specs.declared.command.Entered.TheVariants as entered

-- Whether one of them is entered

-- whatever the attempts are
pub any_of : (is : Entered → Bool) (k : ℕ) (xs : List (Option Entered))
    → list_any (enters is) xs ≡ has_outcome (λ j x. is x) k xs
any_of is k [] = refl
any_of is k (None ∷ xs) = any_of is (suc k) xs
any_of is k (Some x ∷ xs) = ap (λ (b : Bool). is x || b) (any_of is (suc k) xs)

-- for the attempt at an index, or for one after it
pub outcome_next : (is : ℕ → Entered → Bool) (k i : ℕ) (xs : List (Option Entered))
    (d : Option Entered) → i < length xs → has_outcome is k (drop i xs)
    ≡ (enters (is k) (get_or xs i d) || has_outcome is (suc k) (drop (suc i) xs))
outcome_next is k i xs d within =
    ap (has_outcome is k) (drop-cons xs i d within) ∙ step (get_or xs i d)
  where
    step : (o : Option Entered) → has_outcome is k (o ∷ drop (suc i) xs)
        ≡ (enters (is k) o || has_outcome is (suc k) (drop (suc i) xs))
    step None = refl
    step (Some x) = refl

-- not for this one, as at a step of a loop
pub outcome_passed : (is : ℕ → Entered → Bool) (i : ℕ) (xs : List (Option Entered))
    → i < length xs → enters (is (i + 1)) (get_or xs i None) ≡ false
    → has_outcome is (suc i) (drop i xs) ≡ has_outcome is (suc (i + 1)) (drop (i + 1) xs)
outcome_passed is i xs within fails =
    outcome_next is (suc i) i xs None within
    ∙ ap (λ (n : ℕ). enters (is n) (get_or xs i None) || has_outcome is (suc n) (drop n xs))
    (sym (add-one i))
    ∙ ap (λ (b : Bool). b || has_outcome is (suc (i + 1)) (drop (i + 1) xs)) fails

-- for this one
pub outcome_found : (is : ℕ → Entered → Bool) (i : ℕ) (xs : List (Option Entered))
    → i < length xs → enters (is (i + 1)) (get_or xs i None) ≡ true
    → has_outcome is (suc i) (drop i xs) ≡ true
outcome_found is i xs within holds =
    outcome_next is (suc i) i xs None within
    ∙ ap (λ (n : ℕ). enters (is n) (get_or xs i None) || has_outcome is (suc n) (drop n xs))
    (sym (add-one i))
    ∙ ap (λ (b : Bool). b || has_outcome is (suc (i + 1)) (drop (i + 1) xs)) holds

-- for none after the last one
pub outcome_past : (is : ℕ → Entered → Bool) (k i : ℕ) (xs : List (Option Entered))
    → length xs ≤ i → has_outcome is k (drop i xs) ≡ false
outcome_past is k i xs past = ap (has_outcome is k) (drop_of_length-le xs past)

-- by what an event accepts
pub unfit_is : (e : Event) (scrambles : ℕ → Option (List Move)) (now : List (Option Entered))
    (wrong lacks : Bool) → wrong ≡ list_any (enters (is_wrong (unit_of e))) now
    → lacks ≡ has_outcome (lacks_in scrambles) 1 now
    → cond wrong (Some code.WrongOutcome) (cond lacks (Some code.NoScramble) None)
    ≡ unfit_card_refusal e scrambles now
unfit_is e scrambles now wrong lacks is_wrong_one lacks_one =
    ap (λ (b : Bool). cond b (Some code.WrongOutcome) (cond lacks (Some code.NoScramble) None))
    (is_wrong_one ∙ any_of (is_wrong (unit_of e)) 1 now)
    ∙ ap (λ (b : Bool).
    cond (has_outcome (λ k x. is_wrong (unit_of e) x) 1 now) (Some code.WrongOutcome)
    (cond b (Some code.NoScramble) None)) lacks_one

-- The values

drop_none : {X : Type 0} (i : ℕ) → drop i [] ≡ (let none : List X = [] in none)
drop_none zero = refl
drop_none (suc i) = refl

-- nothing is read at an index
pub nothing_at : (xs ys : List (Option Entered)) (i : ℕ) (o : Option Entered) → ys ≡ xs
    → o ≡ get_or ys i o → o ≡ None → get_or xs i None ≡ None
nothing_at xs ys i o same is none =
    ap (λ (zs : List (Option Entered)). get_or zs i None) (sym same)
    ∙ sym (subst (λ (p : Option Entered). p ≡ get_or ys i p) none is)

-- what is read within a list is the same, whatever is read past its end
pub any_default : {X : Type 0} (xs : List X) (i : ℕ) (d e : X) → i < length xs
    → get_or xs i d ≡ get_or xs i e
any_default [] i d e within = absurd (omega arith)
any_default (x ∷ xs) zero d e within = refl
any_default (x ∷ xs) (suc i) d e within = any_default xs i d e (omega arith)

pub read_twice : {X : Type 0} (xs : List X) (i : ℕ) (a b : X) → i < length xs → a ≡ get_or xs i a
    → b ≡ get_or xs i b → a ≡ b
read_twice xs i a b within one other = one ∙ any_default xs i a b within ∙ sym other

-- what is kept is there
abbrev Stand : List (Option Entered) → List Value → Type 0
Stand xs vs = (i : ℕ) → i < length xs → get_or xs i None ≡ None → i < length vs

stand_later : (x : Option Entered) (xs : List (Option Entered)) (v : Value) (vs : List Value)
    → Stand (x ∷ xs) (v ∷ vs) → Stand xs vs
stand_later x xs v vs keeps i low is =
    let up : suc i < suc (length vs) = keeps (suc i) (omega arith) is in omega arith

stand_none : (x : Option Entered) (xs : List (Option Entered)) → Stand (x ∷ xs) [] → Stand xs []
stand_none x xs keeps i low is =
    let up : suc i < 0 = keeps (suc i) (omega arith) is in absurd (omega arith)

-- the value of the attempt at an index, and those after it
pub values_next : (counts : ℕ → Entered → Value) (k i : ℕ) (xs : List (Option Entered))
    (vs : List Value) (e : Value) → Stand xs vs → i < length xs
    → values_now counts k (drop i xs) (drop i vs)
    ≡ value_at (counts k) (get_or xs i None) (get_or vs i e)
    ∷ values_now counts (suc k) (drop (suc i) xs) (drop (suc i) vs)
values_next counts k i [] vs e keeps within = absurd (omega arith)
values_next counts k zero (None ∷ xs) [] e keeps within =
    let low : 0 < 0 = keeps 0 within refl in absurd (omega arith)
values_next counts k zero (None ∷ xs) (v ∷ vs) e keeps within = refl
values_next counts k zero (Some x ∷ xs) [] e keeps within = refl
values_next counts k zero (Some x ∷ xs) (v ∷ vs) e keeps within = refl
values_next counts k (suc i) (x ∷ xs) [] e keeps within =
    ap (values_now counts k (drop i xs)) (sym (drop_none i))
    ∙ values_next counts k i xs [] e (stand_none x xs keeps) (omega arith)
    ∙ ap (λ (vs : List Value).
    value_at (counts k) (get_or xs i None) e ∷ values_now counts (suc k) (drop (suc i) xs) vs)
    (drop_none (suc i))
values_next counts k (suc i) (x ∷ xs) (v ∷ vs) e keeps within =
    values_next counts k i xs vs e (stand_later x xs v vs keeps) (omega arith)

-- one more value, as at a step of a loop
pub values_more : (counts : ℕ → Entered → Value) (i : ℕ) (xs : List (Option Entered))
    (vs : List Value) (e : Value) (done : List Value) (v : Value) → Stand xs vs → i < length xs
    → v ≡ value_at (counts (i + 1)) (get_or xs i None) (get_or vs i e)
    → done ++ values_now counts (suc i) (drop i xs) (drop i vs)
    ≡ (done ++ v ∷ []) ++ values_now counts (suc (i + 1)) (drop (i + 1) xs) (drop (i + 1) vs)
values_more counts i xs vs e done v keeps within is =
    ap (λ (ws : List Value). done ++ ws) (values_next counts (suc i) i xs vs e keeps within
    ∙ ap (λ (n : ℕ).
    value_at (counts n) (get_or xs i None) (get_or vs i e)
    ∷ values_now counts (suc n) (drop n xs) (drop n vs)) (sym (add-one i))
    ∙ ap (λ (w : Value).
    w ∷ values_now counts (suc (i + 1)) (drop (i + 1) xs) (drop (i + 1) vs)) (sym is))
    ∙ sym (append_assoc done (v ∷ [])
    (values_now counts (suc (i + 1)) (drop (i + 1) xs) (drop (i + 1) vs)))

-- and none at the end
pub values_past : (counts : ℕ → Entered → Value) (k i : ℕ) (xs : List (Option Entered))
    (vs : List Value) → length xs ≤ i → values_now counts k (drop i xs) vs ≡ []
values_past counts k i xs vs past =
    ap (λ (ys : List (Option Entered)). values_now counts k ys vs) (drop_of_length-le xs past)

-- the values by what each outcome counts alike
pub values_alike : (f g : ℕ → Entered → Value) → ((k : ℕ) (x : Entered) → f k x ≡ g k x) → (k : ℕ)
    (xs : List (Option Entered)) (vs : List Value) → values_now f k xs vs ≡ values_now g k xs vs
values_alike f g each k [] vs = refl
values_alike f g each k (Some x ∷ xs) [] =
    rw (each k x, values_alike f g each (suc k) xs []) refl
values_alike f g each k (Some x ∷ xs) (v ∷ vs) =
    rw (each k x, values_alike f g each (suc k) xs vs) refl
values_alike f g each k (None ∷ xs) [] = values_alike f g each (suc k) xs []
values_alike f g each k (None ∷ xs) (v ∷ vs) =
    ap (λ (ws : List Value). v ∷ ws) (values_alike f g each (suc k) xs vs)

-- what holds of each value that is entered, and of each that counts, holds of each
pub values_hold : (P : Value → Type 0) (Q : Entered → Type 0) (counts : ℕ → Entered → Value)
    → ((k : ℕ) (x : Entered) → Q x → P (counts k x)) → (k : ℕ) (xs : List (Option Entered))
    (vs : List Value) → AllByRecursion (λ o. IfSome o Q) xs → AllByRecursion P vs
    → AllByRecursion P (values_now counts k xs vs)
values_hold P Q counts each k [] vs all these = tt
values_hold P Q counts each k (Some x ∷ xs) [] all these =
    (each k x all.0, values_hold P Q counts each (suc k) xs [] all.1 tt)
values_hold P Q counts each k (Some x ∷ xs) (v ∷ vs) all these =
    (each k x all.0, values_hold P Q counts each (suc k) xs vs all.1 these.1)
values_hold P Q counts each k (None ∷ xs) [] all these =
    values_hold P Q counts each (suc k) xs [] all.1 tt
values_hold P Q counts each k (None ∷ xs) (v ∷ vs) all these =
    (these.0, values_hold P Q counts each (suc k) xs vs all.1 these.1)

-- Which attempts have a solution

later : (k j : ℕ) (xs : List (Option Entered)) → solving_at (suc k) (suc j) xs ≡ solving_at k j xs
later k j [] = refl
later k j (x ∷ xs) =
    ap (λ (b : Bool). cond b (option_map is_solution x) (solving_at (suc k) (suc (suc j)) xs))
    (eqb-suc-suc k j)
    ∙ ap (cond (k == j) (option_map is_solution x)) (later k (suc j) xs)

-- by the attempt's index
pub solving_is : (k : ℕ) (xs : List (Option Entered))
    → solving_at k 0 xs ≡ option_and_then (option_map is_solution) (slice_get xs k)
solving_is zero [] = refl
solving_is zero (x ∷ xs) = refl
solving_is (suc k) [] = refl
solving_is (suc k) (x ∷ xs) =
    ap (λ (b : Bool). cond b (option_map is_solution x) (solving_at (suc k) 1 xs)) (eqb-suc-zero k)
    ∙ later k 0 xs ∙ solving_is k xs

get_past : (xs : List (Option Entered)) (k : ℕ) → length xs ≤ k → slice_get xs k ≡ None
get_past [] k past = refl
get_past (x ∷ xs) zero past = absurd (omega arith)
get_past (x ∷ xs) (suc k) past = get_past xs k (omega arith)

-- flags that are set for the attempts below an index at the end, and for no other
pub all_noted : (xs : List (Option Entered)) (old new : List Bool) (i : ℕ) → length xs ≤ i
    → ((k : ℕ) → k < i → get_or new k false
    ≡ unwrap_or (option_and_then (option_map is_solution) (slice_get xs k)) (get_or old k false))
    → ((k : ℕ) → i ≤ k → get_or new k false ≡ get_or old k false) → (k : ℕ)
    → get_or new k false ≡ unwrap_or (solving_at k 0 xs) (get_or old k false)
all_noted xs old new i past noted others k =
    step (nat_lt k i) refl
    ∙ ap (λ (o : Option Bool). unwrap_or o (get_or old k false)) (sym (solving_is k xs))
  where
    step : (b : Bool) → nat_lt k i ≡ b → get_or new k false
        ≡ unwrap_or (option_and_then (option_map is_solution) (slice_get xs k)) (get_or old k false)
    step true is = let low : k < i = grind (arith, nat_tests) in noted k low
    step false is =
        let high : i ≤ k = grind (arith, nat_tests) in
        let beyond : length xs ≤ k = omega (arith, past, high) in
        others k high
        ∙ ap (λ (o : Option (Option Entered)).
        unwrap_or (option_and_then (option_map is_solution) o) (get_or old k false))
        (sym (get_past xs k beyond))

-- none has, where no solution is entered
pub none_solved : (k j : ℕ) (xs : List (Option Entered)) → list_any (enters is_solution) xs ≡ false
    → unwrap_or (solving_at k j xs) false ≡ false
none_solved k j [] h = refl
none_solved k j (None ∷ xs) h = step (k == j) (none_solved k (suc j) xs h)
  where
    step : (b : Bool) → unwrap_or (solving_at k (suc j) xs) false ≡ false
        → unwrap_or (cond b None (solving_at k (suc j) xs)) false ≡ false
    step true is = refl
    step false is = is
none_solved k j (Some x ∷ xs) h = step (k == j) (is_solution x) refl h (none_solved k (suc j) xs)
  where
    step : (b s : Bool) → is_solution x ≡ s → (s || list_any (enters is_solution) xs) ≡ false
        → (list_any (enters is_solution) xs ≡ false
        → unwrap_or (solving_at k (suc j) xs) false ≡ false)
        → unwrap_or (cond b (Some (is_solution x)) (solving_at k (suc j) xs)) false ≡ false
    step b true is none rest = absurd (false≢true (sym none))
    step true false is none rest = is
    step false false is none rest = rest none

solving_from_0 : (k : ℕ) (xs : List (Option Entered)) → 1 ≤ k
    → solving_at k 1 xs ≡ solving_at (k - 1) 0 xs
solving_from_0 k xs low =
    let next : k ≡ suc (k - 1) = omega arith in
    ap (λ (n : ℕ). solving_at n 1 xs) next ∙ later (k - 1) 0 xs

-- what is noted of attempt k of a number, once a card's notes are in the row of one
pub noted_after : (xs : List (Option Entered)) (number n k : ℕ) (old new : Option (List Bool))
    (row written : List Bool)
    → 1 ≤ k → new ≡ cond (number == n) (Some written) old → (number ≡ n → old ≡ Some row)
    → ((j : ℕ) → get_or written j false ≡ unwrap_or (solving_at j 0 xs) (get_or row j false))
    → is_set_in k new
    ≡ cond (n == number) (unwrap_or (solving_at k 1 xs) (is_set_in k old)) (is_set_in k old)
noted_after xs number n k old new row written low is has each =
    ap (is_set_in k) is ∙ step (number == n) (n == number) refl refl
  where
    step : (a b : Bool) → (number == n) ≡ a → (n == number) ≡ b
        → is_set_in k (cond a (Some written) old)
        ≡ cond b (unwrap_or (solving_at k 1 xs) (is_set_in k old)) (is_set_in k old)
    step true true same other =
        each (k - 1)
        ∙ ap (λ (o : Option Bool). unwrap_or o (get_or row (k - 1) false))
        (sym (solving_from_0 k xs low))
        ∙ ap (λ (o : Option (List Bool)). unwrap_or (solving_at k 1 xs) (is_set_in k o))
        (sym (has (eqb-true number n same)))
    step false false same other = refl
    step true false same other = absurd (grind (arith, nat_tests))
    step false true same other = absurd (grind (arith, nat_tests))

-- the same where the number has no row, and no solution is entered
pub noted_still : (xs : List (Option Entered)) (number n k : ℕ) (old new : Option (List Bool))
    → new ≡ old → (number ≡ n → old ≡ None) → (list_any (enters is_solution) xs ≡ true → ⊥)
    → is_set_in k new
    ≡ cond (n == number) (unwrap_or (solving_at k 1 xs) (is_set_in k old)) (is_set_in k old)
noted_still xs number n k old new is none few =
    ap (is_set_in k) is ∙ step (n == number) refl (list_any (enters is_solution) xs) refl
  where
    step : (b : Bool) → (n == number) ≡ b → (s : Bool) → list_any (enters is_solution) xs ≡ s
        → is_set_in k old
        ≡ cond b (unwrap_or (solving_at k 1 xs) (is_set_in k old)) (is_set_in k old)
    step false other s enters_one = refl
    step true same true enters_one = absurd (few enters_one)
    step true same false enters_one =
        ap (is_set_in k) (none (sym (eqb-true n number same)))
        ∙ sym (none_solved k 1 xs enters_one)
        ∙ ap (λ (o : Option (List Bool)). unwrap_or (solving_at k 1 xs) (is_set_in k o))
        (sym (none (sym (eqb-true n number same))))

-- What counts

same_value : (v w : Value) → is_value v w ≡ true → v ≡ w
same_value (value.Number n) (value.Number m) h = ap value.Number (eqb-true n m h)
same_value value.Dnf value.Dnf h = refl
same_value value.Dns value.Dns h = refl
same_value _ _ h = absurd (false≢true h)

pub same_values : (vs ws : List Value) → are_values vs ws ≡ true → vs ≡ ws
same_values [] [] h = refl
same_values [] (w ∷ ws) h = absurd (false≢true h)
same_values (v ∷ vs) [] h = absurd (false≢true h)
same_values (v ∷ vs) (w ∷ ws) h = step (is_value v w) refl h (same_values vs ws)
  where
    step : (b : Bool) → is_value v w ≡ b → (b && are_values vs ws) ≡ true
        → (are_values vs ws ≡ true → vs ≡ ws) → v ∷ vs ≡ w ∷ ws
    step true is rest later = rw (same_value v w is, later rest) refl
    step false is rest later = absurd (false≢true rest)

-- Ranges

rounded_low : (n : ℕ) → n ≤ 1001799 → rounded n ≤ 2000000
rounded_low n small = step (nat_le n 60000)
  where
    step : (b : Bool) → cond b n ((n + 50) / 100 * 100) ≤ 2000000
    step true = omega arith
    step false = let less = div-mul-le_self (n + 50) 100 in omega (arith, less, small)

low_in_range : (unit : Measure) (n : ℕ) → n ≤ 2000000 → IsInRangeOf unit (value.Number n)
low_in_range measure.Time n low = low
low_in_range measure.Moves n low = low
low_in_range measure.Multi n low = omega (arith, low)

-- what is entered as its unit asks settles to a value in the unit's range
pub settled_in_range : (unit : Measure) (settings : Settings) (scramble : Option (List Move))
    (x : Entered)
    → IsEntered x → is_wrong unit x ≡ false → IsInRangeOf unit (settled settings scramble x)
unfolding result_of
settled_in_range unit settings scramble (entered.Time time penalties) is right =
    step (reaches settings.limit time)
  where
    step : (b : Bool)
        → IsInRangeOf unit (cond b value.Dnf (value.Number (rounded (time + 200 * penalties))))
    step true = tt
    step false =
        low_in_range unit (rounded (time + 200 * penalties))
        (rounded_low (time + 200 * penalties) (omega (arith, is.0.1, is.1.1)))
settled_in_range unit settings None (entered.Solution solution) is right = tt
settled_in_range unit settings (Some scramble) (entered.Solution solution) is right =
    step (solves scramble solution)
  where
    step : (b : Bool)
        → IsInRangeOf unit (solution_value (cond b (fm.Moves (turn_count solution)) fm.Dnf))
    step true =
        let less = count_by-le-length (λ (move : Move). is_turn move.kind) solution in
        low_in_range unit (turn_count solution) (omega (arith, less, is.1))
    step false = tt
settled_in_range measure.Time settings scramble (entered.Multi solved attempted seconds) is right =
    absurd (false≢true (sym right))
settled_in_range measure.Moves settings scramble (entered.Multi solved attempted seconds) is right =
    absurd (false≢true (sym right))
settled_in_range measure.Multi settings scramble (entered.Multi solved attempted seconds) is right =
    step (is_multi_finished solved attempted) refl
  where
    step : (b : Bool) → is_multi_finished solved attempted ≡ b → IsInRangeOf measure.Multi
        (cond b (value.Number (multi_number solved attempted seconds)) value.Dnf)
    step true finished =
        let few : attempted - solved ≤ solved = grind (arith, nat_tests) in
        omega (arith, few, is.0.1, is.1.1, is.2.1)
    step false finished = tt
settled_in_range unit settings scramble entered.Dnf is right = tt
settled_in_range unit settings scramble entered.Dns is right = tt

-- what is entered as a unit asks
abbrev IsRight : Measure → Entered → Type 0
IsRight unit x = IsEntered x × (is_wrong unit x ≡ false)

all_right : (unit : Measure) (k : ℕ) (xs : List (Option Entered))
    → AllByRecursion (λ o. IfSome o IsEntered) xs
    → has_outcome (λ j x. is_wrong unit x) k xs ≡ false
    → AllByRecursion (λ o. IfSome o (IsRight unit)) xs
all_right unit k [] all h = tt
all_right unit k (None ∷ xs) all h = (tt, all_right unit (suc k) xs all.1 h)
all_right unit k (Some x ∷ xs) all h =
    step (is_wrong unit x) refl h (all_right unit (suc k) xs all.1)
  where
    rest : Bool
    rest = has_outcome (λ j y. is_wrong unit y) (suc k) xs

    step : (b : Bool) → is_wrong unit x ≡ b → (b || rest) ≡ false
        → (rest ≡ false → AllByRecursion (λ o. IfSome o (IsRight unit)) xs)
        → IsRight unit x × AllByRecursion (λ o. IfSome o (IsRight unit)) xs
    step false is none later = ((all.0, is), later none)
    step true is none later = absurd (false≢true (sym none))

-- the values of a card over values in the range of its unit are in it
pub card_in_range : (unit : Measure) (scrambles : ℕ → Option (List Move)) (card : CardEntry)
    (settings : Settings)
    → IsReadCard card → has_outcome (λ k x. is_wrong unit x) 1 card.now ≡ false
    → All (IsInRangeOf unit) card.was → All (IsInRangeOf unit) (card_values scrambles card settings)
card_in_range unit scrambles card settings read right stand =
    All-from_recursion (IsInRangeOf unit) (card_values scrambles card settings)
    (values_hold (IsInRangeOf unit) (IsRight unit) (counts_in settings scrambles)
    (λ k x fits. settled_in_range unit settings (scrambles k) x fits.0 fits.1) 1 card.now card.was
    (all_right unit 1 card.now (recursion_from_All (λ o. IfSome o IsEntered) card.now read.entered)
    right) (recursion_from_All (IsInRangeOf unit) card.was stand))
