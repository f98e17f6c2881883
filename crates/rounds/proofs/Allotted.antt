-- Nobody has done more attempts than allotted.
use Rattle.std.proofs.Common.{◌≡◌, ℕ, ◌-◌, ◌<◌, ◌≤◌, nat_lt, Bool, true, false, cond, not, ◌||◌}
use Rattle.std.proofs.Common.{◌&&◌, List, [], ◌∷◌, ◌++◌, length, take, get_or, Option, None, Some}
use Rattle.std.proofs.Common.{IfSome, zero, suc, refl, sym, ap, ◌∙◌, arith, subst, length-take-le}
use Rattle.std.proofs.{Common.length-append, Common.find, lemmas.Bool.Decides.nat_tests}
use Rattle.std.{proofs.Common.slice_get, specs.List.list_any, specs.List.position_or_len}
use Rattle.std.proofs.lemmas.Bool.{false≢true}
use Rattle.std.proofs.lemmas.List.{length-set, take-take, Folds.find_at}
use Rattle.attempts.specs.declared.Value.{Value}
use Rattle.formats.specs.{declared.events.Format.Format, Events.attempts_of, Results.is_better}
use Rattle.rounds.specs.Tables.{Table, IsCutoff, is_below, meets, allotted, KeepsAllotted, replaced}
use Rattle.rounds.specs.Tables.{loses_cutoff, without_last, has_number, key, Entrant}
use Rattle.rounds.specs.CutoffLaw.{OnlyMetGoOn, MetIsBetterIn, MetIsBetter}
use Rattle.rounds.proofs.CutoffOrder.{better_better, better_key, not_better}
use Rattle.rounds.proofs.KeyOrder.{count_lt_in, at_index}

-- what is allotted, by whether the cutoff is met
abbrev by_met : Format → ℕ → Bool → ℕ
by_met format k met = cond met (attempts_of format) k

allotted_least : (format : Format) (k : ℕ) (met : Bool) → k < attempts_of format
    → k ≤ by_met format k met
allotted_least format k true h = omega arith
allotted_least format k false h = omega arith

allotted_most : (format : Format) (k : ℕ) (met : Bool) → k < attempts_of format
    → by_met format k met ≤ attempts_of format
allotted_most format k true h = omega arith
allotted_most format k false h = omega arith

-- a test that one of the first passes stays passed with more after them
any_more : (p : Value → Bool) (k : ℕ) (xs ys : List Value) → list_any p (take k xs) ≡ true
    → list_any p (take k (xs ++ ys)) ≡ true
any_more p zero xs ys h = absurd (false≢true h)
any_more p (suc k) [] ys h = absurd (false≢true h)
any_more p (suc k) (x ∷ xs) ys h = step (p x) h (any_more p k xs ys)
  where
    step : (b : Bool) → (b || list_any p (take k xs)) ≡ true
        → (list_any p (take k xs) ≡ true → list_any p (take k (xs ++ ys)) ≡ true)
        → (b || list_any p (take k (xs ++ ys))) ≡ true
    step true h later = refl
    step false h later = later h

-- one more attempt
pub one_more : (format : Format) (cutoff : Option (ℕ × ℕ)) (vs : List Value) (v : Value)
    → IsCutoff format cutoff → length vs < allotted format cutoff vs
    → length (vs ++ v ∷ []) ≤ allotted format cutoff (vs ++ v ∷ [])
one_more format None vs v is left =
    let long = length-append vs (v ∷ []) in omega (arith, long, left)
one_more format (Some cutoff) vs v is left = step (meets cutoff vs) refl
  where
    step : (b : Bool) → meets cutoff vs ≡ b
        → length (vs ++ v ∷ []) ≤ allotted format (Some cutoff) (vs ++ v ∷ [])
    step true met =
        let long = length-append vs (v ∷ []) in
        let before : length vs < by_met format cutoff.0 true =
        subst (λ b. length vs < by_met format cutoff.0 b) met left in
        subst (λ b. length (vs ++ v ∷ []) ≤ by_met format cutoff.0 b)
        (sym (any_more (is_below cutoff.1) cutoff.0 vs (v ∷ []) met)) (omega (arith, long, before))
    step false met =
        let long = length-append vs (v ∷ []) in
        let before : length vs < by_met format cutoff.0 false =
        subst (λ b. length vs < by_met format cutoff.0 b) met left in
        let least = allotted_least format cutoff.0 (meets cutoff (vs ++ v ∷ [])) is.1 in
        omega (arith, long, before, least)

-- another value for an attempt
pub another : (format : Format) (cutoff : Option (ℕ × ℕ)) (vs : List Value) (k : ℕ) (v : Value)
    → IsCutoff format cutoff → length vs ≤ allotted format cutoff vs
    → loses_cutoff cutoff (replaced k v vs) ≡ false
    → length (replaced k v vs) ≤ allotted format cutoff (replaced k v vs)
another format None vs k v is within keeps =
    let same = length-set vs (k - 1) v in omega (arith, same, within)
another format (Some cutoff) vs k v is within keeps =
    step (meets cutoff (replaced k v vs)) (nat_lt cutoff.0 (length (replaced k v vs))) refl refl
    keeps
  where
    step : (b more : Bool) → meets cutoff (replaced k v vs) ≡ b
        → nat_lt cutoff.0 (length (replaced k v vs)) ≡ more
        → (nat_lt cutoff.0 (length (replaced k v vs)) && not (meets cutoff (replaced k v vs)))
        ≡ false → length (replaced k v vs) ≤ allotted format (Some cutoff) (replaced k v vs)
    step true more met is_more keeps =
        let same = length-set vs (k - 1) v in
        let most = allotted_most format cutoff.0 (meets cutoff vs) is.1 in
        subst (λ b. length (replaced k v vs) ≤ by_met format cutoff.0 b) (sym met)
        (omega (arith, same, within, most))
    step false true met is_more keeps =
        absurd (false≢true
        (sym keeps ∙ ap (λ b. b && not (meets cutoff (replaced k v vs))) is_more ∙ ap not met))
    step false false met is_more keeps =
        let few : length (replaced k v vs) ≤ cutoff.0 = grind (arith, nat_tests) in
        let least = allotted_least format cutoff.0 (meets cutoff (replaced k v vs)) is.1 in
        omega (arith, few, least)

-- one attempt less
pub one_less : (format : Format) (cutoff : Option (ℕ × ℕ)) (vs : List Value)
    → IsCutoff format cutoff → length vs ≤ allotted format cutoff vs
    → length (without_last vs) ≤ allotted format cutoff (without_last vs)
one_less format None vs is within =
    let less = length-take-le (length vs - 1) vs (omega arith) in omega (arith, less, within)
one_less format (Some cutoff) vs is within = step (nat_lt cutoff.0 (length vs - 1)) refl
  where
    step : (b : Bool) → nat_lt cutoff.0 (length vs - 1) ≡ b
        → length (without_last vs) ≤ allotted format (Some cutoff) (without_last vs)
    step true more =
        let less = length-take-le (length vs - 1) vs (omega arith) in
        let many : cutoff.0 ≤ length vs - 1 = grind (arith, nat_tests) in
        let same : meets cutoff (without_last vs) ≡ meets cutoff vs =
        ap (list_any (is_below cutoff.1)) (take-take cutoff.0 (length vs - 1) vs many) in
        subst (λ b. length (without_last vs) ≤ by_met format cutoff.0 b) (sym same)
        (omega (arith, less, within))
    step false more =
        let less = length-take-le (length vs - 1) vs (omega arith) in
        let few : length vs - 1 ≤ cutoff.0 = grind (arith, nat_tests) in
        let least = allotted_least format cutoff.0 (meets cutoff (without_last vs)) is.1 in
        omega (arith, less, few, least)

goes_on : (format : Format) (cutoff : ℕ × ℕ) (vs : List Value)
    → length vs ≤ allotted format (Some cutoff) vs → cutoff.0 < length vs → meets cutoff vs ≡ true
goes_on format cutoff vs within more = step (meets cutoff vs) refl
  where
    step : (b : Bool) → meets cutoff vs ≡ b → meets cutoff vs ≡ true
    step true met = met
    step false met =
        let few : length vs ≤ by_met format cutoff.0 false =
        subst (λ b. length vs ≤ by_met format cutoff.0 b) met within in
        absurd (omega (arith, few, more))

only_met : (cutoff : ℕ × ℕ) (t : Table) → t.cutoff ≡ Some cutoff → KeepsAllotted t
    → OnlyMetGoOn cutoff t
only_met cutoff t is h k d lt more =
    goes_on t.format cutoff _ (subst (λ c.
    length (get_or t.entrants k d).values ≤ allotted t.format c (get_or t.entrants k d).values)
    is (h k d lt)) more

-- The law

at_most : (k m : ℕ) → (k < m → false ≡ true) → m ≤ k
at_most k m h = step (nat_lt k m) refl
  where
    step : (b : Bool) → nat_lt k m ≡ b → m ≤ k
    step true is = absurd (false≢true (h (grind (arith, nat_tests))))
    step false is = grind (arith, nat_tests)

pub met_is_better : MetIsBetter
met_is_better t cutoff within only n m one other found there met not =
    let at : (k : ℕ) (e : Entrant) → find (has_number k) t.entrants ≡ Some e
    → slice_get t.entrants (position_or_len (has_number k) t.entrants) ≡ Some e =
    λ k e is. sym (find_at (has_number k) t.entrants) ∙ is in
    let goes =
    at_index (λ (e : Entrant). cutoff.0 < length e.values → meets cutoff e.values ≡ true) t.entrants
    (position_or_len (has_number m) t.entrants) other only (at m other there) in
    let few : length other.values ≤ cutoff.0 =
    at_most cutoff.0 (length other.values) (λ more. sym not ∙ goes more) in
    let better : is_better (key t one) (key t other) ≡ true =
    better_key t.format t.unit cutoff.0 cutoff.1 one.values other.values within.1 met not few in
    let less =
    count_lt_in (λ (e : Entrant). is_better (key t e) (key t one))
    (λ (e : Entrant). is_better (key t e) (key t other)) t.entrants
    (position_or_len (has_number n) t.entrants) one (at n one found) (not_better (key t one)) better
    (λ e h. better_better (key t e) (key t one) (key t other) h better) in
    omega (arith, less)

-- who met the cutoff of a table
pub met_in : (t : Table) (o : Option (ℕ × ℕ)) → t.cutoff ≡ o → IsCutoff t.format o → KeepsAllotted t
    → IfSome o (λ cutoff. MetIsBetterIn cutoff t)
met_in t None is within h = tt
met_in t (Some cutoff) is within h = met_is_better t cutoff within (only_met cutoff t is h)
