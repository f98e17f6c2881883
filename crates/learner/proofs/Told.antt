-- What a desk that lacks entries is told, one entry after the other.
use Rattle.std.proofs.Common.{◌≡◌, ◌-◌, ◌+◌, ◌<◌, ◌≤◌, ℕ, zero, suc, Bool, false, if◌then◌else◌}
use Rattle.std.proofs.Common.{nat_lt, List, [], ◌∷◌, ◌++◌, Some, None, length, slice_get, take}
use Rattle.std.proofs.Common.{drop, refl, sym, ap, subst, ◌∙◌, arith, zero-add}
use Rattle.std.proofs.lemmas.Bool.Decides.{nat_tests}
use Rattle.acceptor.specs.declared.{entry.Entry.Entry, message.Message.Message, message.Body.Body}
use Rattle.acceptor.specs.declared.message.Body.TheVariants.{Behind, Decided}
use Rattle.acceptor.specs.Messages.{message}
use Rattle.proposer.specs.{Plans.only_say, Plans.IsNothing, Sides.Side}
use Rattle.learner.specs.Learning.{told, longest_run, behind_plan, behind_body_plan}

get_of_drop : (k i : ℕ) (xs : List Entry) → slice_get (drop k xs) i ≡ slice_get xs (k + i)
get_of_drop zero i xs = ap (λ p. slice_get xs p) (sym (zero-add i))
get_of_drop (suc k) i [] = refl
get_of_drop (suc k) i (x ∷ xs) =
    let same : suc (k + i) ≡ suc k + i = omega arith in
    get_of_drop k i xs ∙ ap (λ p. slice_get (x ∷ xs) p) same

-- with one more of the entries, it is told behind the others
told_one_more : (d to pos i : ℕ) (ys : List Entry) (e : Entry) → slice_get ys i ≡ Some e
    → told d to pos (take (suc i) ys)
    ≡ told d to pos (take i ys) ++ message d to (Decided (pos + i) e) ∷ []
told_one_more d to pos i [] e h = absurd cc
told_one_more d to pos zero (y ∷ ys) e h =
    let same : y ≡ e = cc in
    let at : pos ≡ pos + 0 = omega arith in
    ap (λ z. message d to (Decided pos z) ∷ []) same
    ∙ ap (λ p. message d to (Decided p e) ∷ []) at
told_one_more d to pos (suc i) (y ∷ ys) e h =
    let at : suc pos + i ≡ pos + suc i = omega arith in
    ap (λ ms. message d to (Decided pos y) ∷ ms) (told_one_more d to (suc pos) i ys e h
    ∙ ap (λ p. told d to (suc pos) (take i ys) ++ message d to (Decided p e) ∷ []) at)

-- past the end there is no more
none_more : (i : ℕ) (ys : List Entry) → slice_get ys i ≡ None → take (suc i) ys ≡ take i ys
none_more zero [] h = refl
none_more (suc i) [] h = refl
none_more zero (y ∷ ys) h = absurd cc
none_more (suc i) (y ∷ ys) h = ap (λ zs. y ∷ zs) (none_more i ys h)

-- the loop's step at position p, which has an entry
pub told_step : (d to k p : ℕ) (xs : List Entry) (e : Entry) → k ≤ p → slice_get xs p ≡ Some e
    → told d to k (take (p + 1 - k) (drop k xs))
    ≡ told d to k (take (p - k) (drop k xs)) ++ message d to (Decided p e) ∷ []
told_step d to k p xs e le h =
    let count : p + 1 - k ≡ suc (p - k) = omega (arith, le) in
    let at : k + (p - k) ≡ p = omega (arith, le) in
    let there : slice_get (drop k xs) (p - k) ≡ Some e =
    get_of_drop k (p - k) xs ∙ ap (λ q. slice_get xs q) at ∙ h in
    ap (λ m. told d to k (take m (drop k xs))) count
    ∙ told_one_more d to k (p - k) (drop k xs) e there
    ∙ ap (λ q. told d to k (take (p - k) (drop k xs)) ++ message d to (Decided q e) ∷ []) at

-- the loop's step at position p, which has none
pub told_end : (d to k p : ℕ) (xs : List Entry) → k ≤ p → slice_get xs p ≡ None
    → told d to k (take (p + 1 - k) (drop k xs)) ≡ told d to k (take (p - k) (drop k xs))
told_end d to k p xs le h =
    let count : p + 1 - k ≡ suc (p - k) = omega (arith, le) in
    let at : k + (p - k) ≡ p = omega (arith, le) in
    let none : slice_get (drop k xs) (p - k) ≡ None =
    get_of_drop k (p - k) xs ∙ ap (λ q. slice_get xs q) at ∙ h in
    ap (λ m. told d to k (take m (drop k xs))) count
    ∙ ap (λ zs. told d to k zs) (none_more (p - k) (drop k xs) none)

-- at the log's end nothing is told
pub told_nothing : (d to k : ℕ) (xs : List Entry) → length xs ≡ k
    → told d to k (take longest_run (drop k xs)) ≡ []
told_nothing d to k [] h = subst (λ (p : ℕ). told d to p (take longest_run (drop p [])) ≡ []) h refl
told_nothing d to k (x ∷ xs) h =
    ap (λ es. told d to k (take longest_run es)) (none_left k (x ∷ xs) h)
  where
    none_left : (k : ℕ) (xs : List Entry) → length xs ≡ k → drop k xs ≡ []
    none_left zero [] h = refl
    none_left zero (x ∷ xs) h = absurd cc
    none_left (suc k) [] h = refl
    none_left (suc k) (x ∷ xs) h = none_left k xs (omega (arith, h))

-- in front of it, something is
told_something : (d to k : ℕ) (xs : List Entry) → k < length xs
    → ¬ (told d to k (take longest_run (drop k xs)) ≡ [])
told_something d to k xs h = first (drop k xs) (some_left k xs h)
  where
    some_left : (k : ℕ) (xs : List Entry) → k < length xs → ¬ (drop k xs ≡ [])
    some_left k [] h e = absurd (omega (arith, h))
    some_left zero (x ∷ xs) h e = absurd cc
    some_left (suc k) (x ∷ xs) h e = some_left k xs (omega (arith, h)) e

    first : (ys : List Entry) → ¬ (ys ≡ []) → ¬ (told d to k (take longest_run ys) ≡ [])
    first [] some e = some refl
    first (y ∷ ys) some e = absurd cc

-- so a desk with a shorter log is not met with silence
pub told_at_behind : (log : List Entry) (side : Side) (m : Message) (k : ℕ) → m.body ≡ Behind k
    → k < length log → ¬ IsNothing (behind_plan log side m)
told_at_behind log side m k is less quiet =
    let more : nat_lt (length log) k ≡ false = grind (arith, nat_tests) in
    let at : IsNothing (behind_body_plan side.desk log side.passing m.from (Behind k)) =
    subst (λ (b : Body). IsNothing (behind_body_plan side.desk log side.passing m.from b)) is quiet
    in
    let said : IsNothing (only_say side.passing
    (told side.desk m.from k (take longest_run (drop k log)))) =
    subst (λ (t : Bool). IsNothing (if t
    then only_say side.passing (message side.desk m.from (Behind (length log)) ∷ [])
    else only_say side.passing (told side.desk m.from k (take longest_run (drop k log)))))
    more at in
    told_something side.desk m.from k log less said.2
