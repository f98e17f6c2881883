-- Where more values fit, the next one is no attempt too many.
use Rattle.std.proofs.Common.{◌≡◌, ℕ, ◌<◌, ◌≤◌, nat_le, Bool, true, false, cond, not, List, [], ◌∷◌}
use Rattle.std.proofs.Common.{◌++◌, length, Option, None, Some, refl, sym, ap, arith, subst}
use Rattle.std.proofs.{Common.length-append, lemmas.List.take-append-le}
use Rattle.std.{specs.List.list_any, proofs.lemmas.Bool.Decides.nat_tests}
use Rattle.attempts.specs.declared.Value.{Value}
use Rattle.formats.specs.{declared.events.Format.Format, Events.attempts_of}
use Rattle.rounds.specs.Tables.{IsCutoff, is_below, meets, allotted, fits}
use Rattle.rounds.proofs.Allotted.{one_more}

pub fits_from : (format : Format) (cutoff : Option (ℕ × ℕ)) (vs : List Value)
    → length vs ≤ allotted format cutoff vs → fits format cutoff vs ≡ true
fits_from format cutoff vs h = grind (arith, nat_tests)

pub within_from : (format : Format) (cutoff : Option (ℕ × ℕ)) (vs : List Value)
    → fits format cutoff vs ≡ true → length vs ≤ allotted format cutoff vs
within_from format cutoff vs h = grind (arith, nat_tests)

abbrev by_met : Format → ℕ → Bool → ℕ
by_met format k met = cond met (attempts_of format) k

least : (format : Format) (k : ℕ) (met : Bool) → k < attempts_of format → k ≤ by_met format k met
least format k true h = omega arith
least format k false h = omega arith

-- where more than these fit, fewer count than these allot
pub room_before : (format : Format) (cutoff : Option (ℕ × ℕ)) (vs : List Value) (v : Value)
    (ws : List Value) → IsCutoff format cutoff
    → length (vs ++ v ∷ ws) ≤ allotted format cutoff (vs ++ v ∷ ws)
    → length vs < allotted format cutoff vs
room_before format None vs v ws is h =
    let long = length-append vs (v ∷ ws) in omega (arith, long, h)
room_before format (Some cutoff) vs v ws is h =
    step (nat_le cutoff.0 (length vs)) refl
  where
    step : (b : Bool) → nat_le cutoff.0 (length vs) ≡ b
        → length vs < allotted format (Some cutoff) vs
    step true enough =
        let many : cutoff.0 ≤ length vs = grind (arith, nat_tests) in
        let long = length-append vs (v ∷ ws) in
        let same : meets cutoff (vs ++ v ∷ ws) ≡ meets cutoff vs =
        ap (list_any (is_below cutoff.1)) (take-append-le cutoff.0 vs (v ∷ ws) many) in
        let there : length (vs ++ v ∷ ws) ≤ by_met format cutoff.0 (meets cutoff vs) =
        subst (λ b. length (vs ++ v ∷ ws) ≤ by_met format cutoff.0 b) same h in
        omega (arith, long, there)
    step false enough =
        let few : length vs < cutoff.0 = grind (arith, nat_tests) in
        let low = least format cutoff.0 (meets cutoff vs) is.1 in
        omega (arith, few, low)

same_tests : (a b : Bool) → (a ≡ true → b ≡ true) → (b ≡ true → a ≡ true) → a ≡ b
same_tests true true f g = refl
same_tests true false f g = sym (f refl)
same_tests false true f g = g refl
same_tests false false f g = refl

-- one more value fits exactly where fewer count than these allot
pub next_check : (format : Format) (cutoff : Option (ℕ × ℕ)) (vs : List Value) (v : Value)
    → IsCutoff format cutoff
    → fits format cutoff (vs ++ v ∷ []) ≡ not (nat_le (allotted format cutoff vs) (length vs))
next_check format cutoff vs v is =
    same_tests _ _ (λ h.
    room (room_before format cutoff vs v [] is (within_from format cutoff (vs ++ v ∷ []) h)))
    (λ h. fits_from format cutoff (vs ++ v ∷ []) (one_more format cutoff vs v is (left h)))
  where
    room : length vs < allotted format cutoff vs
        → not (nat_le (allotted format cutoff vs) (length vs)) ≡ true
    room h = grind (arith, nat_tests)

    left : not (nat_le (allotted format cutoff vs) (length vs)) ≡ true
        → length vs < allotted format cutoff vs
    left h = grind (arith, nat_tests)
