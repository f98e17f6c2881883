-- One step of a loop that writes a text for each item of a list.
use Rattle.std.proofs.Common.{◌≡◌, ◌∙◌, ℕ, suc, ◌+◌, ◌-◌, ◌<◌, List, [], ◌∷◌, ◌++◌, length, get_or}
use Rattle.std.proofs.Common.{drop, take, flat_map, Result, Ok, Err, OnOk, if◌then◌else◌, refl, ap}
use Rattle.std.proofs.Common.{arith, append_assoc, add-one, drop-cons}
use Rattle.std.{specs.Result.is_ok, proofs.lemmas.List.take_all}

-- what was written, and what is written for the items from a place on, is the whole: so it is once
-- the item at the place was written
pub one_field_more : {X : Type 0} (text : X → List ℕ) (xs : List X) (i : ℕ) (d : X)
    (before after whole : List ℕ) → i < length xs → before ++ flat_map text (drop i xs) ≡ whole
    → after ≡ before ++ text (get_or xs i d) → after ++ flat_map text (drop (i + 1) xs) ≡ whole
one_field_more text xs i d before after whole low is written =
    let there = drop-cons xs i d low in
    let left = rw there at is in
    rw (add-one i, written)
    (append_assoc before (text (get_or xs i d)) (flat_map text (drop (suc i) xs)) ∙ left)

-- a text that is another one where a call succeeded
pub when_ok : {T E : Type 0} (r : Result T E) (text a b : List ℕ)
    → text ≡ (if is_ok r then a else b) → OnOk r (text ≡ a)
when_ok (Ok t) text a b is = is
when_ok (Err e) text a b is = tt

-- what is after the first item is all that is left
pub rest_whole : {X : Type 0} (xs : List X) → take (length xs - 1) (drop 1 xs) ≡ drop 1 xs
rest_whole [] = take_all (0 - 1) [] (omega arith)
rest_whole (x ∷ xs) = take_all (suc (length xs) - 1) xs (omega arith)

-- a text of two parts, one after the other
pub two_parts : (out a b x y : List ℕ) → x ≡ out ++ a → y ≡ x ++ b → y ≡ out ++ (a ++ b)
two_parts out a b x y p q = q ∙ ap (λ w. w ++ b) p ∙ append_assoc out a b

-- a text of three parts, each after the one before
pub three_parts : (out a b c x y z : List ℕ) → x ≡ out ++ a → y ≡ x ++ b → z ≡ y ++ c
    → z ≡ out ++ (a ++ b ++ c)
three_parts out a b c x y z p q r =
    r ∙ ap (λ w. w ++ c) (q ∙ ap (λ w. w ++ b) p)
    ∙ rw (append_assoc out a b, append_assoc out (a ++ b) c) refl

-- a text of five parts, each after the one before
pub five_parts : (out a b c d e v w x y z : List ℕ) → v ≡ out ++ a → w ≡ v ++ b → x ≡ w ++ c
    → y ≡ x ++ d → z ≡ y ++ e → z ≡ out ++ (a ++ b ++ c ++ d ++ e)
five_parts out a b c d e v w x y z p q r s t =
    two_parts out (a ++ b ++ c ++ d) e y z
    (two_parts out (a ++ b ++ c) d x y (three_parts out a b c v w x p q r) s) t

-- a text of six parts, each after the one before
pub six_parts : (out a b c d e f u v w x y z : List ℕ) → u ≡ out ++ a → v ≡ u ++ b
    → w ≡ v ++ c → x ≡ w ++ d → y ≡ x ++ e → z ≡ y ++ f → z ≡ out ++ (a ++ b ++ c ++ d ++ e ++ f)
six_parts out a b c d e f u v w x y z p q r s t k =
    two_parts out (a ++ b ++ c ++ d ++ e) f y z (five_parts out a b c d e u v w x y p q r s t) k
