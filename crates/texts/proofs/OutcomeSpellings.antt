-- What a judge enters is read from its one spelling.
use Rattle.std.proofs.Common.{◌≡◌, ℕ, ◌≤◌, Bool, true, false, cond, nat_le, List, ◌++◌, take, drop}
use Rattle.std.proofs.Common.{codes, decimal, bytes_eq, Option, Some, None, refl, sym, ap, ◌∙◌}
use Rattle.std.proofs.Common.{subst, arith, append_assoc, take-append-drop}
use Rattle.std.specs.Option.{option_map, option_and_then}
use Rattle.std.proofs.lemmas.Bool.Decides.{nat_tests}
use Rattle.cube.specs.{declared.moves.Move.Move, notation.Notation.spelling as moves_text}
use Rattle.texts.{specs.declared.command.Entered.Entered, proofs.MoveSpellings.moves_spelled}
use Rattle.texts.specs.declared.command.Entered.TheVariants.{Time, Solution, Multi, Dnf, Dns}
use Rattle.texts.specs.Spelling.{IsWithin, IsEntered, entered_text}
use Rattle.texts.specs.Fields.{number_between, cut, two_numbers, moves_of, time_with, time_of}
use Rattle.texts.specs.Fields.{multi_with, attempted_of, multi_of, entered_of}
use Rattle.texts.proofs.Cuts.{behind, cut_spelled, cut-behind}
use Rattle.texts.proofs.Spelled.{IsSpelled, bytes_eq-equal}
use Rattle.texts.proofs.FieldSpellings.{number_spelled, decimal_no_colon, pair-only, pair-found}

-- A time and its penalties.

hundredths : IsSpelled (number_between 1 999999) decimal (IsWithin 1 999999)
hundredths = number_spelled 1 999999 (omega arith)

penalties : IsSpelled (number_between 0 9) decimal (IsWithin 0 9)
penalties = number_spelled 0 9 (omega arith)

-- a time and its penalties, after `T:`
abbrev IsTime : List ℕ × Option (List ℕ) → Entered → Type 0
IsTime parts x = IsEntered x × (codes "T:" ++ (parts.0 ++ behind 58 parts.1) ≡ entered_text x)

time-only : (parts : List ℕ × Option (List ℕ)) (x : Entered) → time_of parts ≡ Some x
    → IsTime parts x
time-only parts x h = step (two_numbers (number_between 1 999999) (number_between 0 9) parts) refl h
  where
    step : (o : Option (ℕ × ℕ))
        → two_numbers (number_between 1 999999) (number_between 0 9) parts ≡ o
        → option_map time_with o ≡ Some x → IsTime parts x
    step None is e = absurd (let bad : None ≡ Some x = e in cc)
    step (Some p) is e =
        let same : time_with p ≡ x = cc in
        let read = pair-only _ _ _ _ hundredths penalties parts p is in
        subst (IsTime parts) same (read.0, ap (λ y. codes "T:" ++ y) read.1)

-- Cubes of multi-blind and their seconds.

cubes : IsSpelled (number_between 0 99) decimal (IsWithin 0 99)
cubes = number_spelled 0 99 (omega arith)

attempted : IsSpelled (number_between 2 99) decimal (IsWithin 2 99)
attempted = number_spelled 2 99 (omega arith)

seconds : IsSpelled (number_between 1 5999) decimal (IsWithin 1 5999)
seconds = number_spelled 1 5999 (omega arith)

abbrev attempted_pair : List ℕ → Option (ℕ × ℕ)
attempted_pair bytes = two_numbers (number_between 2 99) (number_between 1 5999) (cut 58 bytes)

-- solved cubes, attempted ones and seconds, after `M:`
abbrev IsMulti : List ℕ × Option (List ℕ) → Entered → Type 0
IsMulti parts x = IsEntered x × (codes "M:" ++ (parts.0 ++ behind 58 parts.1) ≡ entered_text x)

multi-only : (parts : List ℕ × Option (List ℕ)) (x : Entered) → multi_of parts ≡ Some x
    → IsMulti parts x
multi-only parts x h = start (number_between 0 99 parts.0) refl h
  where
    last : (s : ℕ) (back : List ℕ) (p : ℕ × ℕ) → number_between 0 99 parts.0 ≡ Some s
        → parts.1 ≡ Some back → attempted_pair back ≡ Some p → (b : Bool) → nat_le s p.0 ≡ b
        → cond b (Some (Multi s p.0 p.1)) None ≡ Some x → IsMulti parts x
    last s back p front is pair false few e = absurd (let bad : None ≡ Some x = e in cc)
    last s back p front is pair true few e =
        let same : Multi s p.0 p.1 ≡ x = cc in
        let one = cubes.only parts.0 s front in
        let rest = pair-only _ _ _ _ attempted seconds (cut 58 back) p pair in
        let below : s ≤ p.0 = grind (arith, nat_tests) in
        let text : back ≡ decimal p.0 ++ codes ":" ++ decimal p.1 = cut_spelled 58 back ∙ rest.1 in
        subst (IsMulti parts) same (
          ((omega arith, below), rest.0.0, rest.0.1),
          rw (is, one.1, text)
              (ap (λ y. codes "M:" ++ y)
              (sym
              (append_assoc (decimal s) (codes ":") (decimal p.0 ++ codes ":" ++ decimal p.1)))),
        )

    third : (s : ℕ) (back : List ℕ) → number_between 0 99 parts.0 ≡ Some s → parts.1 ≡ Some back
        → (o : Option (ℕ × ℕ)) → attempted_pair back ≡ o
        → option_and_then (multi_with s) o ≡ Some x → IsMulti parts x
    third s back front is None pair e = absurd (let bad : None ≡ Some x = e in cc)
    third s back front is (Some p) pair e = last s back p front is pair (nat_le s p.0) refl e

    next : (s : ℕ) → number_between 0 99 parts.0 ≡ Some s → (o : Option (List ℕ)) → parts.1 ≡ o
        → attempted_of s o ≡ Some x → IsMulti parts x
    next s front None is e = absurd (let bad : None ≡ Some x = e in cc)
    next s front (Some back) is e = third s back front is (attempted_pair back) refl e

    start : (o : Option ℕ) → number_between 0 99 parts.0 ≡ o
        → option_and_then (λ s. attempted_of s parts.1) o ≡ Some x → IsMulti parts x
    start None front e = absurd (let bad : None ≡ Some x = e in cc)
    start (Some s) front e = next s front parts.1 refl e

multi-found : (s a t : ℕ) → IsEntered (Multi s a t)
    → multi_of (cut 58 (decimal s ++ codes ":" ++ (decimal a ++ codes ":" ++ decimal t)))
    ≡ Some (Multi s a t)
multi-found s a t fits =
    let few : nat_le s a ≡ true = grind (arith, nat_tests) in
    rw (append_assoc (decimal s) (codes ":") (decimal a ++ codes ":" ++ decimal t))
    (rw
    (cut-behind 58 (decimal s) (Some (decimal a ++ codes ":" ++ decimal t))
    (decimal_no_colon s (omega arith)))
    (rw (cubes.found s (omega arith, omega arith))
    (rw (pair-found _ _ _ _ attempted seconds a t (omega arith) fits.1 fits.2) (rw few refl))))

-- What is read where no text before is.

abbrev multis : List ℕ → Option Entered
multis bytes =
    cond (bytes_eq (take 2 bytes) (codes "M:")) (multi_of (cut 58 (drop 2 bytes))) None

abbrev solutions : List ℕ → Option Entered
solutions bytes =
    cond (bytes_eq (take 2 bytes) (codes "S:")) (option_map Solution (moves_of (drop 2 bytes)))
    (multis bytes)

abbrev times : List ℕ → Option Entered
times bytes =
    cond (bytes_eq (take 2 bytes) (codes "T:")) (time_of (cut 58 (drop 2 bytes))) (solutions bytes)

abbrev not_started : List ℕ → Option Entered
not_started bytes = cond (bytes_eq bytes (codes "DNS")) (Some Dns) (times bytes)

abbrev IsRead : List ℕ → Entered → Type 0
IsRead bytes x = IsEntered x × (bytes ≡ entered_text x)

-- a letter and a colon, and what they are in front of
lettered : (letter bytes text : List ℕ) → bytes_eq (take 2 bytes) letter ≡ true
    → letter ++ ((cut 58 (drop 2 bytes)).0 ++ behind 58 (cut 58 (drop 2 bytes)).1) ≡ text
    → bytes ≡ text
lettered letter bytes text is spelled =
    sym (take-append-drop 2 bytes) ∙ ap (λ y. take 2 bytes ++ y) (cut_spelled 58 (drop 2 bytes))
    ∙ rw (bytes_eq-equal (take 2 bytes) letter is) spelled

pub entered_spelled : IsSpelled entered_of entered_text IsEntered
unfolding entered_of
entered_spelled = record {
  only = λ bytes x h. dnf bytes x (bytes_eq bytes (codes "DNF")) refl h;
  found = found;
}
  where
    multi : (bytes : List ℕ) (x : Entered) (b : Bool) → bytes_eq (take 2 bytes) (codes "M:") ≡ b
        → cond b (multi_of (cut 58 (drop 2 bytes))) None ≡ Some x → IsRead bytes x
    multi bytes x false is h = absurd (let bad : None ≡ Some x = h in cc)
    multi bytes x true is h =
        let spelled = multi-only (cut 58 (drop 2 bytes)) x h in
        (spelled.0, lettered (codes "M:") bytes (entered_text x) is spelled.1)

    moves : (bytes : List ℕ) (x : Entered) (o : Option (List Move))
        → bytes_eq (take 2 bytes) (codes "S:") ≡ true → moves_of (drop 2 bytes) ≡ o
        → option_map Solution o ≡ Some x → IsRead bytes x
    moves bytes x None is are h = absurd (let bad : None ≡ Some x = h in cc)
    moves bytes x (Some ms) is are h =
        let same : Solution ms ≡ x = cc in
        let read = moves_spelled.only (drop 2 bytes) ms are in
        subst (IsRead bytes) same (
          read.0,
          sym (take-append-drop 2 bytes) ∙ ap (λ y. take 2 bytes ++ y) read.1
              ∙ ap (λ y. y ++ moves_text ms) (bytes_eq-equal (take 2 bytes) (codes "S:") is),
        )

    solution : (bytes : List ℕ) (x : Entered) (b : Bool) → bytes_eq (take 2 bytes) (codes "S:") ≡ b
        → cond b (option_map Solution (moves_of (drop 2 bytes))) (multis bytes) ≡ Some x
        → IsRead bytes x
    solution bytes x false is h = multi bytes x (bytes_eq (take 2 bytes) (codes "M:")) refl h
    solution bytes x true is h = moves bytes x (moves_of (drop 2 bytes)) is refl h

    time : (bytes : List ℕ) (x : Entered) (b : Bool) → bytes_eq (take 2 bytes) (codes "T:") ≡ b
        → cond b (time_of (cut 58 (drop 2 bytes))) (solutions bytes) ≡ Some x → IsRead bytes x
    time bytes x false is h = solution bytes x (bytes_eq (take 2 bytes) (codes "S:")) refl h
    time bytes x true is h =
        let spelled = time-only (cut 58 (drop 2 bytes)) x h in
        (spelled.0, lettered (codes "T:") bytes (entered_text x) is spelled.1)

    dns : (bytes : List ℕ) (x : Entered) (b : Bool) → bytes_eq bytes (codes "DNS") ≡ b
        → cond b (Some Dns) (times bytes) ≡ Some x → IsRead bytes x
    dns bytes x false is h = time bytes x (bytes_eq (take 2 bytes) (codes "T:")) refl h
    dns bytes x true is h =
        let same : Dns ≡ x = cc in
        subst (IsRead bytes) same (tt, bytes_eq-equal bytes (codes "DNS") is)

    dnf : (bytes : List ℕ) (x : Entered) (b : Bool) → bytes_eq bytes (codes "DNF") ≡ b
        → cond b (Some Dnf) (not_started bytes) ≡ Some x → IsRead bytes x
    dnf bytes x false is h = dns bytes x (bytes_eq bytes (codes "DNS")) refl h
    dnf bytes x true is h =
        let same : Dnf ≡ x = cc in
        subst (IsRead bytes) same (tt, bytes_eq-equal bytes (codes "DNF") is)

    found : (x : Entered) → IsEntered x → entered_of (entered_text x) ≡ Some x
    found (Time t p) fits =
        rw (pair-found _ _ _ _ hundredths penalties t p (omega arith) fits.0 fits.1) refl
    found (Solution ms) fits = rw (moves_spelled.found ms fits) refl
    found (Multi s a t) fits = multi-found s a t fits
    found Dnf fits = refl
    found Dns fits = refl
