-- Whom a list of entrants has under a number.
use Rattle.std.proofs.Common.{◌≡◌, ℕ, Bool, true, false, not, ◌==◌, ◌||◌, cond, List, [], ◌∷◌, ◌++◌}
use Rattle.std.proofs.Common.{map, find, filter, Option, Some, None, refl, sym, ap, ◌∙◌, subst}
use Rattle.std.{proofs.Common.eqb-true, specs.List.AllByRecursion, specs.List.list_any}
use Rattle.std.proofs.lemmas.Bool.{false≢true}
use Rattle.attempts.specs.declared.Value.{Value}
use Rattle.rounds.specs.Tables.{Entrant, Table, has_number, entrant, withdrawn, changed_of}
use Rattle.commands.proofs.Lookups.{some≢none}
use Rattle.commands.proofs.Places.{find_passes}

-- what holds of a list in which one is found: it is the first, or it is found behind another
by_found : (n : ℕ) (one : Entrant) (P : List Entrant → Type 0)
    → ((d : Entrant) (ds : List Entrant) → has_number n d ≡ true → d ≡ one → P (d ∷ ds))
    → ((d : Entrant) (ds : List Entrant) → has_number n d ≡ false → P ds → P (d ∷ ds))
    → (es : List Entrant) → find (has_number n) es ≡ Some one → P es
by_found n one P first later [] h = absurd (some≢none one (sym h))
by_found n one P first later (d ∷ ds) h =
    step (has_number n d) refl h (by_found n one P first later ds)
  where
    step : (b : Bool) → has_number n d ≡ b → cond b (Some d) (find (has_number n) ds) ≡ Some one
        → (find (has_number n) ds ≡ Some one → P ds) → P (d ∷ ds)
    step true is h next = first d ds is cc
    step false is h next = later d ds is (next h)

-- After a change of another number

number_same : (n : ℕ) (d : Entrant) (change : List Value → List Value) (b : Bool)
    → has_number n (cond b (record d { values = change d.values }) d) ≡ has_number n d
number_same n d change true = refl
number_same n d change false = refl

-- another number than the one that has this
not_other : (m n : ℕ) (d : Entrant) → (m == n) ≡ false → has_number n d ≡ true
    → has_number m d ≡ false
not_other m n d other is = ap (λ (k : ℕ). m == k) (sym (eqb-true n d.number is)) ∙ other

-- the values of another number are changed
pub found_changed : (m n : ℕ) (change : List Value → List Value) (es : List Entrant) (one : Entrant)
    → (m == n) ≡ false → find (has_number n) es ≡ Some one
    → find (has_number n) (map (changed_of m change) es) ≡ Some one
found_changed m n change es one other h =
    by_found n one (λ ds. find (has_number n) (map (changed_of m change) ds) ≡ Some one)
    (λ d ds is same. rw (not_other m n d other is, is) (ap Some same))
    (λ d ds is next. rw (number_same n d change (has_number m d), is) next) es h

-- more are entered after it
pub found_append : (n : ℕ) (es more : List Entrant) (one : Entrant)
    → find (has_number n) es ≡ Some one → find (has_number n) (es ++ more) ≡ Some one
found_append n es more one h =
    by_found n one (λ ds. find (has_number n) (ds ++ more) ≡ Some one)
    (λ d ds is same. rw is (ap Some same)) (λ d ds is next. rw is next) es h

found_left : (m n : ℕ) (es : List Entrant) (one : Entrant) → (m == n) ≡ false
    → find (has_number n) es ≡ Some one
    → find (has_number n) (filter (λ e. not (has_number m e)) es) ≡ Some one
found_left m n es one other h =
    by_found n one (λ ds. find (has_number n) (filter (λ e. not (has_number m e)) ds) ≡ Some one)
    (λ d ds is same. rw (not_other m n d other is, is) (ap Some same))
    (λ d ds is next. behind d (filter (λ e. not (has_number m e)) ds) is next (has_number m d)) es h
  where
    behind : (d : Entrant) (ds : List Entrant) → has_number n d ≡ false
        → find (has_number n) ds ≡ Some one → (b : Bool)
        → find (has_number n) (cond (not b) (d ∷ ds) ds) ≡ Some one
    behind d ds is next true = next
    behind d ds is next false = rw is next

-- another number leaves, and perhaps a third one takes the place
pub found_exit : (m n : ℕ) (t : Table) (next : Option ℕ) (one : Entrant) → (m == n) ≡ false
    → entrant t n ≡ Some one → entrant (withdrawn t m next) n ≡ Some one
found_exit m n t None one other h = found_left m n t.entrants one other h
found_exit m n t (Some new) one other h =
    found_append n (filter (λ e. not (has_number m e)) t.entrants)
    (record { number = new; values = [] } ∷ []) one (found_left m n t.entrants one other h)

-- After a change of the number

-- an entrant with changed values
abbrev pub made : (List Value → List Value) → Entrant → Entrant
made change e = record e { values = change e.values }

-- the entrant is found with the values that are changed
pub found_made : (n : ℕ) (change : List Value → List Value) (es : List Entrant) (e : Entrant)
    → find (has_number n) es ≡ Some e
    → find (has_number n) (map (changed_of n change) es) ≡ Some (made change e)
found_made n change es e h =
    by_found n e (λ ds. find (has_number n) (map (changed_of n change) ds) ≡ Some (made change e))
    (λ d ds is same. rw (is, is) (ap (λ (y : Entrant). Some (made change y)) same))
    (λ d ds is next. rw (is, is) next) es h

-- the one that is found has the number
pub found_number : (n : ℕ) (es : List Entrant) (e : Entrant) → find (has_number n) es ≡ Some e
    → n ≡ e.number
found_number n es e h = eqb-true n e.number (find_passes (has_number n) es e h)

-- What is found

-- the one that is found is one of them
pub any_found : (n : ℕ) (p : Entrant → Bool) (es : List Entrant) (one : Entrant)
    → find (has_number n) es ≡ Some one → p one ≡ true → list_any p es ≡ true
any_found n p es one h holds =
    by_found n one (λ ds. list_any p ds ≡ true)
    (λ d ds is same. rw (ap p same, holds) refl) (λ d ds is next. rw next (or_true (p d))) es h
  where
    or_true : (b : Bool) → (b || true) ≡ true
    or_true true = refl
    or_true false = refl

-- what holds of all holds of who is found
pub found_holds : (n : ℕ) (P : Entrant → Type 0) (es : List Entrant) (one : Entrant)
    → AllByRecursion P es → find (has_number n) es ≡ Some one → P one
found_holds n P es one all h =
    by_found n one (λ ds. AllByRecursion P ds → P one) (λ d ds is same each. subst P same each.0)
    (λ d ds is next each. next each.1) es h all

-- what is found of one of whom nothing counts
pub found_bare : (n : ℕ) (es : List Entrant) (e : Entrant)
    → AllByRecursion (λ d. has_number n d ≡ true → d.values ≡ []) es
    → find (has_number n) es ≡ Some e → e.values ≡ []
found_bare n es e bare h =
    found_holds n (λ d. has_number n d ≡ true → d.values ≡ []) es e bare h
    (find_passes (has_number n) es e h)

-- nobody is found
pub none_found : (n : ℕ) (es : List Entrant) → find (has_number n) es ≡ None
    → AllByRecursion (λ e. has_number n e ≡ true → e.values ≡ []) es
none_found n [] h = tt
none_found n (e ∷ es) h = step (has_number n e) refl h (none_found n es)
  where
    step : (b : Bool) → has_number n e ≡ b → cond b (Some e) (find (has_number n) es) ≡ None
        → (find (has_number n) es ≡ None
        → AllByRecursion (λ d. has_number n d ≡ true → d.values ≡ []) es)
        → AllByRecursion (λ d. has_number n d ≡ true → d.values ≡ []) (e ∷ es)
    step true is h later = absurd (some≢none e h)
    step false is h later = (λ has. absurd (false≢true (sym is ∙ has)), later h)
