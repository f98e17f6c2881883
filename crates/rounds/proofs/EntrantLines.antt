-- The lines of a table as its entrants.
use Rattle.std.proofs.Common.{◌≡◌, ℕ, ◌+◌, ◌<◌, nat_eq, Bool, true, false, cond, ◌||◌, List, []}
use Rattle.std.proofs.Common.{◌∷◌, map, filter, not, remove, length, find, Option, None, Some}
use Rattle.std.proofs.Common.{slice_get, is_some, All, MatchOption, position, zero, suc, refl, sym}
use Rattle.std.proofs.Common.{ap, ◌∙◌, arith, eqb-true, eq-eqb, subst}
use Rattle.std.specs.List.{list_any, AllByRecursion, IsDistinct}
use Rattle.std.{specs.Map.keys_of, specs.Borrow.Bor, proofs.lemmas.Option.same_Some}
use Rattle.std.specs.{Map.values_of, Map.lookup, Option.option_map, Option.option_copied}
use Rattle.std.proofs.lemmas.{Bool.Decides.nat_tests, List.length-map, Map.Made.lookup_key_passes}
use Rattle.std.proofs.lemmas.List.Elements.{recursion_from_All, All-from_recursion}
use Rattle.std.proofs.lemmas.Bool.{false≢true}
use Rattle.attempts.specs.declared.Value.{Value}
use Rattle.formats.specs.Results.{key_of, is_better}
use Rattle.indexmap.proofs.MapLemmas.{Found-position, Missing-position}
use Rattle.rounds.specs.declared.{rules.Rules.Rules, kept_entrant.KeptEntrant.KeptEntrant}
use Rattle.rounds.specs.Tables.{Entrant, IsCutoff, changed_of, has_number, place}
use Rattle.rounds.specs.model.Field.{Field, as_table, set_values_at, IsEntrantAt, IsKeptEntrantOf}
use Rattle.rounds.specs.model.KeptEntrants.{kept_of, place_among}
use Rattle.rounds.specs.model.UpToDate.{entrant_of, entrants_of, IsMade, IsPlaced, IsAllotted}
use Rattle.rounds.specs.{model.UpToDate.IsRanged, declared.kept.EntrantResult.EntrantResult}
use Rattle.rounds.proofs.KeyOrder.{at_index, count_along}
use Rattle.rounds.proofs.Passing.{line_read, part_at}

-- the entrant of a number, with what is kept of it
abbrev pub entrant_with : ℕ → KeptEntrant → Entrant
entrant_with n s = record { number = n; values = s.row }

-- the entrants of some lines
abbrev pub field_with : Rules → List (ℕ × KeptEntrant) → Field
field_with rules es = record { rules = rules; entrants = entrants_of es }

same_entrant : (n : ℕ) (line : ℕ × KeptEntrant) → nat_eq n line.0 ≡ true
    → entrant_of line ≡ entrant_with n line.1
same_entrant n line h = ap (λ m. entrant_with m line.1) (sym (eqb-true n line.0 h))

found_or : (n : ℕ) (line : ℕ × KeptEntrant) (b : Bool) (rest : Option Entrant)
    (others : Option KeptEntrant) → nat_eq n line.0 ≡ b → rest ≡ option_map (entrant_with n) others
    → cond b (Some (entrant_of line)) rest
    ≡ option_map (entrant_with n) (cond b (Some line.1) others)
found_or n line true rest others h e = ap Some (same_entrant n line h)
found_or n line false rest others h e = e

-- the entrant with a number, by the look-up of the number
pub entrant_at : (n : ℕ) (es : List (ℕ × KeptEntrant))
    → find (has_number n) (entrants_of es) ≡ option_map (entrant_with n) (lookup (nat_eq n) es)
entrant_at n [] = refl
entrant_at n (e ∷ es) = found_or n e (nat_eq n e.0) _ _ refl (entrant_at n es)

any_or : {X : Type 0} (b c : Bool) (x : X) (others : Option X) → c ≡ is_some others
    → (b || c) ≡ is_some (cond b (Some x) others)
any_or true c x others h = refl
any_or false c x others h = h

-- a number is entered where it is looked up
pub is_some_lookup : (n : ℕ) (es : List (ℕ × KeptEntrant))
    → list_any (has_number n) (entrants_of es) ≡ is_some (lookup (nat_eq n) es)
is_some_lookup n [] = refl
is_some_lookup n (e ∷ es) = any_or (nat_eq n e.0) _ e.1 _ (is_some_lookup n es)

-- nothing is there
pub none_from : {X : Type 0} (o : Option X) → is_some o ≡ false → o ≡ None
none_from None h = refl
none_from (Some x) h = absurd (false≢true (sym h))

-- Other values for one of them

-- nobody has the number
pub changed_nobody : (n : ℕ) (change : List Value → List Value) (es : List Entrant)
    → find (has_number n) es ≡ None → map (changed_of n change) es ≡ es
changed_nobody n change [] h = refl
changed_nobody n change (e ∷ es) h = step (has_number n e) h (changed_nobody n change es)
  where
    step : (b : Bool) → cond b (Some e) (find (has_number n) es) ≡ None
        → (find (has_number n) es ≡ None → map (changed_of n change) es ≡ es)
        → cond b (record e { values = change e.values }) e ∷ map (changed_of n change) es ≡ e ∷ es
    step true none later = cc
    step false none later = ap (λ xs. e ∷ xs) (later none)

-- no line has the number
abbrev HaveNot : ℕ → List (ℕ × KeptEntrant) → Type 0
HaveNot n es = AllByRecursion (λ k. nat_eq n k ≡ false) (keys_of es)

change_none : (n : ℕ) (change : List Value → List Value) (es : List (ℕ × KeptEntrant))
    → HaveNot n es → map (changed_of n change) (entrants_of es) ≡ entrants_of es
change_none n change [] h = refl
change_none n change (e ∷ es) h =
    let other : nat_eq n e.0 ≡ false = h.0 in
    rw other (ap (λ xs. entrant_of e ∷ xs) (change_none n change es h.1))

-- what holds of each number holds of the one at an index
key_at : (P : ℕ → Type 0) (es : List (ℕ × KeptEntrant)) (i n : ℕ) (s : KeptEntrant)
    → AllByRecursion P (keys_of es) → slice_get es i ≡ Some (n, s) → P n
key_at P es i n s h at =
    at_index P (keys_of es) i n (All-from_recursion P (keys_of es) h)
    (part_at (λ (x : ℕ × KeptEntrant). x.0) es i (n, s) at)

-- the values of the one line of a number are changed
change_at : (n : ℕ) (change : List Value → List Value) (es : List (ℕ × KeptEntrant)) (i : ℕ)
    (s : KeptEntrant) → IsDistinct nat_eq (keys_of es) → slice_get es i ≡ Some (n, s)
    → set_values_at (entrants_of es) i (change s.row) ≡ map (changed_of n change) (entrants_of es)
unfolding IsDistinct
change_at n change [] i s apart at = cc
change_at n change (x ∷ es) zero s apart at =
    let same : x ≡ (n, s) = cc in
    let number : x.0 ≡ n = ap (λ (y : ℕ × KeptEntrant). y.0) same in
    let here : nat_eq n x.0 ≡ true = eq-eqb n x.0 (sym number) in
    let values : change s.row ≡ change x.1.row =
    ap (λ (y : ℕ × KeptEntrant). change y.1.row) (sym same) in
    rw (here, values) (ap (λ xs. record { number = x.0; values = change x.1.row } ∷ xs)
    (sym (change_none n change es (subst (λ m. HaveNot m es) number apart.0))))
change_at n change (x ∷ es) (suc i) s apart at =
    let other : nat_eq x.0 n ≡ false = key_at (λ k. nat_eq x.0 k ≡ false) es i n s apart.0 at in
    let here : nat_eq n x.0 ≡ false = grind (arith, nat_tests) in
    rw here (ap (λ xs. entrant_of x ∷ xs) (change_at n change es i s apart.1 at))

-- The others, once one of them has left

-- no line has the number: all stay
keep_all : (n : ℕ) (es : List (ℕ × KeptEntrant)) → HaveNot n es
    → filter (λ e. not (has_number n e)) (entrants_of es) ≡ entrants_of es
keep_all n [] h = refl
keep_all n (e ∷ es) h =
    let other : nat_eq n e.0 ≡ false = h.0 in
    rw other (ap (λ xs. entrant_of e ∷ xs) (keep_all n es h.1))

-- the one line of a number is taken out
left_at : (n : ℕ) (es : List (ℕ × KeptEntrant)) (i : ℕ) (s : KeptEntrant)
    → IsDistinct nat_eq (keys_of es) → slice_get es i ≡ Some (n, s)
    → remove (entrants_of es) i ≡ filter (λ e. not (has_number n e)) (entrants_of es)
unfolding IsDistinct
left_at n [] i s apart at = cc
left_at n (x ∷ es) zero s apart at =
    let same : x ≡ (n, s) = cc in
    let number : x.0 ≡ n = ap (λ (y : ℕ × KeptEntrant). y.0) same in
    let here : nat_eq n x.0 ≡ true = eq-eqb n x.0 (sym number) in
    rw here (sym (keep_all n es (subst (λ m. HaveNot m es) number apart.0)))
left_at n (x ∷ es) (suc i) s apart at =
    let other : nat_eq x.0 n ≡ false = key_at (λ k. nat_eq x.0 k ≡ false) es i n s apart.0 at in
    let here : nat_eq n x.0 ≡ false = grind (arith, nat_tests) in
    rw here (ap (λ xs. entrant_of x ∷ xs) (left_at n es i s apart.1 at))

-- what is at an index within
pub get_some : {X : Type 0} (xs : List X) (i : ℕ) → i < length xs
    → (x : X) × (slice_get xs i ≡ Some x)
get_some [] i h = absurd (omega arith)
get_some (x ∷ xs) zero h = (x, refl)
get_some (x ∷ xs) (suc i) h = get_some xs i (omega arith)

-- what a position among the numbers says of the entrants
pub index_says : (rules : Rules) (n : ℕ) (es : List (ℕ × KeptEntrant))
    → IsCutoff rules.format rules.cutoff → IsDistinct nat_eq (keys_of es)
    → All (IsAllotted rules) es → All (IsRanged rules) es
    → MatchOption (position (nat_eq n) (keys_of es)) (find (has_number n) (entrants_of es) ≡ None)
    (IsEntrantAt n (field_with rules es))
index_says rules n es cutoff distinct few ranged = tell (position (nat_eq n) (keys_of es)) refl
  where
    tell : (o : Option ℕ) → position (nat_eq n) (keys_of es) ≡ o
        → MatchOption o (find (has_number n) (entrants_of es) ≡ None)
        (IsEntrantAt n (field_with rules es))
    tell None p =
        entrant_at n es ∙ ap (option_map (entrant_with n)) (Missing-position (nat_eq n) es p).value
    tell (Some i) p =
        let f = Found-position (nat_eq n) es i p in
        let got = get_some es i f.within in
        let number : n ≡ got.0.0 =
        eqb-true n got.0.0 (lookup_key_passes (nat_eq n) es got.0.0
        (f.key ∙ part_at (λ (x : ℕ × KeptEntrant). x.0) es i got.0 got.1)) in
        let line : slice_get es i ≡ Some (n, got.0.1) = got.1
        ∙ ap (λ k. Some (k, got.0.1)) (sym number) in
        record {
          entrant = entrant_with n got.0.1;
          within = omega (arith, f.within, length-map es entrant_of);
          there = part_at entrant_of es i (n, got.0.1) line;
          found =
              entrant_at n es
              ∙ ap (option_map (entrant_with n))
              (f.value ∙ part_at (λ (x : ℕ × KeptEntrant). x.1) es i got.0 got.1);
          cutoff = cutoff;
          few = at_index (IsAllotted rules) es i (n, got.0.1) few line;
          ranged = at_index (IsRanged rules) es i (n, got.0.1) ranged line;
          changed = λ change. change_at n change es i got.0.1 distinct line;
          left = left_at n es i got.0.1 distinct line;
        }

-- what is read at an index are the values of the entrant there
pub row_there : (es : List (ℕ × KeptEntrant)) (i : ℕ) (s : KeptEntrant) (e : Entrant)
    → slice_get (values_of es) i ≡ Some s → slice_get (entrants_of es) i ≡ Some e → s.row ≡ e.values
row_there es i s e read at =
    let line = line_read es i s read in
    let same : Some (entrant_of (line.0, s)) ≡ Some e =
    sym (part_at entrant_of es i (line.0, s) line.1) ∙ at in
    ap (λ (y : Entrant). y.values) (same_Some (entrant_of (line.0, s)) e same)

-- What is kept of one of them

-- the place by the keys that are kept is the place by the values
pub place_is : (rules : Rules) (es : List (ℕ × KeptEntrant)) (vs : List Value) (n : ℕ)
    → All (IsMade rules) es → place_among (values_of es) (key_of rules.format rules.unit vs)
    ≡ place (as_table false (field_with rules es)) (record { number = n; values = vs })
place_is rules es vs n made =
    let k = key_of rules.format rules.unit vs in
    ap (λ m. 1 + m)
    (count_along (λ (e : ℕ × KeptEntrant). e.1) (λ s. is_better s.kept.key k) entrant_of
    (λ e. is_better (key_of rules.format rules.unit e.values) k) es
    (λ i d h. ap (λ (x : EntrantResult). is_better x.key k) (made i d h)))

-- what holds of each line holds of the one that is looked up
pub found_holds : (P : ℕ × KeptEntrant → Type 0) (n : ℕ) (es : List (ℕ × KeptEntrant))
    (s : KeptEntrant) → AllByRecursion P es → lookup (nat_eq n) es ≡ Some s → P (n, s)
found_holds P n [] s h is = cc
found_holds P n (e ∷ es) s h is = here (nat_eq n e.0) refl is (found_holds P n es s h.1)
  where
    here : (b : Bool) → nat_eq n e.0 ≡ b → cond b (Some e.1) (lookup (nat_eq n) es) ≡ Some s
        → (lookup (nat_eq n) es ≡ Some s → P (n, s)) → P (n, s)
    here true same at later =
        let one : e.1 ≡ s = cc in
        subst (λ m. P (m, s)) (sym (eqb-true n e.0 same)) (subst (λ x. P (e.0, x)) one h.0)
    here false same at later = later at

-- what is kept of the one that is looked up
pub kept_is : (rules : Rules) (n : ℕ) (es : List (ℕ × KeptEntrant)) (s : KeptEntrant)
    → All (IsMade rules) es → All (IsPlaced (values_of es)) es → lookup (nat_eq n) es ≡ Some s
    → s.kept ≡ kept_of rules s.row (place (as_table false (field_with rules es)) (entrant_with n s))
kept_is rules n es s made placed is =
    let own = found_holds (IsMade rules) n es s (recursion_from_All (IsMade rules) es made) is in
    let at =
    found_holds (IsPlaced (values_of es)) n es s
    (recursion_from_All (IsPlaced (values_of es)) es placed) is in
    own
    ∙ ap (kept_of rules s.row)
    (at ∙ ap (λ k. place_among (values_of es) k.key) own ∙ place_is rules es s.row n made)

-- a look-up, as the table sees it
pub kept_entrant_at : (rules : Rules) (n : ℕ) (es : List (ℕ × KeptEntrant))
    (r : Option (Bor KeptEntrant)) → All (IsMade rules) es → All (IsPlaced (values_of es)) es
    → option_copied r ≡ lookup (nat_eq n) es
    → MatchOption r (find (has_number n) (entrants_of es) ≡ None)
    (λ s. (e : Entrant) × IsKeptEntrantOf (field_with rules es) n e s.now)
kept_entrant_at rules n es None made placed is =
    entrant_at n es ∙ ap (option_map (entrant_with n)) (sym is)
kept_entrant_at rules n es (Some s) made placed is = (
  entrant_with n s.now,
  record {
    found = entrant_at n es ∙ ap (option_map (entrant_with n)) (sym is);
    row = refl;
    kept = kept_is rules n es s.now made placed (sym is);
  },
)

pub ruleset lines = is_some_lookup
