-- An entrant without attempts leaves, or a round without attempts has other rules: what is kept
-- stays true.
use Rattle.std.proofs.Common.{◌≡◌, ℕ, ◌+◌, ◌-◌, ◌≤◌, nat_le, Bool, true, false, ◌||◌, List, [], ◌∷◌}
use Rattle.std.proofs.Common.{length, All, count_by, Some, slice_get, remove, zero, suc, refl, sym}
use Rattle.std.proofs.Common.{ap, ◌∙◌, arith, subst, get_or}
use Rattle.std.specs.{List.list_any, List.AllByRecursion, Map.values_of}
use Rattle.std.proofs.lemmas.Bool.{false≢true}
use Rattle.std.proofs.lemmas.{Bool.Decides.nat_tests, List.Edits.length-remove}
use Rattle.std.proofs.lemmas.List.Elements.{All-from_recursion, All-nil, All-weaker, All-tail}
use Rattle.attempts.specs.{declared.Value.Value, Attempts.IsInRangeOf}
use Rattle.formats.specs.{declared.results.RankKey.RankKey, Results.IsFormatOf, Results.is_better}
use Rattle.rounds.specs.declared.{rules.Rules.Rules, kept.EntrantResult.EntrantResult}
use Rattle.rounds.specs.{declared.kept_entrant.KeptEntrant.KeptEntrant, model.UpToDate.AreUpToDate}
use Rattle.rounds.proofs.KeyOrder.{at_index, counts, count_along}
use Rattle.rounds.specs.Tables.{Entrant, IsCutoff, allotted, has_done, is_started_attempt}
use Rattle.rounds.specs.model.{PackedKeys.HasPackedKey, UpToDate.IsAllotted, UpToDate.IsRanged}
use Rattle.rounds.specs.model.KeptEntrants.{kept_of, one_if, is_unfinished, place_among}
use Rattle.rounds.specs.model.UpToDate.{entrant_of, entrants_of, no_result, IsMade, IsPlaced}
use Rattle.rounds.proofs.Entering.{none_better, some_allotted, less_than, own_of_none, no_key}
use Rattle.std.proofs.lemmas.List.Sorted.{All-permutation, IsPermutation-remove}
use Rattle.std.proofs.lemmas.Option.{slice_get_within, get_or_from_slice_get}

-- Without the line at an index

count_left : (p : KeptEntrant → Bool) (es : List (ℕ × KeptEntrant)) (i : ℕ) (e : ℕ × KeptEntrant)
    → slice_get es i ≡ Some e
    → count_by p (values_of es) ≡ one_if (p e.1) + count_by p (values_of (remove es i))
count_left p [] i e at = cc
count_left p (x ∷ es) zero e at =
    let same : x ≡ e = cc in
    counts p x.1 (values_of es)
    ∙ ap (λ (y : ℕ × KeptEntrant). one_if (p y.1) + count_by p (values_of es)) same
count_left p (x ∷ es) (suc i) e at =
    omega (
      arith,
      counts p x.1 (values_of es),
      counts p x.1 (values_of (remove es i)),
      count_left p es i e at,
    )

-- who is not counted changes no count
count_left_none : (p : KeptEntrant → Bool) (es : List (ℕ × KeptEntrant)) (i : ℕ)
    (e : ℕ × KeptEntrant) → slice_get es i ≡ Some e → p e.1 ≡ false
    → count_by p (values_of es) ≡ count_by p (values_of (remove es i))
count_left_none p es i e at is = omega (arith, count_left p es i e at, ap one_if is)

module _ (rules : Rules) (es : List (ℕ × KeptEntrant)) (i : ℕ) (e : ℕ × KeptEntrant)
    (at : slice_get es i ≡ Some e) (none : e.1.row ≡ []) where
  no_key_there : All (IsMade rules) es → e.1.kept.key ≡ no_result
  no_key_there made =
      ap (λ (k : EntrantResult). k.key) (at_index (IsMade rules) es i e made at)
      ∙ ap (λ vs. (kept_of rules vs e.1.kept.place).key) none
      ∙ no_key rules e.1.kept.place

  -- what holds of each line holds of each that is left
  all_left : (P Q : ℕ × KeptEntrant → Type 0) → ((x : ℕ × KeptEntrant) → P x → Q x) → All P es
      → All Q (remove es i)
  all_left P Q step h =
      All-weaker P Q step (remove es i) (All-tail P e (remove es i)
      (All-permutation P es (e ∷ remove es i)
      (IsPermutation-remove es i e (slice_get_within es i e at)
      (sym (get_or_from_slice_get es i e e at))) h))

  pub up_to_date_left : (started unfinished with_result : ℕ)
      → AreUpToDate rules es started unfinished with_result
      → AreUpToDate rules (remove es i) started (unfinished - 1) with_result
  up_to_date_left started unfinished with_result before =
      let new = no_key_there before.made in
      let place_stays : (k : RankKey)
      → place_among (values_of es) k ≡ place_among (values_of (remove es i)) k =
      λ k. ap (λ m. 1 + m) (count_left_none (λ x. is_better x.kept.key k) es i e at
      (ap (λ x. is_better x k) new ∙ none_better k)) in
      record {
        few = omega (arith, before.few, length-remove es i (slice_get_within es i e at));
        cutoff = before.cutoff;
        format = before.format;
        made = all_left (IsMade rules) (IsMade rules) (λ x h. h) before.made;
        placed = all_left (IsPlaced (values_of es)) (IsPlaced (values_of (remove es i)))
            (λ x h. h ∙ place_stays x.1.kept.key) before.placed;
        within = all_left (IsAllotted rules) (IsAllotted rules) (λ x h. h) before.within;
        ranged = all_left (IsRanged rules) (IsRanged rules) (λ x h. h) before.ranged;
        ordered = all_left HasPackedKey HasPackedKey (λ x h. h) before.ordered;
        counts_started =
            before.counts_started
            ∙ count_left_none (λ x. list_any is_started_attempt x.row) es i e at
            (ap (list_any is_started_attempt) none);
        counts_unfinished =
            (let few : is_unfinished rules e.1.row ≡ true = ap (is_unfinished rules) none
            ∙ less_than (allotted rules.format rules.cutoff [])
            (some_allotted rules.format rules.cutoff before.cutoff) in
            omega (
              arith,
              before.counts_unfinished,
              count_left (λ x. is_unfinished rules x.row) es i e at,
              ap one_if few,
            ));
        counts_results =
            before.counts_results
            ∙ count_left_none (λ x. is_better x.kept.key no_result) es i e at
            (ap (λ x. is_better x no_result) new ∙ none_better no_result);
      }

-- who leaves is in the count of those who have not done all
pub one_unfinished : (rules : Rules) (es : List (ℕ × KeptEntrant)) (i : ℕ) (e : ℕ × KeptEntrant)
    (unfinished : ℕ) → slice_get es i ≡ Some e → e.1.row ≡ [] → IsCutoff rules.format rules.cutoff
    → unfinished ≡ count_by (λ s. is_unfinished rules s.row) (values_of es) → 1 ≤ unfinished
one_unfinished rules es i e unfinished at none cutoff is =
    let few : is_unfinished rules e.1.row ≡ true = ap (is_unfinished rules) none
    ∙ less_than (allotted rules.format rules.cutoff [])
    (some_allotted rules.format rules.cutoff cutoff) in
    omega (arith, is, count_left (λ x. is_unfinished rules x.row) es i e at, ap one_if few)

-- The entrants without the one at an index

pub entrants_left : (es : List (ℕ × KeptEntrant)) (i : ℕ)
    → entrants_of (remove es i) ≡ remove (entrants_of es) i
entrants_left [] zero = refl
entrants_left [] (suc i) = refl
entrants_left (x ∷ es) zero = refl
entrants_left (x ∷ es) (suc i) = ap (λ xs. entrant_of x ∷ xs) (entrants_left es i)

-- the line of an entrant at an index
pub line_of_entrant : (es : List (ℕ × KeptEntrant)) (i : ℕ) (e : Entrant)
    → slice_get (entrants_of es) i ≡ Some e
    → (line : ℕ × KeptEntrant) × (slice_get es i ≡ Some line) × (entrant_of line ≡ e)
line_of_entrant [] i e at = cc
line_of_entrant (x ∷ es) zero e at = (x, refl, cc)
line_of_entrant (x ∷ es) (suc i) e at = line_of_entrant es i e at

-- Other rules

module _ (rules other : Rules) (same : other.unit ≡ rules.unit) where
  -- no row has a value
  abbrev pub IsEmptyRow : ℕ × KeptEntrant → Type 0
  IsEmptyRow e = e.1.row ≡ []

  made_otherwise : (e : ℕ × KeptEntrant) → e.1.row ≡ [] → IsMade rules e → IsMade other e
  made_otherwise e none h =
      h ∙ sym (own_of_none rules e.1.row e.1.kept.place none)
      ∙ own_of_none other e.1.row e.1.kept.place none

  pub up_to_date_otherwise : (es : List (ℕ × KeptEntrant)) (started unfinished with_result : ℕ)
      → AllByRecursion IsEmptyRow es → IsCutoff other.format other.cutoff
      → IsFormatOf other.unit other.format → AreUpToDate rules es started unfinished with_result
      → AreUpToDate other es started unfinished with_result
  up_to_date_otherwise es started unfinished with_result none cutoff format before =
      let each = All-from_recursion IsEmptyRow es none in
      record {
        few = before.few;
        cutoff = cutoff;
        format = format;
        made = λ i d h. made_otherwise (get_or es i d) (each i d h) (before.made i d h);
        placed = before.placed;
        within = λ i d h.
            subst (λ vs. length vs ≤ allotted other.format other.cutoff vs) (sym (each i d h))
            (omega arith);
        ranged = λ i d h.
            subst (λ vs. All (IsInRangeOf other.unit) vs) (sym (each i d h))
            (All-nil (IsInRangeOf other.unit));
        ordered = before.ordered;
        counts_started = before.counts_started;
        counts_unfinished =
            before.counts_unfinished
            ∙ count_along (λ (e : ℕ × KeptEntrant). e.1) (λ s. is_unfinished rules s.row) (λ e. e.1)
            (λ s. is_unfinished other s.row) es (λ i d h.
            ap (is_unfinished rules) (each i d h)
            ∙ less_than (allotted rules.format rules.cutoff [])
            (some_allotted rules.format rules.cutoff before.cutoff)
            ∙ sym (ap (is_unfinished other) (each i d h)
            ∙ less_than (allotted other.format other.cutoff [])
            (some_allotted other.format other.cutoff cutoff)));
        counts_results = before.counts_results;
      }

-- where nobody has done an attempt, no row has a value
no_value : (vs : List Value) → nat_le 1 (length vs) ≡ false → vs ≡ []
no_value [] h = refl
no_value (v ∷ vs) h = absurd (grind (arith, nat_tests))

pub rows_empty : (es : List (ℕ × KeptEntrant)) → list_any (has_done 1) (entrants_of es) ≡ false
    → AllByRecursion (λ (e : ℕ × KeptEntrant). e.1.row ≡ []) es
rows_empty [] h = tt
rows_empty (x ∷ es) h = here (nat_le 1 (length x.1.row)) refl h (rows_empty es)
  where
    rest : Bool
    rest = list_any (has_done 1) (entrants_of es)

    here : (b : Bool) → nat_le 1 (length x.1.row) ≡ b → (b || rest) ≡ false
        → (rest ≡ false → AllByRecursion (λ (e : ℕ × KeptEntrant). e.1.row ≡ []) es)
        → AllByRecursion (λ (e : ℕ × KeptEntrant). e.1.row ≡ []) (x ∷ es)
    here true is h later = absurd (false≢true (sym h))
    here false is h later = (no_value x.1.row is, later h)

-- who has done an attempt, by the lines
pub any_done : (k : ℕ) (es : List (ℕ × KeptEntrant))
    → list_any (λ (s : KeptEntrant). nat_le k (length s.row)) (values_of es)
    ≡ list_any (has_done k) (entrants_of es)
any_done k [] = refl
any_done k (e ∷ es) = ap (λ b. nat_le k (length e.1.row) || b) (any_done k es)
