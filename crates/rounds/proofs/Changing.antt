-- One entrant has other values: what is kept stays true.
use Rattle.std.proofs.Common.{◌≡◌, ◌+◌, ◌≤◌, [], ◌∷◌, map, All, Some, zero, suc, refl, sym, ap, ◌∙◌}
use Rattle.std.proofs.Common.{ℕ, Bool, false, List, length, count_by, slice_get, arith, subst}
use Rattle.std.proofs.Common.{get_or}
use Rattle.std.specs.{List.list_any, List.AllByRecursion, Map.values_of}
use Rattle.std.proofs.lemmas.{List.length-map, List.Elements.All-weaker, Simd.map-map}
use Rattle.std.proofs.lemmas.List.Elements.{All-from_recursion, recursion_from_All, All-map}
use Rattle.attempts.specs.{declared.Value.Value, Attempts.IsInRangeOf}
use Rattle.formats.specs.{declared.results.RankKey.RankKey, Results.is_better}
use Rattle.indexmap.specs.IndexMap.{set_value_at}
use Rattle.rounds.specs.declared.{rules.Rules.Rules, kept.EntrantResult.EntrantResult}
use Rattle.rounds.specs.{declared.kept_entrant.KeptEntrant.KeptEntrant, model.KeptEntrants.passed}
use Rattle.rounds.specs.Tables.{allotted, is_started_attempt, has_started, started}
use Rattle.rounds.specs.model.Field.{as_table, set_values_at, with_values_at}
use Rattle.rounds.specs.model.{PackedKeys.HasPackedKey, KeptEntrants.is_unfinished}
use Rattle.rounds.specs.model.KeptEntrants.{place_among, kept_of, one_if, recounted, passed_by}
use Rattle.rounds.specs.model.UpToDate.{entrant_of, entrants_of, no_result, IsMade, IsPlaced}
use Rattle.rounds.specs.model.UpToDate.{IsAllotted, IsRanged, AreUpToDate}
use Rattle.rounds.proofs.{CutoffOrder.not_better, EntrantLines.field_with, KeyOrder.count_along}
use Rattle.rounds.proofs.Passing.{part_at, recounts, is_counted_in, line_read}

-- another line at an index
pub set_all : (P : ℕ × KeptEntrant → Type 0) (es : List (ℕ × KeptEntrant)) (i : ℕ) (s : KeptEntrant)
    → All P es → ((n : ℕ) → P (n, s)) → All P (set_value_at es i s)
set_all P es i s h is = All-from_recursion P _ (put es i (recursion_from_All P es h))
  where
    put : (xs : List (ℕ × KeptEntrant)) (j : ℕ) → AllByRecursion P xs
        → AllByRecursion P (set_value_at xs j s)
    put [] j h = h
    put (x ∷ xs) zero h = (is x.0, h.1)
    put (x ∷ xs) (suc j) h = (h.0, put xs j h.1)

length-set_value_at : (es : List (ℕ × KeptEntrant)) (i : ℕ) (s : KeptEntrant)
    → length (set_value_at es i s) ≡ length es
length-set_value_at [] i s = refl
length-set_value_at (e ∷ es) zero s = refl
length-set_value_at (e ∷ es) (suc i) s = ap suc (length-set_value_at es i s)

-- The entrants

rows_set : (es : List (ℕ × KeptEntrant)) (i : ℕ) (s : KeptEntrant)
    → entrants_of (set_value_at es i s) ≡ set_values_at (entrants_of es) i s.row
rows_set [] i s = refl
rows_set (e ∷ es) zero s = refl
rows_set (e ∷ es) (suc i) s = ap (λ xs. entrant_of e ∷ xs) (rows_set es i s)

pub rows_changed : (old new : RankKey) (es : List (ℕ × KeptEntrant)) (i : ℕ) (s : KeptEntrant)
    → entrants_of (set_value_at (map (passed_by old new) es) i s)
    ≡ set_values_at (entrants_of es) i s.row
rows_changed old new es i s =
    rows_set (map (passed_by old new) es) i s
    ∙ ap (λ xs. set_values_at xs i s.row) (map-map entrant_of (passed_by old new) es)

-- The counts

-- a count that does not go by places
count_passed : (p : KeptEntrant → Bool) (old new : RankKey)
    → ((s : KeptEntrant) → p (passed old new s) ≡ p s) → (es : List (ℕ × KeptEntrant))
    → count_by p (values_of (map (passed_by old new) es)) ≡ count_by p (values_of es)
count_passed p old new same es =
    ap (count_by p) (map-map (λ (e : ℕ × KeptEntrant). e.1) (passed_by old new) es)
    ∙ count_along (λ (e : ℕ × KeptEntrant). passed old new e.1) p (λ e. e.1) p es
    (λ i d h. same (get_or es i d).1)

-- a count over all, once one of them changed and passed the others
pub counts_after : (p : KeptEntrant → Bool) (old new : RankKey)
    → ((s : KeptEntrant) → p (passed old new s) ≡ p s)
    → (es : List (ℕ × KeptEntrant)) (i : ℕ) (e : ℕ × KeptEntrant) (s : KeptEntrant) → slice_get es i
    ≡ Some e → count_by p (values_of (set_value_at (map (passed_by old new) es) i s))
    ≡ recounted (count_by p (values_of es)) (p e.1) (p s)
counts_after p old new same es i e s at =
    recounts p (map (passed_by old new) es) i (passed_by old new e) s
    (part_at (passed_by old new) es i e at)
    ∙ ap (λ m. recounted m (p (passed old new e.1)) (p s)) (count_passed p old new same es)
    ∙ ap (λ b. recounted (count_by p (values_of es)) b (p s)) (same e.1)

-- how many have started, by what is kept
started_is : (es : List (ℕ × KeptEntrant))
    → count_by (λ s. list_any is_started_attempt s.row) (values_of es)
    ≡ count_by has_started (entrants_of es)
started_is es =
    count_along (λ (e : ℕ × KeptEntrant). e.1) (λ s. list_any is_started_attempt s.row) entrant_of
    has_started es (λ i d h. refl)

-- how many have started, once one of them has other values
pub started_after : (rules : Rules) (es : List (ℕ × KeptEntrant)) (i : ℕ) (e : ℕ × KeptEntrant)
    (vs : List Value) → slice_get es i ≡ Some e → (n : ℕ)
    → n ≡ count_by (λ s. list_any is_started_attempt s.row) (values_of es)
    → recounted n (list_any is_started_attempt e.1.row) (list_any is_started_attempt vs)
    ≡ started (as_table false (with_values_at (field_with rules es) i vs))
started_after rules es i e vs at n is =
    let after : KeptEntrant = record e.1 { row = vs } in
    ap (λ m. recounted m (list_any is_started_attempt e.1.row) (list_any is_started_attempt vs)) is
    ∙ sym (recounts (λ s. list_any is_started_attempt s.row) es i e after at)
    ∙ started_is (set_value_at es i after)
    ∙ ap (count_by has_started) (rows_set es i after)

-- The places

recounted_place : (n : ℕ) (before after : Bool) → one_if before ≤ n
    → recounted (1 + n) before after ≡ 1 + recounted n before after
recounted_place n before after h = omega (arith, h)

module _ (rules : Rules) (es : List (ℕ × KeptEntrant)) (i : ℕ) (e : ℕ × KeptEntrant)
    (at : slice_get es i ≡ Some e) (s : KeptEntrant) where
  abbrev old_key : RankKey
  old_key = e.1.kept.key

  abbrev new_key : RankKey
  new_key = s.kept.key

  -- the lines after the change
  abbrev pub changed_lines : List (ℕ × KeptEntrant)
  changed_lines = set_value_at (map (passed_by old_key new_key) es) i s

  place_after : (k : RankKey) → place_among (values_of changed_lines) k
      ≡ recounted (place_among (values_of es) k) (is_better old_key k) (is_better new_key k)
  place_after k =
      ap (λ m. 1 + m)
      (counts_after (λ x. is_better x.kept.key k) old_key new_key (λ x. refl) es i e s at)
      ∙ sym (recounted_place _ (is_better old_key k) (is_better new_key k)
      (is_counted_in (λ x. is_better x.kept.key k) es i e at))

  -- what holds of each line after the change
  each_after : (P Q : ℕ × KeptEntrant → Type 0)
      → ((x : ℕ × KeptEntrant) → P x → Q (passed_by old_key new_key x))
      → All P es → ((n : ℕ) → Q (n, s)) → All Q changed_lines
  each_after P Q step h own =
      set_all Q (map (passed_by old_key new_key) es) i s (All-map Q (passed_by old_key new_key) es
      (All-weaker P (λ x. Q (passed_by old_key new_key x)) step es h)) own

  -- what is kept stays true
  pub up_to_date_after : (started unfinished with_result ahead : ℕ)
      → AreUpToDate rules es started unfinished with_result
      → length s.row ≤ allotted rules.format rules.cutoff s.row → All (IsInRangeOf rules.unit) s.row
      → s.kept ≡ kept_of rules s.row s.kept.place
      → ahead ≡ count_by (λ x. is_better x.kept.key new_key) (values_of es)
      → s.kept.place ≡ 1 + recounted ahead (is_better old_key new_key) false
      → ((n : ℕ) → HasPackedKey (n, s)) → AreUpToDate rules changed_lines
      (recounted started (list_any is_started_attempt e.1.row) (list_any is_started_attempt s.row))
      (recounted unfinished (is_unfinished rules e.1.row) (is_unfinished rules s.row))
      (recounted with_result (is_better old_key no_result) (is_better new_key no_result))
  up_to_date_after started unfinished with_result ahead before few in_range own is_ahead is_place
      has_packed_key =
      record {
        few =
            omega (
              arith,
              before.few,
              length-set_value_at (map (passed_by old_key new_key) es) i s,
              length-map es (passed_by old_key new_key),
            );
        cutoff = before.cutoff;
        format = before.format;
        made =
            each_after (IsMade rules) (IsMade rules) (λ x h.
            ap (λ (k : EntrantResult).
            record k {
              place =
                  recounted x.1.kept.place (is_better old_key x.1.kept.key)
                  (is_better new_key x.1.kept.key);
            })
            h)
            before.made (λ n. own);
        placed =
            each_after (IsPlaced (values_of es)) (IsPlaced (values_of changed_lines)) (λ x h.
            ap (λ m. recounted m (is_better old_key x.1.kept.key) (is_better new_key x.1.kept.key)) h
            ∙ sym (place_after x.1.kept.key)) before.placed (λ n.
            is_place
            ∙ ap (λ m. 1 + recounted m (is_better old_key new_key) false) is_ahead
            ∙ ap (λ b.
            1 + recounted (count_by (λ x. is_better x.kept.key new_key) (values_of es))
            (is_better old_key new_key) b) (sym (not_better new_key))
            ∙ ap (λ m. 1 + m) (sym
            (counts_after (λ x. is_better x.kept.key new_key) old_key new_key (λ x. refl) es i e s
            at)));
        within = each_after (IsAllotted rules) (IsAllotted rules) (λ x h. h) before.within (λ n. few);
        ranged =
            each_after (IsRanged rules) (IsRanged rules) (λ x h. h) before.ranged (λ n. in_range);
        ordered =
            each_after HasPackedKey HasPackedKey
            (λ x h. record { packed_key = h.packed_key; room = h.room }) before.ordered
            has_packed_key;
        counts_started =
            ap (λ m.
            recounted m (list_any is_started_attempt e.1.row) (list_any is_started_attempt s.row))
            before.counts_started
            ∙ sym
            (counts_after (λ x. list_any is_started_attempt x.row) old_key new_key (λ x. refl) es i
            e s at);
        counts_unfinished =
            ap (λ m. recounted m (is_unfinished rules e.1.row) (is_unfinished rules s.row))
            before.counts_unfinished
            ∙ sym
            (counts_after (λ x. is_unfinished rules x.row) old_key new_key (λ x. refl) es i e s at);
        counts_results =
            ap (λ m. recounted m (is_better old_key no_result) (is_better new_key no_result))
            before.counts_results
            ∙ sym
            (counts_after (λ x. is_better x.kept.key no_result) old_key new_key (λ x. refl) es i e s
            at);
      }

-- What a call read and worked out

-- who is counted is in the count
pub is_in_count : (p : KeptEntrant → Bool) (es : List (ℕ × KeptEntrant)) (i : ℕ) (s : KeptEntrant)
    → slice_get (values_of es) i ≡ Some s → (b : Bool) (n : ℕ) → b ≡ p s
    → n ≡ count_by p (values_of es) → one_if b ≤ n
is_in_count p es i s at b n test is =
    let line = line_read es i s at in
    omega (arith, ap one_if test, is, is_counted_in p es i (line.0, s) line.1)

pub recounted_same : (n : ℕ) (a b x y : Bool) → a ≡ x → b ≡ y → (r : ℕ) → r ≡ recounted n a b
    → recounted n x y ≡ r
recounted_same n a b x y one other r is =
    sym (is ∙ ap (λ z. recounted n z b) one ∙ ap (recounted n x) other)

pub up_to_date_same : (rules : Rules) (es es' : List (ℕ × KeptEntrant)) (st st' un un' ra ra' : ℕ)
    → es ≡ es' → st ≡ st' → un ≡ un' → ra ≡ ra' → AreUpToDate rules es st un ra
    → AreUpToDate rules es' st' un' ra'
up_to_date_same rules es es' st st' un un' ra ra' lines a b c h =
    subst (λ x. AreUpToDate rules x st' un' ra') lines
    (subst (λ x. AreUpToDate rules es x un' ra') a
    (subst (λ x. AreUpToDate rules es st x ra') b (subst (λ x. AreUpToDate rules es st un x) c h)))
