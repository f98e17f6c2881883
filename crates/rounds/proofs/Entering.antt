-- One entrant more: what is kept stays true.
use Rattle.std.proofs.Common.{◌≡◌, ℕ, ◌+◌, ◌<◌, ◌≤◌, Bool, true, false, cond, ◌&&◌, List, [], ◌∷◌}
use Rattle.std.proofs.Common.{◌++◌, length, All, count_by, nat_lt, Option, None, Some, refl, sym}
use Rattle.std.proofs.Common.{ap, ◌∙◌, arith, subst, length-append}
use Rattle.std.specs.{List.list_any, Map.values_of}
use Rattle.std.proofs.lemmas.{Bool.Decides.nat_tests, List.Sums.sum_by_push, List.map_push}
use Rattle.std.proofs.lemmas.List.Elements.{All-push, All-nil, All-weaker}
use Rattle.attempts.specs.declared.Value.{Value, TheVariants.Dns}
use Rattle.attempts.specs.Attempts.{IsInRangeOf}
use Rattle.formats.specs.declared.events.Format.{Format, TheVariants.Ao5, TheVariants.Mo3}
use Rattle.formats.specs.{Events.attempts_of, Results.is_better, Results.is_same}
use Rattle.formats.specs.declared.results.{RankKey.RankKey, Averaged.TheVariants.Missing}
use Rattle.rounds.specs.declared.{rules.Rules.Rules, kept.EntrantResult.EntrantResult}
use Rattle.rounds.specs.declared.kept_entrant.KeptEntrant.{KeptEntrant}
use Rattle.rounds.specs.Tables.{IsCutoff, allotted, meets, is_started_attempt}
use Rattle.rounds.specs.model.PackedKeys.{HasPackedKey, HasRoom, packed_key_of}
use Rattle.rounds.specs.model.KeptEntrants.{kept_of, one_if, is_unfinished, place_among}
use Rattle.rounds.specs.model.UpToDate.{no_result, IsMade, IsPlaced, IsAllotted, IsRanged}
use Rattle.rounds.specs.model.UpToDate.{AreUpToDate, IsNewcomer}

-- nobody without a result is better than anyone
pub none_better : (k : RankKey) → is_better no_result k ≡ false
none_better k = step (is_same None k.main)
  where
    step : (b : Bool) → (b && false) ≡ false
    step true = refl
    step false = refl

some_attempts : (format : Format) → 0 < attempts_of format
some_attempts Ao5 = omega arith
some_attempts _ = omega arith

pub some_allotted : (format : Format) (cutoff : Option (ℕ × ℕ)) → IsCutoff format cutoff
    → 0 < allotted format cutoff []
some_allotted format None is = some_attempts format
some_allotted format (Some cutoff) is = step (meets cutoff [])
  where
    step : (b : Bool) → 0 < cond b (attempts_of format) cutoff.0
    step true = some_attempts format
    step false = omega (arith, is.0)

pub less_than : (m : ℕ) → 0 < m → nat_lt 0 m ≡ true
less_than m h = grind (arith, nat_tests)

-- a count with one more
count_push : (p : KeptEntrant → Bool) (es : List (ℕ × KeptEntrant)) (n : ℕ) (s : KeptEntrant)
    → count_by p (values_of (es ++ (n, s) ∷ [])) ≡ count_by p (values_of es) + one_if (p s)
count_push p es n s =
    ap (count_by p) (map_push (λ (e : ℕ × KeptEntrant). e.1) es (n, s))
    ∙ sum_by_push (λ x. one_if (p x)) (values_of es) s

-- who is not counted changes no count
count_push_none : (p : KeptEntrant → Bool) (es : List (ℕ × KeptEntrant)) (n : ℕ) (s : KeptEntrant)
    → p s ≡ false → count_by p (values_of (es ++ (n, s) ∷ [])) ≡ count_by p (values_of es)
count_push_none p es n s not = omega (arith, count_push p es n s, ap one_if not)

count_push_one : (p : KeptEntrant → Bool) (es : List (ℕ × KeptEntrant)) (n : ℕ) (s : KeptEntrant)
    → p s ≡ true → count_by p (values_of (es ++ (n, s) ∷ [])) ≡ count_by p (values_of es) + 1
count_push_one p es n s is = omega (arith, count_push p es n s, ap one_if is)

module _ (rules : Rules) (es : List (ℕ × KeptEntrant)) (n : ℕ) (s : KeptEntrant)
    (new : s.kept.key ≡ no_result) where
  place_stays : (k : RankKey)
      → place_among (values_of (es ++ (n, s) ∷ [])) k ≡ place_among (values_of es) k
  place_stays k =
      ap (λ m. 1 + m) (count_push_none (λ x. is_better x.kept.key k) es n s
      (ap (λ x. is_better x k) new ∙ none_better k))

  pub up_to_date_entered : (started unfinished with_result : ℕ)
      → AreUpToDate rules es started unfinished with_result
      → length es < 999 → s.row ≡ [] → s.kept ≡ kept_of rules s.row s.kept.place
      → s.kept.place ≡ with_result + 1 → HasPackedKey (n, s)
      → AreUpToDate rules (es ++ (n, s) ∷ []) started (unfinished + 1) with_result
  up_to_date_entered started unfinished with_result before room none own is_place has_packed_key =
      record {
        few = omega (arith, room, length-append es ((n, s) ∷ []));
        cutoff = before.cutoff;
        format = before.format;
        made = All-push (IsMade rules) es (n, s) before.made own;
        placed = All-push (IsPlaced (values_of (es ++ (n, s) ∷ []))) es (n, s)
            (All-weaker (IsPlaced (values_of es)) (IsPlaced (values_of (es ++ (n, s) ∷ [])))
            (λ x h. h ∙ sym (place_stays x.1.kept.key)) es before.placed)
            (let counts_results : with_result + 1 ≡ place_among (values_of es) no_result =
            omega (arith, before.counts_results) in
            is_place ∙ counts_results ∙ ap (place_among (values_of es)) (sym new)
            ∙ sym (place_stays s.kept.key));
        within =
            All-push (IsAllotted rules) es (n, s) before.within
            (subst (λ vs. length vs ≤ allotted rules.format rules.cutoff vs) (sym none)
            (omega arith));
        ranged =
            All-push (IsRanged rules) es (n, s) before.ranged
            (subst (λ vs. All (IsInRangeOf rules.unit) vs) (sym none)
            (All-nil (IsInRangeOf rules.unit)));
        ordered = All-push HasPackedKey es (n, s) before.ordered has_packed_key;
        counts_started =
            before.counts_started
            ∙ sym (count_push_none (λ x. list_any is_started_attempt x.row) es n s
            (ap (list_any is_started_attempt) none));
        counts_unfinished =
            (let few : nat_lt 0 (allotted rules.format rules.cutoff []) ≡ true =
            less_than (allotted rules.format rules.cutoff [])
            (some_allotted rules.format rules.cutoff before.cutoff) in
            ap (λ m. m + 1) before.counts_unfinished
            ∙ sym (count_push_one (λ x. is_unfinished rules x.row) es n s
            (ap (is_unfinished rules) none ∙ few)));
        counts_results =
            before.counts_results
            ∙ sym (count_push_none (λ x. is_better x.kept.key no_result) es n s
            (ap (λ x. is_better x no_result) new ∙ none_better no_result));
      }

-- what no values make
abbrev pub none_kept : ℕ → EntrantResult
none_kept place = record { best = Dns; average = Missing; key = no_result; place = place }

pub own_of_none : (rules : Rules) (vs : List Value) (place : ℕ) → vs ≡ []
    → none_kept place ≡ kept_of rules vs place
own_of_none rules vs place none =
    subst (λ ws. none_kept place ≡ kept_of rules ws place) (sym none) (by rules.format refl)
  where
    by : (format : Format) → rules.format ≡ format → none_kept place ≡ kept_of rules [] place
    by Ao5 is = rw is refl
    by Mo3 is = rw is refl
    by _ is = rw is refl

-- no values have no key
pub no_key : (rules : Rules) (place : ℕ) → (kept_of rules [] place).key ≡ no_result
no_key rules place = ap (λ (k : EntrantResult). k.key) (sym (own_of_none rules [] place refl))

-- one without attempts more
pub up_to_date_newcomer : (rules : Rules) (es : List (ℕ × KeptEntrant)) (n : ℕ) (s : KeptEntrant)
    (started unfinished with_result : ℕ)
    → AreUpToDate rules es started unfinished with_result → length es < 999
    → IsNewcomer (with_result + 1) s
    → AreUpToDate rules (es ++ (n, s) ∷ []) started (unfinished + 1) with_result
up_to_date_newcomer rules es n s started unfinished with_result before room new =
    let at : s.kept.place ≡ with_result + 1 = ap (λ (k : EntrantResult). k.place) new.kept in
    let key : s.kept.key ≡ no_result = ap (λ (k : EntrantResult). k.key) new.kept in
    up_to_date_entered rules es n s key started unfinished with_result before room new.row
    (new.kept ∙ own_of_none rules s.row (with_result + 1) new.row
    ∙ ap (kept_of rules s.row) (sym at)) at (record {
      packed_key = new.packed_key ∙ ap packed_key_of (sym key);
      room = subst HasRoom (sym key) new.room;
    })
