-- What the two queries give, and what they leave.
use Rattle.std.proofs.Common.{◌≡◌, inl, inr, ℕ, List, [], ◌∷◌, map, IsPermutation, false, IsTrue}
use Rattle.std.proofs.Common.{OnOk, IfErr, Result, Ok, Err, refl, sym, ap, subst, subst₂, ◌∙◌, ◌+◌}
use Rattle.std.proofs.Common.{◌<◌, length, arith, ap₂, IsSorted}
use Rattle.std.specs.{List.flat_map, List.AllByRecursion, Ordering.is_lt}
use Rattle.std.proofs.lemmas.List.{Sorted.IsPermutation-map, get_or-map, length-map}
use Rattle.sqlite.specs.{Order.Row, Order.column, declared.error.Error.Error, Listing.understood}
use Rattle.sqlite.specs.{Tree.Trees, Program.overlay, Command.Command, Table.Table}
use Rattle.sqlite.specs.{Term.Term, Term.eval_all, Term.Env, Term.col, Collation.TheVariants.Binary}
use Rattle.sqlite.specs.Query.{IsAnswer, Output, output, page}
use Rattle.sqlite_value.specs.declared.keys.Key.{Key}
use Rattle.sqlite.specs.State.{State, IsUnchanged, IsNotRun, FailsToQuery, Shown, CommitsShowing}
use Rattle.sqlite.proofs.Callers.{IsPlain, reads_as, never_commits}
use Rattle.acceptor.specs.declared.{entry.Entry.Entry, stored.Stored.Stored}
use Rattle.store.specs.{declared.home.Home.Home, Layout.store_schema, Kept.Keeps, Kept.Spares}
use Rattle.store.specs.{Layout.IsOurs, Holding.shown_desk, Holding.shown_entry, Holding.by_first}
use Rattle.sqlite_trees.proofs.ListLemmas.{all-permutation, all-get_or}
use Rattle.sqlite_sql.specs.Query.{Query, output_cmp, key_cmp}
use Rattle.store.proofs.{SqlTexts.desk_text, Saving.kept_unchanged, Saving.kept_back}
use Rattle.store.proofs.{SqlTexts.log_text, Texts.log_plain, Texts.log_listing, Texts.log_terms}
use Rattle.store.proofs.Texts.{sorted, desk_is, desk_plain, desk_listing, desk_terms, log_is}

-- every row of the table, shown by the terms, in some order
module _ (t : ℕ) (terms : List Term) (order : List (Term × Key)) (db : Trees) (params : Row) where
  each : (rows : List Row) → map (λ (o : Output). o.1)
      (map (output (sorted t terms order)) (flat_map (λ r. (params ∷ r ∷ []) ∷ []) rows))
      ≡ map (λ r. eval_all terms (params ∷ r ∷ [])) rows
  each [] = refl
  each (r ∷ more) = ap (λ rows. eval_all terms (params ∷ r ∷ []) ∷ rows) (each more)

  pub all_rows : (rows : List Row) → IsAnswer (sorted t terms order) (overlay db []) params rows
      → IsPermutation (map (λ r. eval_all terms (params ∷ r ∷ [])) (overlay db [] t)) rows
  all_rows rows a =
      let kept : a.kept ≡ map (output (sorted t terms order))
      (flat_map (λ r. (params ∷ r ∷ []) ∷ []) (overlay db [] t)) =
      a.distinct
      ∙ ap (map (output (sorted t terms order))) a.grouped in
      let same =
      IsPermutation-map (λ (o : Output). o.1) _ _
      (subst (λ k. IsPermutation k a.ordered) kept a.same) in
      subst₂ IsPermutation (each (overlay db [] t)) (sym a.shown) same

-- the log's rows go by their first column
abbrev log_query : Query
log_query = sorted 1 log_terms ((col 1 0, record { collation = Binary; descending = false }) ∷ [])

abbrev IsKeyed : Output → Type 0
IsKeyed o = o.0 ≡ column o.1 0 ∷ []

all_keyed : (rows : List Row)
    → AllByRecursion IsKeyed (map (output log_query) (flat_map (λ r. ([] ∷ r ∷ []) ∷ []) rows))
all_keyed [] = tt
all_keyed (r ∷ more) = (refl, all_keyed more)

in_order : (ordered : List Output) → AllByRecursion IsKeyed ordered
    → IsSorted (output_cmp log_query) ordered
    → IsSorted by_first (map (λ (o : Output). o.1) ordered)
in_order ordered all up k d low high =
    let within : k + 1 < length ordered =
    omega (arith, high, length-map ordered (λ (o : Output). o.1)) in
    let o : Output = (column d 0 ∷ [], d) in
    let next = get_or-map (λ (o : Output). o.1) ordered (k + 1) o d within in
    let here = get_or-map (λ (o : Output). o.1) ordered k o d (omega (arith, within)) in
    ap₂ (λ a b. is_lt (by_first a b)) next here
    ∙ ap₂
    (λ (a b : Row). is_lt (key_cmp 0 (record { collation = Binary; descending = false } ∷ []) a b))
    (sym (all-get_or IsKeyed ordered (k + 1) o all within))
    (sym (all-get_or IsKeyed ordered k o all (omega (arith, within))))
    ∙ up k o low within

log_sorted : (db : Trees) (rows : List Row) → IsAnswer log_query (overlay db []) [] rows
    → IsSorted by_first rows
log_sorted db rows a =
    let kept : a.kept
    ≡ map (output log_query) (flat_map (λ r. ([] ∷ r ∷ []) ∷ []) (overlay db [] 1)) = a.distinct
    ∙ ap (map (output log_query)) a.grouped in
    subst (IsSorted by_first) (sym a.shown) (in_order a.ordered (all-permutation IsKeyed _ _ a.same
    (subst (AllByRecursion IsKeyed) (sym kept) (all_keyed (overlay db [] 1)))) a.sorted)

unchanged : (sql : List ℕ) (params : Row) (old new : State) (rows : List Row)
    → IsPlain (understood old.now.schema sql) → Shown sql params old new rows → IsUnchanged old new
unfolding Shown
unchanged sql params old new rows plain h = (rw ((subst IsPlain h.1.is plain).0) at h.2).3

-- the rows of the desk, and of the log
pub desk_shown : (old new : State) (rows : List Row) → IsOurs old.now.schema
    → Shown desk_text [] old new rows
    → IsPermutation (map shown_desk (old.now.trees 0)) rows × IsUnchanged old new
desk_shown old new rows ours h =
    let plain = desk_plain ours.others ours.indexes ours.views in
    let read =
    reads_as desk_text [] old new (store_schema ours.others ours.indexes ours.views) ours.is _
    (desk_is ours.others ours.indexes ours.views) plain
    (desk_listing ours.others ours.indexes ours.views) rows h in (
      all_rows 0 desk_terms [] old.now.trees [] rows
          (read.answer Rattle.sqlite.specs.declared.types.Value.TheVariants.Null),
      unchanged desk_text [] old new rows
          (subst (λ s. IsPlain (understood s desk_text)) (sym ours.is) plain) h,
    )

pub log_shown : (old new : State) (rows : List Row) → IsOurs old.now.schema
    → Shown log_text [] old new rows
    → IsPermutation (map shown_entry (old.now.trees 1)) rows × IsUnchanged old new
    × IsSorted by_first rows
log_shown old new rows ours h =
    let plain = log_plain ours.others ours.indexes ours.views in
    let read =
    reads_as log_text [] old new (store_schema ours.others ours.indexes ours.views) ours.is _
    (log_is ours.others ours.indexes ours.views) plain
    (log_listing ours.others ours.indexes ours.views) rows h in (
      all_rows 1 log_terms _ old.now.trees [] rows
          (read.answer Rattle.sqlite.specs.declared.types.Value.TheVariants.Null),
      unchanged log_text [] old new rows
          (subst (λ s. IsPlain (understood s log_text)) (sym ours.is) plain) h,
      log_sorted old.now.trees rows
          (read.answer Rattle.sqlite.specs.declared.types.Value.TheVariants.Null),
    )

-- a query that is refused and leaves the connection open changes nothing
query_refused : (sql : List ℕ) (params : Row) (old new : State) (e : Error)
    → IsPlain (understood old.now.schema sql) → FailsToQuery sql params old new e
    → IsTrue new.is_open → IsTrue old.is_open
    × ((home : Home) (s : Stored) (log : List Entry) → Keeps home s log old → Keeps home s log new)
unfolding FailsToQuery IsNotRun
query_refused sql params old new e plain (inl (inl it)) live =
    (it.1.0.was_open, λ home s log k. kept_unchanged home s log old new k it.1)
query_refused sql params old new e plain (inl (inr fails)) live =
    (fails.3.was_open live, λ home s log k. kept_back home s log old new k live fails.3)
query_refused sql params old new e plain (inr h) live =
    let same : IsUnchanged old new = (rw ((subst IsPlain h.1.is plain).0) at h.2).3 in
    (same.0.was_open, λ home s log k. kept_unchanged home s log old new k same)

query_spares : {X : Type 0} (sql : List ℕ) (old new : State) (r : Result X Error)
    → IsPlain (understood old.now.schema sql) → OnOk r (IsUnchanged old new)
    → IfErr r (FailsToQuery sql [] old new)
    → ((db : Trees) → new.may_leave db → old.may_leave db) → Spares old new
query_spares sql old new (Ok rows) plain same fails left =
    record {
      was_open = λ live. same.0.was_open;
      kept = λ live home s log k. kept_unchanged home s log old new k same;
      crash = left;
    }
query_spares sql old new (Err e) plain same fails left = record {
  was_open = λ live. (query_refused sql [] old new e plain fails live).0;
  kept = λ live. (query_refused sql [] old new e plain fails live).1;
  crash = left;
}

desk_bare : (s : State) → IsOurs s.now.schema → IsPlain (understood s.now.schema desk_text)
desk_bare s ours =
    subst (λ s. IsPlain (understood s desk_text)) (sym ours.is)
    (desk_plain ours.others ours.indexes ours.views)

log_bare : (s : State) → IsOurs s.now.schema → IsPlain (understood s.now.schema log_text)
log_bare s ours =
    subst (λ s. IsPlain (understood s log_text)) (sym ours.is)
    (log_plain ours.others ours.indexes ours.views)

pub desk_commits : (s : State) (db : Trees) → IsOurs s.now.schema → CommitsShowing desk_text [] s db
    → ⊥
desk_commits s db ours = never_commits desk_text [] s db (desk_bare s ours)

pub log_commits : (s : State) (db : Trees) → IsOurs s.now.schema → CommitsShowing log_text [] s db
    → ⊥
log_commits s db ours = never_commits log_text [] s db (log_bare s ours)

pub desk_spares : {X : Type 0} (old new : State) (r : Result X Error) → IsOurs old.now.schema
    → OnOk r (IsUnchanged old new) → IfErr r (FailsToQuery desk_text [] old new)
    → ((db : Trees) → new.may_leave db → old.may_leave db) → Spares old new
desk_spares old new r ours = query_spares desk_text old new r (desk_bare old ours)

pub log_spares : {X : Type 0} (old new : State) (r : Result X Error) → IsOurs old.now.schema
    → OnOk r (IsUnchanged old new) → IfErr r (FailsToQuery log_text [] old new)
    → ((db : Trees) → new.may_leave db → old.may_leave db) → Spares old new
log_spares old new r ours = query_spares log_text old new r (log_bare old ours)
