-- What the INSERT of one entry makes of a database.
use Rattle.std.proofs.Common.{◌≡◌, ℕ, pos, ◌+◌, List, [], ◌∷◌, ◌++◌, map, length, Bool, true, false}
use Rattle.std.proofs.Common.{not, ◌&&◌, IsPermutation, subst₂, Option, None, Ok, refl, sym, ap}
use Rattle.std.proofs.Common.{subst, ◌∙◌, arith, add-zero, zero-add}
use Rattle.std.specs.{declared.cmp.Ordering.Ordering, Ordering.match_ordering}
use Rattle.std.specs.declared.cmp.Ordering.TheVariants.{Less, Equal, Greater}
use Rattle.std.proofs.lemmas.List.Sorted.{IsPermutation-refl, IsPermutation-trans}
use Rattle.std.proofs.lemmas.List.Sorted.{IsPermutation-middle, IsPermutation-cons}
use Rattle.std.proofs.lemmas.List.Sorted.{IsPermutation-to_front, IsPermutation-map}
use Rattle.sqlite.specs.declared.types.Value.TheVariants.{Null, Int, Blob}
use Rattle.sqlite.specs.{Order.Row, Order.value_cmp, Tree.Trees, Tree.put_row, Tree.rowid}
use Rattle.sqlite.specs.{Table.Table, Cast.cast_row, Edit.left_by, Rowids.TheVariants.Chosen}
use Rattle.sqlite_schema.specs.declared.schema.{Index.Index, View.View}
use Rattle.sqlite.specs.Edit.{Edit, edit_of, edited, taken_by, with_rowid, is_taken, are_fresh}
use Rattle.sqlite.specs.{Command.TheVariants.Insert, Source.TheVariants.Values, Rows.Written}
use Rattle.sqlite.specs.{Does.Tally, Does.Does, declared.run.Mode.Mode, Effect.Database}
use Rattle.sqlite.proofs.Callers.{one_step}
use Rattle.acceptor.specs.declared.entry.Entry.{Entry}
use Rattle.store.specs.Layout.{entries_table, store_schema, HasNoKey}
use Rattle.store.specs.Holding.{entry_values, log_values, shown_entry}
use Rattle.store.proofs.{Texts.append_terms, Rewriting.cast_int, Rewriting.cast_null}
use Rattle.store.proofs.Updating.{went, same_value, idle}

abbrev pub append_params : ℕ → Entry → Row
append_params at e = Int (pos at) ∷ Int (pos e.id) ∷ Blob e.text ∷ []

-- the row as it is stored
abbrev pub entry_row : ℕ → Entry → Row
entry_row at e = Int (pos at) ∷ Null ∷ Int (pos e.id) ∷ Blob e.text ∷ []

-- a row that is new goes somewhere among the others
put_somewhere : (new : Row) (rows : List Row) → is_taken rows new ≡ false
    → IsPermutation (new ∷ rows) (put_row new rows)
put_somewhere new [] free = IsPermutation-refl (new ∷ [])
put_somewhere new (r ∷ rs) free = go (put_somewhere new rs) (value_cmp (rowid r) (rowid new)) refl
  where
    go : (is_taken rs new ≡ false → IsPermutation (new ∷ rs) (put_row new rs)) → (o : Ordering)
        → value_cmp (rowid r) (rowid new) ≡ o → IsPermutation (new ∷ r ∷ rs)
        (match_ordering o (r ∷ put_row new rs) (new ∷ rs) (new ∷ r ∷ rs))
    go later_on Less is =
        let later : is_taken rs new ≡ false = rw is at free in
        IsPermutation-trans _ _ _ (IsPermutation-middle (new ∷ []) r rs)
        (IsPermutation-cons r _ _ (later_on later))
    go later_on Equal is = absurd (let e = rw is at free in cc)
    go later_on Greater is = IsPermutation-refl (new ∷ r ∷ rs)

pub log_append : (at : ℕ) (log : List Entry) (e : Entry)
    → log_values at (log ++ e ∷ []) ≡ log_values at log ++ entry_values (at + length log) e ∷ []
log_append at [] e = ap (λ n. entry_values n e ∷ []) (sym (add-zero at))
log_append at (x ∷ more) e =
    let same : at + 1 + length more ≡ at + length (x ∷ more) = omega arith in
    ap (λ rows. entry_values at x ∷ rows) (log_append (at + 1) more e)
    ∙ ap (λ (n : ℕ). entry_values at x ∷ (log_values (at + 1) more ++ entry_values n e ∷ [])) same

cast_entry : (at : ℕ) (e : Entry) → cast_row (entries_table 1) (entry_row at e) ≡ entry_row at e
cast_entry at e = simp (cast_int, cast_null)

abbrev pub appended : Trees → ℕ → Entry → Edit
appended trees at e = edit_of trees (entries_table 1) [] Chosen 0 (entry_row at e ∷ [])

pub appends : (trees : Trees) (log : List Entry) (at : ℕ) (e : Entry)
    → IsPermutation (log_values 0 log) (map shown_entry (trees 1)) → at ≡ length log
    → are_fresh (left_by trees (appended trees at e)) (appended trees at e).news ≡ true
    → IsPermutation (log_values 0 (log ++ e ∷ []))
    (map shown_entry (edited trees (appended trees at e)))
appends trees log at e rows last fresh =
    let new : with_rowid Chosen (trees 1) (cast_row (entries_table 1) (entry_row at e))
    ≡ entry_row at e = ap (with_rowid Chosen (trees 1)) (cast_entry at e) in
    let free : is_taken (trees 1) (entry_row at e) ≡ false = untaken _ (rw new at fresh) in
    let put : edited trees (appended trees at e) ≡ put_row (entry_row at e) (trees 1) =
    ap (λ r. put_row r (trees 1)) new in
    let values : log_values 0 (log ++ e ∷ []) ≡ log_values 0 log ++ entry_values at e ∷ [] =
    log_append 0 log e
    ∙ ap (λ (n : ℕ). log_values 0 log ++ entry_values n e ∷ [])
    (zero-add (length log) ∙ sym last) in
    let front =
    IsPermutation-trans _ _ _ (IsPermutation-to_front (log_values 0 log) (entry_values at e))
    (IsPermutation-cons (entry_values at e) _ _ rows) in
    let all =
    IsPermutation-trans _ _ _ front
    (IsPermutation-map shown_entry _ _ (put_somewhere (entry_row at e) (trees 1) free)) in
    subst₂ IsPermutation (sym values) (ap (map shown_entry) (sym put)) all
  where
    untaken : (b : Bool) → not b && true ≡ true → b ≡ false
    untaken true e = absurd cc
    untaken false e = refl

module _ (others : List Table) (ix : List Index) (vs : List View) (unkeyed : HasNoKey others)
    (at : ℕ) (e : Entry) (limit : Option ℕ) (mode : Mode) (trees : Trees)
    (text : List ℕ) (tally : Tally) (after : Database) (does : Does limit mode (append_params at e)
    (record { schema = store_schema others ix vs; trees = trees }) text None
    (Insert 1 (Values append_terms 4)) (Ok (tally, after)))
  where
    pub inserted : (after.schema ≡ store_schema others ix vs)
        × (after.trees 1 ≡ edited trees (appended trees at e)) × (after.trees 0 ≡ trees 0)
        × (are_fresh (left_by trees (appended trees at e)) (appended trees at e).news ≡ true)
    inserted =
        let done = went does in
        let now : after ≡ record { schema = store_schema others ix vs; trees = done.0.trees } =
        ap (λ (p : Tally × Database). p.1) (same_value (went (went done.2).2).2) in
        let given = went done.1 in
        let rows : given.0 ≡ entry_row at e ∷ [] = given.1.1 in
        let written = went (went given.2).2 in
        let counted = went written.2 in
        let next : done.0.trees ≡ written.0 = ap (λ (it : Written). it.trees) (same_value counted.2)
        ∙ same_value counted.1 in
        let edit = edit_of trees (entries_table 1) [] Chosen 0 given.0 in
        let applied = one_step (store_schema others ix vs) mode.keys trees written.0 edit
        (idle (store_schema others ix vs) mode.keys 0 1 (taken_by trees edit) edit.news others
        unkeyed) written.1 in
        let is : edit ≡ appended trees at e =
        ap (λ (rs : List Row). edit_of trees (entries_table 1) [] Chosen 0 rs) rows in (
          ap (λ (d : Database). d.schema) now,
          ap (λ (d : Database). d.trees 1) now ∙ ap (λ (t : Trees). t 1) next ∙ applied.rows
              ∙ ap (edited trees) is,
          ap (λ (d : Database). d.trees 0) now ∙ ap (λ (t : Trees). t 0) next
              ∙ applied.tables.0 (λ e. absurd cc),
          subst (λ (d : Edit). are_fresh (left_by trees d) d.news ≡ true) is applied.fresh,
        )
