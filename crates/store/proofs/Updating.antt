-- What an UPDATE of the one row of the first table makes of a database.
use Rattle.std.proofs.Common.{◌≡◌, ◌⊎◌, inl, inr, ℕ, List, [], ◌∷◌, map, None, Ok, Err, Result}
use Rattle.std.proofs.Common.{refl, ap, subst, ◌∙◌}
use Rattle.std.specs.List.{flat_map, Sorted.IsPermutation}
use Rattle.sqlite.specs.{declared.types.Value.TheVariants.Null, Query.page, declared.run.Mode.Mode}
use Rattle.sqlite.specs.{Order.Row, Program.overlay, Table.Table, Schema.Schema, Rows.Written}
use Rattle.sqlite.specs.{Term.Term, Term.eval_all, Query.IsAnswer, Does.Tally, Does.Does}
use Rattle.sqlite.specs.{Query.output, Rowids.TheVariants.Given, Tree.Trees, Effect.Database}
use Rattle.sqlite.specs.{Query.Output, Edit.Edit, Edit.edit_of, Edit.edited, Edit.taken_by}
use Rattle.sqlite_schema.specs.declared.schema.{Index.Index, View.View, Keys.Keys}
use Rattle.sqlite_rules.specs.{Action.work_for, Calls.ids_of}
use Rattle.sqlite.proofs.Callers.{one_step, one_permutation}
use Rattle.store.specs.Layout.{desk_table, store_schema, HasNoKey}
use Rattle.store.proofs.Texts.{base, updates}

-- a part that gave a value did not stop on the way
pub went : {B E R : Type 0} {b : B} {Stops : E → Type 0}
    → ((stop : E) × Stops stop × (Ok b ≡ Err stop)) ⊎ R → R
went (inl stopped) = absurd (let e = stopped.2 in cc)
went (inr on) = on

pub same_value : {B E : Type 0} {a b : B} → ◌≡◌ {A = Result B E} (Ok a) (Ok b) → a ≡ b
same_value e = cc

-- the answer of a query over the one row of the first table
pub one_row : (terms : List Term) (db : Trees) (params row : Row) (rows : List Row)
    → db 0 ≡ row ∷ [] → IsAnswer (base 0 terms) (overlay db []) params rows
    → rows ≡ eval_all terms (params ∷ row ∷ []) ∷ []
one_row terms db params row rows one a =
    let q = base 0 terms in
    let staged : a.staged ≡ (params ∷ row ∷ []) ∷ [] = a.grouped ∙ rw one in
    let o : Output = ([], eval_all terms (params ∷ row ∷ [])) in
    let kept : a.kept ≡ o ∷ [] = a.distinct ∙ ap (map (output q)) staged in
    let ordered =
    one_permutation o a.ordered (subst (λ k. IsPermutation k a.ordered) kept a.same) in
    a.shown ∙ ap (λ xs. page q params (map (λ (p : Output). p.1) xs)) ordered

-- no table refers to another, so a write sets nothing off
pub idle : (ours : Schema) (keys : Keys) (depth tree : ℕ) (olds news : List Row)
    (others : List Table) → HasNoKey others → flat_map (λ child.
    Rattle.std.specs.List.filter_map (work_for ours keys depth tree olds news child)
    child.references) others ≡ []
idle ours keys depth tree olds news [] none = refl
idle ours keys depth tree olds news (t ∷ more) none =
    rw (none.0) (idle ours keys depth tree olds news more none.1)

module _ (others : List Table) (ix : List Index) (vs : List View) (unkeyed : HasNoKey others)
    (terms : List Term) (limit : _) (mode : Mode) (params : Row) (trees : Trees) (row : Row)
    (one : trees 0 ≡ row ∷ []) (text : List ℕ) (tally : Tally) (after : Database)
    (does : Does limit mode params (record { schema = store_schema others ix vs; trees = trees })
    text None (updates terms) (Ok (tally, after)))
  where
    abbrev pub edit_to : Edit
    edit_to =
        edit_of trees (desk_table 0) (ids_of (eval_all terms (params ∷ row ∷ []) ∷ [])) Given 1
        (eval_all terms (params ∷ row ∷ []) ∷ [])

    pub updated : (after.schema ≡ store_schema others ix vs)
        × (after.trees 0 ≡ edited trees edit_to) × (after.trees 1 ≡ trees 1)
    updated =
        let done = went does in
        let now : after ≡ record { schema = store_schema others ix vs; trees = done.0.trees } =
        ap (λ (p : Tally × Database). p.1) (same_value (went (went done.2).2).2) in
        let given = went done.1 in
        let rows : given.0 ≡ eval_all terms (params ∷ row ∷ []) ∷ [] =
        one_row terms trees params row given.0 one (given.1.answer Null) in
        let written = went given.2 in
        let next : done.0.trees ≡ written.0 =
        ap (λ (it : Written). it.trees) (same_value written.2) in
        let edit = edit_of trees (desk_table 0) (ids_of given.0) Given 1 given.0 in
        let applied = one_step (store_schema others ix vs) mode.keys trees written.0 edit
        (idle (store_schema others ix vs) mode.keys 0 0 (taken_by trees edit) edit.news others
        unkeyed) written.1 in
        let is : edit ≡ edit_to =
        ap (λ (rs : List Row). edit_of trees (desk_table 0) (ids_of rs) Given 1 rs) rows in (
          ap (λ (d : Database). d.schema) now,
          ap (λ (d : Database). d.trees 0) now ∙ ap (λ (t : Trees). t 0) next ∙ applied.rows
              ∙ ap (edited trees) is,
          ap (λ (d : Database). d.trees 1) now ∙ ap (λ (t : Trees). t 1) next
              ∙ applied.tables.1.0 (λ e. absurd cc),
        )
