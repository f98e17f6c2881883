-- What the three statements that make a store leave.
use Rattle.std.proofs.Common.{◌≡◌, ℕ, pos, [], ◌∷◌, map, IsPermutation, false, None, Ok, refl, sym}
use Rattle.std.proofs.Common.{ap, subst, ◌∙◌, arith}
use Rattle.sqlite.specs.{declared.types.Value.TheVariants.Int, Order.Row, Tree.Trees, Term.eval_all}
use Rattle.sqlite.specs.Command.TheVariants.{Insert, CreateTable}
use Rattle.sqlite.specs.{Source.TheVariants.Values, Cast.cast_row, Rowids.TheVariants.Chosen}
use Rattle.sqlite.specs.{Change.created, Change.next_tree, Edit.Edit, Rows.Written, Effect.Database}
use Rattle.sqlite.specs.{Edit.edit_of, Edit.edited, Does.Tally, Does.Does, Does.lacks_sequence}
use Rattle.sqlite.specs.State.{State, mode_of, Writes, Executes, Shows}
use Rattle.sqlite.proofs.Callers.{runs_as, one_step}
use Rattle.store.specs.{declared.home.Home.Home, Kept.Keeps}
use Rattle.store.specs.Layout.{desk_table, entries_table, store_schema, no_schema}
use Rattle.store.specs.Holding.{desk_values, shown_desk, shown_entry, Holds}
use Rattle.acceptor.specs.Storing.{first_stored}
use Rattle.std.proofs.lemmas.List.Sorted.{IsPermutation-refl}
use Rattle.store.proofs.SqlTexts.{create_desk_text, create_entries_text, first_text}
use Rattle.store.proofs.Texts.{half_schema, create_desk_is, create_entries_is, make_desk_is}
use Rattle.store.proofs.Texts.{make_desk_plain, make_entries_is, make_entries_plain, first_is}
use Rattle.store.proofs.{Texts.first_plain, Texts.first_terms, Updating.went, Updating.same_value}
use Rattle.store.proofs.Rewriting.{cast_int, cast_null}

abbrev pub first_params : Home → Row
first_params home = Int (pos home.hall) ∷ Int (pos home.desk) ∷ Int (pos home.desks) ∷ []

pub makes_desk : (old new : State) (count : ℕ) → old.now.schema ≡ no_schema
    → Executes create_desk_text [] old new (Ok count)
    → (new.now.schema ≡ half_schema) × (new.now.trees 0 ≡ [])
makes_desk old new count has h =
    let w =
    subst (λ t. Writes old new None CreateTable t [] count) make_desk_is.1
    (runs_as create_desk_text [] old new no_schema has CreateTable make_desk_is.0 make_desk_plain
    count h) in
    let all = went w.changed in
    let first = went all.1 in
    let made = first.1 in
    let both : Ok made.table ≡ Ok (desk_table 0) = sym made.defined ∙ create_desk_is in
    let same : made.table ≡ desk_table 0 = cc in
    let schema : first.0.schema ≡ half_schema = made.is ∙ ap (λ s. created s made.table) has
    ∙ ap (created no_schema) same in
    let plain : lacks_sequence first.0.schema ≡ false = ap lacks_sequence schema in
    let now : new.now ≡ first.0 = ap (λ (p : Tally × Database). p.1) (same_value all.2)
    ∙ same_value (rw plain at first.2) in (
      ap (λ (d : Database). d.schema) now ∙ schema,
      ap (λ (d : Database). d.trees 0) now
          ∙ subst (λ s. first.0.trees (next_tree s) ≡ []) has made.empty,
    )

pub makes_entries : (old new : State) (count : ℕ) → old.now.schema ≡ half_schema
    → old.now.trees 0 ≡ [] → Executes create_entries_text [] old new (Ok count)
    → (new.now.schema ≡ store_schema [] [] []) × (new.now.trees 0 ≡ []) × (new.now.trees 1 ≡ [])
makes_entries old new count has bare h =
    let w =
    subst (λ t. Writes old new None CreateTable t [] count) make_entries_is.1
    (runs_as create_entries_text [] old new half_schema has CreateTable make_entries_is.0
    make_entries_plain count h) in
    let all = went w.changed in
    let first = went all.1 in
    let made = first.1 in
    let both : Ok made.table ≡ Ok (entries_table 0) = sym made.defined ∙ create_entries_is in
    let same : made.table ≡ entries_table 0 = cc in
    let schema : first.0.schema ≡ store_schema [] [] [] = made.is
    ∙ ap (λ s. created s made.table) has ∙ ap (created half_schema) same in
    let plain : lacks_sequence first.0.schema ≡ false = ap lacks_sequence schema in
    let now : new.now ≡ first.0 = ap (λ (p : Tally × Database). p.1) (same_value all.2)
    ∙ same_value (rw plain at first.2) in
    let kept =
    subst (λ s. Rattle.sqlite_catalog.specs.Change.KeepsRows s.tables old.now.trees first.0.trees)
    has made.others in (
      ap (λ (d : Database). d.schema) now ∙ schema,
      ap (λ (d : Database). d.trees 0) now ∙ kept.0
          ∙ bare,
      ap (λ (d : Database). d.trees 1) now
          ∙ subst (λ s. first.0.trees (next_tree s) ≡ []) has made.empty,
    )

cast_first : (home : Home) → cast_row (desk_table 0) (eval_all first_terms (first_params home ∷ []))
    ≡ eval_all first_terms (first_params home ∷ [])
cast_first home = simp (cast_int, cast_null)

apart : ◌≡◌ {A = ℕ} 1 0 → ⊥
apart e = omega arith

pub fills : (old new : State) (home : Home) (count : ℕ) → old.now.schema ≡ store_schema [] [] []
    → old.now.trees 0 ≡ [] → Executes first_text (first_params home) old new (Ok count)
    → (new.now.schema ≡ store_schema [] [] [])
    × (map shown_desk (new.now.trees 0) ≡ desk_values home first_stored ∷ [])
    × (new.now.trees 1 ≡ old.now.trees 1)
fills old new home count has bare h =
    let params = first_params home in
    let db = old.now.trees in
    let command = Insert 0 (Values first_terms 13) in
    let schema = store_schema [] [] [] in
    let w = runs_as first_text params old new schema has command first_is first_plain count h in
    let text =
    Rattle.sqlite.proofs.Callers.statement_of first_text
    (Rattle.sqlite.specs.Listing.understood schema first_text) in
    let done =
    went (subst (λ s.
    Does old.step_limit (mode_of old) params (record old.now { schema = s }) text None command
    (Ok (w.tally, new.now))) has w.changed) in
    let now = ap (λ (p : Tally × Database). p.1) (same_value (went (went done.2).2).2) in
    let given = went done.1 in
    let written = went (went given.2).2 in
    let counted = went written.2 in
    let next : done.0.trees ≡ written.0 = ap (λ (it : Written). it.trees) (same_value counted.2)
    ∙ same_value counted.1 in
    let row = eval_all first_terms (params ∷ []) in
    let applied =
    one_step schema (mode_of old).keys db written.0 (edit_of db (desk_table 0) [] Chosen 0 given.0)
    refl written.1 in
    let edit : edited db (edit_of db (desk_table 0) [] Chosen 0 given.0) ≡ row ∷ [] =
    ap (λ all. edited db (edit_of db (desk_table 0) [] Chosen 0 all)) given.1.1
    ∙ ap (λ r.
    Rattle.sqlite.specs.Edit.put_all (db 0)
    (Rattle.sqlite.specs.Edit.with_rowid Chosen (db 0) r ∷ [])) (cast_first home)
    ∙ rw bare refl in (
      ap (λ (d : Database). d.schema) now,
      ap (λ (d : Database). map shown_desk (d.trees 0)) now
          ∙ ap (λ (t : Trees). map shown_desk (t 0)) next
          ∙ ap (map shown_desk) (applied.rows ∙ edit),
      ap (λ (d : Database). d.trees 1) now ∙ ap (λ (t : Trees). t 1) next
          ∙ applied.tables.1.0 apart,
    )

-- the three in turn
pub makes_rows : (old one two three : State) (home : Home) (i j k : ℕ) → old.now.schema ≡ no_schema
    → Executes create_desk_text [] old one (Ok i) → Executes create_entries_text [] one two (Ok j)
    → Executes first_text (first_params home) two three (Ok k)
    → (three.now.schema ≡ store_schema [] [] []) × Holds home three.now.trees first_stored []
makes_rows old one two three home i j k bare desk entries row =
    let a = makes_desk old one i bare desk in
    let b = makes_entries one two j a.0 a.1 entries in
    let c = fills two three home k b.0 b.1 row in (
      c.0,
      record {
        desk = c.1;
        entries =
            subst (λ rows. IsPermutation [] (map shown_entry rows)) (sym (c.2 ∙ b.2))
            (IsPermutation-refl []);
      },
    )

-- and the commit
pub makes_store : (old one two three end : State) (home : Home) (i j k : ℕ)
    → old.now.schema ≡ no_schema → Executes create_desk_text [] old one (Ok i)
    → Executes create_entries_text [] one two (Ok j)
    → Executes first_text (first_params home) two three (Ok k)
    → Shows three end three.now three.now false → Keeps home first_stored [] end
makes_store old one two three end home i j k bare desk entries row commits =
    let made = makes_rows old one two three home i j k bare desk entries row in
    let now = commits.now_is in
    record {
      is_open = commits.is_open;
      autocommit = commits.mode;
      settled = now ∙ sym commits.committed_is;
      ours =
          record {
            others = [];
            indexes = [];
            views = [];
            is = ap (λ (d : Database). d.schema) now
                ∙ made.0;
            unkeyed = tt;
          };
      holds = subst (λ (d : Database). Holds home d.trees first_stored []) (sym now) made.1;
    }
