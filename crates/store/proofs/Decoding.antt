-- One more entry is read.
use Rattle.std.proofs.Common.{◌≡◌, pos, ◌+◌, ◌<◌, ◌≤◌, List, [], ◌∷◌, ◌++◌, map, ◌≢◌, length-append}
use Rattle.std.proofs.Common.{ℕ, get_or, subst₂, IsPermutation, refl, sym, ap, ◌∙◌, arith, zero-add}
use Rattle.std.proofs.{Common.take, Common.length, lemmas.List.map-append, lemmas.List.take_more}
use Rattle.sqlite.specs.declared.types.Value.TheVariants.{Int, Blob}
use Rattle.sqlite.{specs.Order.Row, specs.Order.column, proofs.Callers.one_permutation}
use Rattle.sqlite_trees.proofs.ListLemmas.{all-append}
use Rattle.acceptor.specs.Entries.{IsId, IsText}
use Rattle.store.specs.{Whole.LogIsWhole, Holding.desk_values, declared.home.Home.Home}
use Rattle.acceptor.specs.declared.{entry.Entry.Entry, stored.Stored.Stored}
use Rattle.store.specs.Holding.{entry_values, log_values, entry_columns, shown_entry, shown_desk}
use Rattle.store.{specs.Holding.desk_columns, proofs.Inserting.log_append}
use Rattle.std.proofs.lemmas.List.Sorted.{IsPermutation-map, IsPermutation-sym}

pub grows : (rows : List Row) (i : ℕ) (here : Row) (log : List Entry) (e : Entry) (at : ℕ)
    → i < length rows → here ≡ get_or rows i here
    → map entry_columns (take i rows) ≡ log_values 0 log
    → column here 0 ≡ Int (pos at) → at ≡ length log → column here 1 ≡ Int (pos e.id)
    → column here 2 ≡ Blob e.text
    → map entry_columns (take (i + 1) rows) ≡ log_values 0 (log ++ e ∷ [])
grows rows i here log e at h is so_far pos_is last id text =
    let more : take (i + 1) rows ≡ take i rows ++ here ∷ [] = take_more rows i here h
    ∙ ap (λ r. take i rows ++ r ∷ []) (sym is) in
    let columns : entry_columns here ≡ entry_values (length log) e =
    rw (pos_is, id, text, last) refl in
    ap (map entry_columns) more ∙ map-append entry_columns (take i rows) (here ∷ [])
    ∙ ap (λ rs. rs ++ entry_columns here ∷ []) so_far ∙ ap (λ r. log_values 0 log ++ r ∷ []) columns
    ∙ ap (λ (n : ℕ). log_values 0 log ++ entry_values n e ∷ []) (sym (zero-add (length log)))
    ∙ sym (log_append 0 log e)

shown_twice : (rows : List Row) → map entry_columns (map shown_entry rows) ≡ map shown_entry rows
shown_twice [] = refl
shown_twice (r ∷ more) = ap (λ rs. shown_entry r ∷ rs) (shown_twice more)

-- the rows that the query gave are the log's
pub log_found : (stored given : List Row) (log : List Entry)
    → IsPermutation (map shown_entry stored) given → map entry_columns given ≡ log_values 0 log
    → IsPermutation (log_values 0 log) (map shown_entry stored)
log_found stored given log same is =
    IsPermutation-sym _ _
    (subst₂ IsPermutation (shown_twice stored) is (IsPermutation-map entry_columns _ _ same))

-- the one row that the query gave is the desk's
pub desk_found : (stored : List Row) (r : Row) (home : Home) (s : Stored)
    → IsPermutation (map shown_desk stored) (r ∷ []) → desk_columns r ≡ desk_values home s
    → map shown_desk stored ≡ desk_values home s ∷ []
desk_found stored r home s same is =
    let one : map shown_desk stored ≡ r ∷ [] = one_permutation r _ (IsPermutation-sym _ _ same) in
    go stored one
  where
    go : (rows : List Row) → map shown_desk rows ≡ r ∷ []
        → map shown_desk rows ≡ desk_values home s ∷ []
    go [] e = absurd cc
    go (x ∷ []) e =
        let shows : shown_desk x ≡ r = cc in ap (λ v. v ∷ []) (ap desk_columns shows ∙ is)
    go (x ∷ y ∷ more) e = absurd cc

pub single : (xs : List Row) (x : Row) → 1 ≤ length xs → length xs < 2 → x ≡ get_or xs 0 x
    → xs ≡ x ∷ []
single [] x some few is = absurd (omega arith)
single (y ∷ []) x some few is = ap (λ z. z ∷ []) (sym is)
single (y ∷ z ∷ more) x some few is = absurd (omega arith)

-- a log that is not full is whole with one more entry
pub log_grows : (log : List Entry) (e : Entry) → LogIsWhole log → IsId e.id × IsText e.text
    → length log ≢ 65536 → LogIsWhole (log ++ e ∷ [])
log_grows log e whole one room = (
  all-append (λ x. IsId x.id × IsText x.text) log (e ∷ []) whole.0 (one, tt),
  omega (arith, length-append log (e ∷ []), whole.1, room),
)
