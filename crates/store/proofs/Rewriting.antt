-- What each UPDATE makes of the desk's row.
use Rattle.std.proofs.Common.{◌≡◌, ℕ, ℤ, pos, List, [], ◌∷◌, ◌++◌, map, Bool, true, false, cond}
use Rattle.std.proofs.Common.{Option, Some, None, refl, ap, ◌∙◌, drop, take}
use Rattle.sqlite.specs.{declared.types.Value.Value, Order.Row, Ops.unary, Kind.TheVariants.Integer}
use Rattle.sqlite.specs.declared.types.Value.TheVariants.{Null, Int, Blob}
use Rattle.sqlite.specs.{Order.column, Term.Term, Term.eval_all, Rowids.TheVariants.Given}
use Rattle.sqlite.specs.{Order.value_cmp, Edit.Edit, Edit.edit_of, Edit.edited, Edit.without_all}
use Rattle.sqlite.specs.{Cast.cast, Cast.cast_all, Cast.cast_row, Tree.Trees, Tree.put_row}
use Rattle.sqlite_rules.specs.Calls.{ids_of}
use Rattle.store.specs.{declared.home.Home.Home, Layout.desk_table}
use Rattle.acceptor.specs.declared.{ballot.Ballot.Ballot, stored.Vote.Vote, stored.Stored.Stored}
use Rattle.store.specs.Holding.{desk_values, vote_values, shown_desk}
use Rattle.store.proofs.Texts.{promise_terms, vote_terms, try_terms}

either : (b : Bool) (x : Value) → cond b x x ≡ x
either true x = refl
either false x = refl

pub cast_null : cast Integer Null ≡ Null
unfolding unary
cast_null = either _ Null

pub cast_int : (n : ℤ) → cast Integer (Int n) ≡ Int n
unfolding unary
cast_int n = either _ (Int n)

-- a row with these columns, as it is stored
abbrev pub stored_as : Row → Row
stored_as values = take 1 values ++ Null ∷ drop 1 values

cast_votes : (v : Option Vote)
    → cast_all (drop 7 (desk_table 0).columns) (vote_values v) ≡ vote_values v
cast_votes None = simp cast_null
cast_votes (Some v) = simp cast_int

cast_desk : (home : Home) (s : Stored)
    → cast_row (desk_table 0) (stored_as (desk_values home s)) ≡ stored_as (desk_values home s)
cast_desk home s = simp (cast_int, cast_null, cast_votes)

pub shown_stored : (home : Home) (s : Stored)
    → shown_desk (stored_as (desk_values home s)) ≡ desk_values home s
shown_stored home s = go s.vote
  where
    go : (v : Option Vote) → shown_desk (stored_as (desk_values home (record s { vote = v })))
        ≡ desk_values home (record s { vote = v })
    go None = refl
    go (Some v) = refl

abbrev pub rewritten : Trees → Row → Edit
rewritten trees values = edit_of trees (desk_table 0) (ids_of (values ∷ [])) Given 1 (values ∷ [])

-- the row that shows this
pub only_row : (home : Home) (s : Stored) (rows : List Row)
    → map shown_desk rows ≡ desk_values home s ∷ []
    → (row : Row) × (rows ≡ row ∷ []) × (shown_desk row ≡ desk_values home s)
only_row home s [] e = absurd cc
only_row home s (r ∷ []) e = (r, refl, cc)
only_row home s (r ∷ r' ∷ more) e = absurd cc

left_none : (only : Row) → column only 0 ≡ Int (pos 1) → without_all (only ∷ []) (pos 1 ∷ []) ≡ []
unfolding value_cmp lib.Ieee.is_nan lib.Ieee.lt
left_none only one = rw one refl

-- the row is taken out, and the new one is put in
rewrites : (trees : Trees) (only : Row) (home : Home) (s t : Stored) (values : Row)
    → trees 0 ≡ only ∷ [] → shown_desk only ≡ desk_values home s
    → values ≡ Int (pos 1) ∷ stored_as (desk_values home t)
    → map shown_desk (edited trees (rewritten trees values)) ≡ desk_values home t ∷ []
rewrites trees only home s t values one shows is =
    let rowid : column only 0 ≡ Int (pos 1) = ap (λ (r : Row). column r 0) shows in
    let gone : without_all (trees 0) (pos 1 ∷ []) ≡ [] =
    ap (λ (rs : List Row). without_all rs (pos 1 ∷ [])) one
    ∙ left_none only rowid in
    let put : edited trees (rewritten trees values) ≡ stored_as (desk_values home t) ∷ [] =
    ap (λ v. edited trees (rewritten trees v)) is
    ∙ ap (put_row (cast_row (desk_table 0) (stored_as (desk_values home t)))) gone
    ∙ ap (λ r. r ∷ []) (cast_desk home t) in
    ap (map shown_desk) put ∙ ap (λ r. r ∷ []) (shown_stored home t)

abbrev pub promise_params : Ballot → Row
promise_params b = Int (pos b.number) ∷ Int (pos b.desk) ∷ []

abbrev pub try_params : ℕ → Row
try_params n = Int (pos n) ∷ []

abbrev pub vote_params : Vote → Row
vote_params v =
    Int (pos v.pos) ∷ Int (pos v.ballot.number) ∷ Int (pos v.ballot.desk) ∷ Int (pos v.entry.id) ∷
    Blob v.entry.text ∷ []

-- The terms read what a row shows and nothing else.
abbrev of_shown : List Term → Row → Row → Row
of_shown terms params shown = eval_all terms (params ∷ stored_as shown ∷ [])

promised_values : (home : Home) (p b : Ballot) (r : ℕ) (v : Option Vote)
    → of_shown promise_terms (promise_params b)
    (desk_values home (record { promised = p; vote = v; tried = r }))
    ≡ Int (pos 1) ∷ stored_as (desk_values home (record { promised = b; vote = v; tried = r }))
promised_values home p b r None = refl
promised_values home p b r (Some v) = refl

tried_values : (home : Home) (p : Ballot) (r n : ℕ) (v : Option Vote)
    → of_shown try_terms (try_params n)
    (desk_values home (record { promised = p; vote = v; tried = r }))
    ≡ Int (pos 1) ∷ stored_as (desk_values home (record { promised = p; vote = v; tried = n }))
tried_values home p r n None = refl
tried_values home p r n (Some v) = refl

voted_values : (home : Home) (s : Stored) (v : Vote)
    → of_shown vote_terms (vote_params v) (desk_values home s)
    ≡ Int (pos 1) ∷ stored_as (desk_values home (record s { promised = v.ballot; vote = Some v }))
voted_values home s v = refl

module _ (trees : Trees) (row : Row) (home : Home) (s : Stored) (one : trees 0 ≡ row ∷ [])
    (shows : shown_desk row ≡ desk_values home s) where
  pub promises : (b : Ballot) → map shown_desk
      (edited trees (rewritten trees (eval_all promise_terms (promise_params b ∷ row ∷ []))))
      ≡ desk_values home (record s { promised = b }) ∷ []
  promises b =
      rewrites trees row home s (record s { promised = b }) _ one shows
      (ap (of_shown promise_terms (promise_params b)) shows
      ∙ promised_values home s.promised b s.tried s.vote)

  pub tries : (n : ℕ) → map shown_desk
      (edited trees (rewritten trees (eval_all try_terms (try_params n ∷ row ∷ []))))
      ≡ desk_values home (record s { tried = n }) ∷ []
  tries n =
      rewrites trees row home s (record s { tried = n }) _ one shows
      (ap (of_shown try_terms (try_params n)) shows ∙ tried_values home s.promised s.tried n s.vote)

  pub votes : (v : Vote) → map shown_desk
      (edited trees (rewritten trees (eval_all vote_terms (vote_params v ∷ row ∷ []))))
      ≡ desk_values home (record s { promised = v.ballot; vote = Some v }) ∷ []
  votes v =
      rewrites trees row home s (record s { promised = v.ballot; vote = Some v }) _ one shows
      (ap (of_shown vote_terms (vote_params v)) shows ∙ voted_values home s v)
