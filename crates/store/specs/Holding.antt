-- Which rows stand for which state (the project's own).
use Rattle.std.specs.Prelude.{◌≡◌, ℕ, ◌+◌, pos, List, [], ◌∷◌, map, Option, Some, None, false}
use Rattle.std.specs.{Prelude.IsPermutation, declared.cmp.Ordering.Ordering, Ordering.on}
use Rattle.sqlite.specs.declared.types.Value.TheVariants.{Null, Int, Blob}
use Rattle.sqlite.specs.{Order.Row, Order.column, Collation.TheVariants.Binary, Tree.Trees}
use Rattle.sqlite_sql.specs.Query.{key_cmp}
use Rattle.acceptor.specs.declared.{ballot.Ballot.Ballot, entry.Entry.Entry}
use Rattle.store.specs.declared.home.Home.{Home}
use Rattle.acceptor.specs.declared.stored.{Vote.Vote, Stored.Stored}

-- the five columns of a vote, NULL together
abbrev pub vote_values : Option Vote → Row
vote_values None = Null ∷ Null ∷ Null ∷ Null ∷ Null ∷ []
vote_values (Some v) =
    Int (pos v.pos) ∷ Int (pos v.ballot.number) ∷ Int (pos v.ballot.desk) ∷ Int (pos v.entry.id) ∷
    Blob v.entry.text ∷ []

-- the columns of the one row of `desk`
abbrev pub desk_values : Home → Stored → Row
desk_values home s =
    Int (pos 1) ∷ Int (pos home.hall) ∷ Int (pos home.desk) ∷ Int (pos home.desks)
    ∷ Int (pos s.promised.number) ∷ Int (pos s.promised.desk) ∷ Int (pos s.tried) ∷ vote_values
    s.vote

-- the columns of the rows of `entries`, from a position on
abbrev pub entry_values : ℕ → Entry → Row
entry_values at e = Int (pos at) ∷ Int (pos e.id) ∷ Blob e.text ∷ []

abbrev pub log_values : ℕ → List Entry → List Row
log_values at [] = []
log_values at (e ∷ more) = entry_values at e ∷ log_values (at + 1) more

-- What a stored row shows: its number, and then its columns but the first, which is that number and
-- is kept as NULL.
abbrev pub shown_desk : Row → Row
shown_desk r =
    column r 0 ∷ column r 2 ∷ column r 3 ∷ column r 4 ∷ column r 5 ∷ column r 6 ∷ column r 7 ∷
    column r 8 ∷ column r 9 ∷ column r 10 ∷ column r 11 ∷ column r 12 ∷ []

abbrev pub shown_entry : Row → Row
shown_entry r = column r 0 ∷ column r 2 ∷ column r 3 ∷ []

-- the columns of a row that a query gives
abbrev pub vote_columns : Row → Row
vote_columns r = column r 7 ∷ column r 8 ∷ column r 9 ∷ column r 10 ∷ column r 11 ∷ []

abbrev pub desk_columns : Row → Row
desk_columns r =
    column r 0 ∷ column r 1 ∷ column r 2 ∷ column r 3 ∷ column r 4 ∷ column r 5 ∷ column r 6 ∷
    vote_columns r

abbrev pub entry_columns : Row → Row
entry_columns r = column r 0 ∷ column r 1 ∷ column r 2 ∷ []

-- the table `desk`, which is tree 0, has one row, of this desk with this state
abbrev pub HasRow : Home → Stored → Trees → Type 0
HasRow home s db = map shown_desk (db 0) ≡ desk_values home s ∷ []

-- the table `entries`, which is tree 1, has the rows of this log, in some order
abbrev pub HasLog : List Entry → Trees → Type 0
HasLog log db = IsPermutation (log_values 0 log) (map shown_entry (db 1))

-- the two tables have this state and nothing else
pub record Holds (home : Home) (db : Trees) (s : Stored) (log : List Entry) : Type 0 where
  pub desk : HasRow home s db
  pub entries : HasLog log db

-- a row that a query gives begins with the columns of this desk
abbrev pub IsRowOf : Row → Home → Type 0
IsRowOf held home =
    (column held 0 ≡ Int (pos 1)) × (column held 1 ≡ Int (pos home.hall))
    × (column held 2 ≡ Int (pos home.desk)) × (column held 3 ≡ Int (pos home.desks))

-- a row that a query gives has a ballot in two columns from a place on
abbrev pub HasBallot : Row → ℕ → Ballot → Type 0
HasBallot row at b =
    (column row at ≡ Int (pos b.number)) × (column row (at + 1) ≡ Int (pos b.desk))

-- and an entry
abbrev pub HasEntry : Row → ℕ → Entry → Type 0
HasEntry row at e = (column row at ≡ Int (pos e.id)) × (column row (at + 1) ≡ Blob e.text)

-- rows go by the first column, as ORDER BY has it
abbrev pub by_first : Row → Row → Ordering
by_first =
    on (λ r. column r 0 ∷ []) (key_cmp 0 (record { collation = Binary; descending = false } ∷ []))
