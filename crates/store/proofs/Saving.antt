-- From the meaning of a statement to what it leaves.
use Rattle.std.proofs.Common.{◌≡◌, inl, inr, ℕ, List, [], ◌∷◌, map, IsPermutation, false, Option}
use Rattle.std.proofs.Common.{None, Ok, Err, IsTrue, sym, ap, subst, ◌∙◌}
use Rattle.sqlite.specs.{Order.Row, Tree.Trees, Edit.edited, Command.Command, Effect.Database}
use Rattle.sqlite.specs.{Term.Term, Term.eval_all, Does.Tally, Does.Does, State.shows_rows}
use Rattle.sqlite.specs.declared.{error.Error.Error, run.Mode.Mode}
use Rattle.sqlite.specs.State.{State, IsUnchanged, IsRolledBack, IsNotRun, ExecutesIn, Executes}
use Rattle.std.proofs.lemmas.Bool.{cases_Bool}
use Rattle.acceptor.specs.declared.{entry.Entry.Entry, stored.Stored.Stored}
use Rattle.store.specs.{declared.home.Home.Home, Layout.IsOurs, model.Unique.same_home}
use Rattle.store.specs.Holding.{Holds, desk_values, log_values, shown_desk, shown_entry}
use Rattle.store.specs.Kept.{Keeps, HasDesk, Spares}
use Rattle.store.proofs.{Texts.updates, Updating.updated, Rewriting.rewritten, Rewriting.only_row}

-- while the connection is open, a crash leaves the last commit
abbrev pub Settles : State → Type 0
Settles s = (db : Trees) → IsTrue s.is_open → s.may_leave db → db ≡ s.committed.trees

kept_as : (home : Home) (s : Stored) (log : List Entry) (old new : State) → Keeps home s log old
    → IsTrue new.is_open → new.in_transaction ≡ false → new.now ≡ old.now → new.committed ≡ old.now
    → Keeps home s log new
kept_as home s log old new k live mode now committed = record {
  is_open = live;
  autocommit = mode;
  settled = now ∙ sym committed;
  ours = subst (λ (d : Database). IsOurs d.schema) (sym now) k.ours;
  holds = subst (λ (d : Database). Holds home d.trees s log) (sym now) k.holds;
}

pub kept_unchanged : (home : Home) (s : Stored) (log : List Entry) (old new : State)
    → Keeps home s log old → IsUnchanged old new → Keeps home s log new
kept_unchanged home s log old new k h =
    kept_as home s log old new k h.0.is_open (h.0.mode ∙ k.autocommit) h.0.now_is
    (h.0.committed_is ∙ sym k.settled)

pub kept_back : (home : Home) (s : Stored) (log : List Entry) (old new : State)
    → Keeps home s log old → IsTrue new.is_open → IsRolledBack old new → Keeps home s log new
kept_back home s log old new k live h =
    let back = h.undone live in
    kept_as home s log old new k live h.autocommit (back.0 ∙ sym k.settled) (back.1 ∙ sym k.settled)

-- a refusal that leaves the connection open changes nothing
pub refused : (sql : List ℕ) (params : Row) (old new : State) (e : Error) (home : Home) (s : Stored)
    (log : List Entry)
    → Executes sql params old new (Err e) → Keeps home s log old → IsTrue new.is_open
    → Keeps home s log new
unfolding ExecutesIn IsNotRun
refused sql params old new e home s log (inl (inl it)) k live =
    kept_unchanged home s log old new k it.1
refused sql params old new e home s log (inl (inr fails)) k live =
    kept_back home s log old new k live fails.3
refused sql params old new e home s log (inr ran) k live =
    elim (cases_Bool (shows_rows false ran.0)) [
      | inl shows ↦ kept_unchanged home s log old new k (rw shows at ran.2).1
      | inr runs ↦ elim (rw runs at ran.2) [
        | inl it ↦ kept_unchanged home s log old new k it.1
        | inr fails ↦ kept_back home s log old new k live fails.3
      ]
    ]

abbrev pub Makes : Command → Row → Home → Stored → Stored → List Entry → List Entry → Type 0
Makes command params home s t log more =
    (limit : Option ℕ) (mode : Mode) (db : Database) → IsOurs db.schema → Holds home db.trees s log
    → (text : List ℕ) (tally : Tally) (after : Database)
    → Does limit mode params db text None command (Ok (tally, after))
    → IsOurs after.schema × Holds home after.trees t more

-- an UPDATE of the desk's row
pub update_makes : (params : Row) (terms : List Term) (home : Home) (s t : Stored)
    (log : List Entry)
    → ((trees : Trees) (row : Row) → trees 0 ≡ row ∷ [] → shown_desk row ≡ desk_values home s
    → map shown_desk (edited trees (rewritten trees (eval_all terms (params ∷ row ∷ []))))
    ≡ desk_values home t ∷ []) → Makes (updates terms) params home s t log log
update_makes params terms home s t log edits limit mode db ours holds text tally after does =
    let found = only_row home s (db.trees 0) holds.desk in
    let all = updated ours.others ours.indexes ours.views ours.unkeyed terms limit mode params
    db.trees found.0 found.1 text tally after (subst (λ sch.
    Does limit mode params (record { schema = sch; trees = db.trees }) text None (updates terms)
    (Ok (tally, after))) ours.is does) in (
      record {
        others = ours.others;
        indexes = ours.indexes;
        views = ours.views;
        is = all.0;
        unkeyed = ours.unkeyed;
      },
      record {
        desk = ap (map shown_desk) all.1 ∙ edits db.trees found.0 found.1 found.2;
        entries =
            subst (λ rows. IsPermutation (log_values 0 log) (map shown_entry rows)) (sym all.2)
            holds.entries;
      },
    )

-- what keeps this desk's state has no other desk
pub own_desk : (home away : Home) (s t : Stored) (log : List Entry) (c : State) → Keeps home s log c
    → HasDesk away t c → away ≡ home
own_desk home away s t log c k h =
    let both : desk_values away t ∷ [] ≡ desk_values home s ∷ [] = sym h.row ∙ k.holds.desk in
    same_home away home t s cc

-- a connection that is open after a refusal was open before it
pub refused_open : (sql : List ℕ) (params : Row) (old new : State) (e : Error)
    → Executes sql params old new (Err e) → IsTrue new.is_open → IsTrue old.is_open
unfolding ExecutesIn IsNotRun
refused_open sql params old new e (inl (inl it)) live = it.1.0.was_open
refused_open sql params old new e (inl (inr fails)) live = fails.3.was_open live
refused_open sql params old new e (inr ran) live = elim (cases_Bool (shows_rows false ran.0)) [
  | inl shows ↦ (rw shows at ran.2).1.0.was_open
  | inr runs ↦ elim (rw runs at ran.2) [
    | inl it ↦ it.1.0.was_open
    | inr fails ↦ fails.3.was_open live
  ]
]

-- a call that leaves the connection as it is spares it
pub spares_itself : (s : State) → Spares s s
spares_itself s =
    record { was_open = λ live. live; kept = λ live home t log k. k; crash = λ db left. left }

-- and so do two such calls
pub spares_on : (old mid new : State) → Spares old mid → Spares mid new → Spares old new
spares_on old mid new one two = record {
  was_open = λ live. one.was_open (two.was_open live);
  kept = λ live home s log k. two.kept live home s log (one.kept (two.was_open live) home s log k);
  crash = λ db left. one.crash db (two.crash db left);
}
