-- A log that was read from a desk's files.
use Rattle.std.proofs.Common.{◌≡◌, inl, inr, sym, subst, ℕ, List, [], Option, Some, None, Result}
use Rattle.std.proofs.Common.{Ok, Err, IfOk, IsTrue, true, ◌≢◌}
use Rattle.std.proofs.lemmas.Result.{IfOk-weaker}
use Rattle.sqlite.specs.{Effect.Database, Order.Row, Recovery.Image, Start.FindsIn, State.ShowsRows}
use Rattle.sqlite.specs.State.{State, HasCleanDisk, IsLive, Opens as IsFresh, Fails, FailsToQuery}
use Rattle.sqlite.specs.State.{FailsToShow, IsNotRun, QueriesRow, QueriesRowInside, Shown}
use Rattle.sqlite.specs.declared.error.Error.{Error}
use Rattle.sqlite_resolve.specs.declared.compiled.Compiled.{Compiled}
use Rattle.sqlite_schema.specs.declared.command.Returning.{Returning}
use Rattle.acceptor.specs.declared.{entry.Entry.Entry, stored.Stored.Stored}
use Rattle.learner.specs.Logs.{LogValue}
use Rattle.store.specs.Layout.{IsOurs, no_schema}
use Rattle.store.specs.{Holding.Holds, Opening.Opens, Ranges.IsHome, declared.home.Home.Home}
use Rattle.desk_file.specs.stored_log.StoredLogs.{HasLog, IsFound, IsReadFrom}
use Rattle.desk_file.specs.declared.stored_log.fault.StoredLogFault.{StoredLogFault}
use Rattle.desk_file.specs.stored_log.model.Back.{IsBack}

-- ---- what a row that is asked for in a transaction leaves

failed_unmoved : (old new : State) (X : Type 0) (e : Error) → Fails old new X e
    → IsTrue new.is_open → new.committed ≡ old.committed
failed_unmoved old new X e h live = (h.3.undone live).1

shown_unmoved : (old new : State) (sql : List ℕ) (c : Compiled) (params : Row) (rows : List Row)
    (what : Option Returning) → old.in_transaction ≡ true
    → ShowsRows old new sql c params rows what → new.committed ≡ old.committed
shown_unmoved old new sql c params rows None inside h = h.3.0.committed_is
shown_unmoved old new sql c params rows (Some what) inside h = rw inside at h.1.shown.committed_is

refused_unmoved : (old new : State) (sql : List ℕ) (c : Compiled) (params : Row) (e : Error)
    (what : Option Returning) → FailsToShow old new sql c params e what
    → IsTrue new.is_open → new.committed ≡ old.committed
refused_unmoved old new sql c params e None h live = h.3.0.committed_is
refused_unmoved old new sql c params e (Some what) (inl h) live = h.1.0.committed_is
refused_unmoved old new sql c params e (Some what) (inr h) live = failed_unmoved old new _ e h live

unqueried : (sql : List ℕ) (params : Row) (old new : State) (e : Error)
    → FailsToQuery sql params old new e → IsTrue new.is_open → new.committed ≡ old.committed
unfolding FailsToQuery IsNotRun
unqueried sql params old new e (inl (inl h)) live = h.1.0.committed_is
unqueried sql params old new e (inl (inr h)) live = failed_unmoved old new _ e h live
unqueried sql params old new e (inr h) live =
    refused_unmoved old new sql h.0 _ e h.0.returning h.2 live

pub unmoved : (sql : List ℕ) (params : Row) (old new : State) (r : Result Row Error)
    → old.in_transaction ≡ true → QueriesRowInside sql params old new r
    → IsTrue new.is_open → new.committed ≡ old.committed
unfolding QueriesRow Shown
unmoved sql params old new (Ok row) inside (inl h) live = h.1.0.committed_is
unmoved sql params old new (Ok row) inside (inr h) live =
    shown_unmoved old new sql h.1.0 _ h.0 h.1.0.returning inside h.1.2
unmoved sql params old new (Err e) inside (inl (inl h)) live = unqueried sql params old new e h live
unmoved sql params old new (Err e) inside (inl (inr h)) live =
    shown_unmoved old new sql h.1.0 _ [] h.1.0.returning inside h.1.2
unmoved sql params old new (Err e) inside (inr h) live = h.5.0.committed_is

-- ---- what an opening read

-- the log that a keeper kept is in the database that was committed
pub kept_in : (home : Home) (old new : State) (keeps : Stored → List Entry → Type 0)
    (log : List Entry) → IsHome home → IsBack old new → new.now.schema ≢ no_schema
    → Opens home new keeps → ((s : Stored) (kept : List Entry) → keeps s kept → log ≡ kept)
    → HasLog old.committed log
kept_in home old new keeps log place back table opens is =
    elim opens.found [
      | inl bare ↦ absurd (table bare)
      | inr there ↦
          let k = there.2 in
          let now = (back k.is_open).0 in
          let same = is there.0 there.1 (opens.same there.0 there.1 k) in
          record {
            home = home;
            place = place;
            stored = there.0;
            ours = subst (λ (db : Database). IsOurs db.schema) now k.ours;
            holds =
                subst (λ (l : List Entry). Holds home old.committed.trees there.0 l) (sym same)
                (subst (λ (db : Database). Holds home db.trees there.0 there.1) now k.holds);
          }
    ]

-- ---- the files

pub found : (files : Image) (c : State) → IsFresh c → IsLive c → FindsIn files c
    → IsFound files c.committed
found files c fresh live finds = record {
  found = finds.reads;
  only = finds.holds;
  sound = (live fresh.is_open).1;
}

pub read_from : {K : Type 0} (IsHonest : K → Type 0) (files : Image) (c : State)
    (r : Result LogValue StoredLogFault) → (HasCleanDisk c → IsFound files c.committed)
    → IfOk r (λ log. (last : K) × (IsHonest last → HasCleanDisk c × HasLog c.committed log.entries))
    → IfOk r (λ log. IsReadFrom IsHonest files log.entries)
read_from IsHonest files c r finds h =
    IfOk-weaker r _ _ (λ log k. (
      k.0,
      λ honest. let is = k.1 honest in (c.committed, finds is.0, is.1),
    )) h
