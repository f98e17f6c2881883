-- The keeper that is opened on a desk's files.
use Rattle.std.proofs.Common.{◌≡◌, inl, inr, ◌∙◌, refl, sym, ap, subst, List, [], Result, Ok, Err}
use Rattle.std.proofs.Common.{IfOk, IfErr, Bool, false, IsTrue}
use Rattle.sqlite.specs.{Effect.Database, Effect.IsDatabase, State.Opens as IsFresh, State.IsLive}
use Rattle.sqlite.specs.{Recovery.Image, Start.FindsIn, Tree.Trees, State.HasCleanDisk, State.State}
use Rattle.acceptor.specs.Storing.{first_stored}
use Rattle.acceptor.specs.declared.{entry.Entry.Entry, stored.Stored.Stored}
use Rattle.store.specs.{Holding.HasRow, Holding.Holds, Layout.no_schema}
use Rattle.store.specs.{Kept.HasOther, Kept.IsBare, Kept.Keeps, Opening.Opens, Opening.Refuses}
use Rattle.store.specs.declared.fault.OpenFault.{OpenFault, TheVariants.WrongDesk}
use Rattle.store.specs.declared.{home.Home.Home, keeper.Keeper.Ghosts}
use Rattle.desk_file.specs.Files.{HasNoTable, HasTable, HeldAs, HeldOther, IsStateIn, KeepsFirst}
use Rattle.desk_file.specs.Files.{KeepsHeld, KeepsThere, StandsIn, TellsOther}

-- what a connection holds that is new is the last commit
bare_before : (c : State) → IsFresh c → IsLive c → c.now.schema ≡ no_schema
    → HasNoTable c.committed.trees
bare_before c fresh live bare =
    subst (λ schema. IsDatabase (record { schema = schema; trees = c.committed.trees }))
    (ap (λ (d : Database). d.schema) (sym fresh.clean) ∙ bare) (live fresh.is_open).1

pub held_before : (c : State) (home : Home) (s : Stored) (log : List Entry) → Keeps home s log c
    → Holds home c.committed.trees s log
held_before c home s log k = subst (λ (d : Database). Holds home d.trees s log) k.settled k.holds

-- what a keeper keeps that was opened over such a connection was held by the files
held_as : (files : Image) (home : Home) (c : State) (keeps : Stored → List Entry → Type 0)
    (Has : Stored → List Entry → Trees → Type 0) → (HasCleanDisk c → FindsIn files c)
    → (IsBare c → Has first_stored [] c.committed.trees)
    → ((s : Stored) (log : List Entry) → Keeps home s log c → Has s log c.committed.trees)
    → Opens home c keeps
    → (s : Stored) × (log : List Entry) × keeps s log × HeldAs files (Has s log)
held_as files home c keeps Has found bare there opens =
    elim opens.found [
      | inl none ↦ (first_stored, [], opens.made none, by first_stored [] (bare none))
      | inr k ↦ (k.0, k.1, opens.same k.0 k.1 k.2, by k.0 k.1 (there k.0 k.1 k.2))
    ]
  where
    by : (s : Stored) (log : List Entry) → Has s log c.committed.trees → HeldAs files (Has s log)
    by s log has = record {
      trees = c.committed.trees;
      found = (found opens.honest).reads;
      only = (found opens.honest).holds;
      has = has;
    }

pub opened_on : {K E : Type 0} (k : Ghosts K) (files : Image) (home : Home) (c : State)
    (r : Result K E) → (HasCleanDisk c → IsFresh c × IsLive c) → (HasCleanDisk c → FindsIn files c)
    → IfOk r (λ keeper. k.home_of keeper ≡ home) → IfOk r (λ keeper. k.failures_of keeper ≡ 0)
    → IfOk r (λ keeper. k.is_settled keeper)
    → IfOk r (λ keeper. k.is_honest keeper → Opens home c (k.keeps keeper))
    → IfOk r (KeepsHeld k files home)
opened_on k files home c (Ok keeper) fresh found place none settled opens = record {
  place = place;
  fresh = none;
  settled = settled;
  held =
      λ honest.
      let o = opens honest in
      let new = fresh o.honest in
      held_as files home c (k.keeps keeper) (IsStateIn home) found
      (λ bare. inr (record { bare = bare_before c new.0 new.1 bare; state = refl; empty = refl }))
      (λ s log there. inl (held_before c home s log there)) o;
}
opened_on k files home c (Err e) fresh found place none settled opens = tt

-- ---- where one is there, and where none is

pub is_there : (b : Bool) (P : Type 0) → (P → IsTrue b) → b ≡ false → ¬ P
is_there b P tells not p = absurd (cc (tells p, not))

pub there_on : {K E : Type 0} (k : Ghosts K) (files : Image) (home : Home) (c : State)
    (r : Result K E) → (HasCleanDisk c → IsFresh c × IsLive c) → (HasCleanDisk c → FindsIn files c)
    → ¬ IsBare c
    → IfOk r (λ keeper. k.home_of keeper ≡ home) → IfOk r (λ keeper. k.failures_of keeper ≡ 0)
    → IfOk r (λ keeper. k.is_settled keeper)
    → IfOk r (λ keeper. k.is_honest keeper → Opens home c (k.keeps keeper))
    → IfOk r (KeepsThere k files home)
there_on k files home c (Ok keeper) fresh found there place none settled opens = record {
  place = place;
  fresh = none;
  settled = settled;
  held =
      λ honest. held_as files home c (k.keeps keeper) (StandsIn home) found
      (λ bare. absurd (there bare)) (held_before c home) (opens honest);
}
there_on k files home c (Err e) fresh found there place none settled opens = tt

pub first_on : {K : Type 0} (k : Ghosts K) (files : Image) (home : Home) (c : State) (keeper : K)
    → (HasCleanDisk c → IsFresh c × IsLive c) → (HasCleanDisk c → FindsIn files c) → IsBare c
    → k.home_of keeper ≡ home → k.failures_of keeper ≡ 0 → k.is_settled keeper
    → (k.is_honest keeper → Opens home c (k.keeps keeper)) → KeepsFirst k files home keeper
first_on k files home c keeper fresh found bare place none settled opens = record {
  place = place;
  fresh = none;
  settled = settled;
  held =
      λ honest.
      let o = opens honest in
      let new = fresh o.honest in (
        first_stored,
        [],
        o.made bare,
        record {
          trees = c.committed.trees;
          found = (found o.honest).reads;
          only = (found o.honest).holds;
          has = record { bare = bare_before c new.0 new.1 bare; state = refl; empty = refl };
        },
      );
}

pub table_on : (files : Image) (c : State)
    → (HasCleanDisk c → IsFresh c × IsLive c) → (HasCleanDisk c → FindsIn files c) → ¬ IsBare c
    → HasCleanDisk c → HeldAs files HasTable
table_on files c fresh found there clean =
    let new = fresh clean in
    record {
      trees = c.committed.trees;
      found = (found clean).reads;
      only = (found clean).holds;
      has = (
        c.committed.schema,
        λ bare. there (ap (λ (d : Database). d.schema) new.0.clean ∙ bare),
        (new.1 new.0.is_open).1,
      );
    }

-- a connection over the files that has another desk's row
other_row : (files : Image) (home : Home) (c : State) → IsFresh c → FindsIn files c
    → HasOther home c → HeldOther files home
other_row files home c fresh finds has = record {
  trees = c.committed.trees;
  found = finds.reads;
  only = finds.holds;
  away = has.0;
  place = has.2.place;
  other = has.3;
  state = has.1;
  row = subst (λ (d : Database). HasRow has.0 has.1 d.trees) fresh.clean has.2.row;
}

-- so it was where a connection that was dropped says that the row is another desk's
pub other_on : {D K : Type 0} (state_of : D → State) (files : Image) (home : Home) (c : State)
    (r : Result K OpenFault)
    → (HasCleanDisk c → IsFresh c × IsLive c) → (HasCleanDisk c → FindsIn files c)
    → IfErr r (λ fault. (dropped : D)
    × (HasCleanDisk (state_of dropped) → Refuses home c (state_of dropped) fault))
    → r ≡ Err WrongDesk → TellsOther state_of files home
other_on state_of files home c (Ok keeper) fresh found told is = absurd cc
other_on state_of files home c (Err fault) fresh found told is = (
  told.0,
  λ clean.
      let refused = told.1 clean in
      let new = fresh refused.honest in
      other_row files home c new.0 (found refused.honest) (refused.tells.wrong cc),
)
