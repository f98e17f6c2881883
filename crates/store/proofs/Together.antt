-- Several changes in one transaction, and its end.
use Rattle.std.proofs.Common.{◌≡◌, inl, inr, ℕ, List, [], ◌∷◌, ◌++◌, length, Some, Ok, Err, Result}
use Rattle.std.proofs.Common.{OnOk, OnErr, IsTrue, ◌∙◌, ap, ap₂, sym, subst, ◌≤◌, arith, ◌-◌}
use Rattle.std.proofs.Common.{length-append, true, false, refl, take, drop, get_or}
use Rattle.std.specs.Prelude.{IfErr}
use Rattle.sqlite.specs.{declared.error.Error.Error, Effect.Database, Steps.FailsToCommit}
use Rattle.sqlite.specs.State.{State, HasCleanDisk, Survives, Shows, IsRolledBack, KeepsCounts}
use Rattle.sqlite.specs.Tree.{Trees}
use Rattle.acceptor.specs.declared.{entry.Entry.Entry, stored.Stored.Stored, stored.Change.Change}
use Rattle.acceptor.specs.declared.stored.Change.TheVariants.{Promised, Voted, Tried, Appended}
use Rattle.acceptor.specs.Storing.{stored_after, log_after}
use Rattle.store.specs.{declared.home.Home.Home, Layout.IsOurs, Holding.Holds, Kept.Keeps}
use Rattle.store.specs.{Ranges.most_entries, Changes.stored_after_all, Changes.log_after_all}
use Rattle.store.specs.Inside.{Inside, GoesOn, MakesInside, MakesAllInside, SavesAllAt, TellsLength}
use Rattle.store.proofs.{Patterns.whole, Saving.Settles}

-- what a pattern of a slice says
pub one_and_more : (xs : List Change) (a : Change) → 1 ≤ length xs → a ≡ get_or xs 0 a
    → xs ≡ a ∷ take (length xs - 1) (drop 1 xs)
one_and_more [] a some p = absurd (omega arith)
one_and_more (x ∷ more) a some p =
    ap₂ ◌∷◌ (sym p) (sym (whole more (length (x ∷ more) - 1) (omega arith)))

-- a log only grows
grows : (log : List Entry) (changes : List Change) → length log ≤ length (log_after_all log changes)
grows log [] = omega arith
grows log (Promised b ∷ cs) = grows log cs
grows log (Voted v ∷ cs) = grows log cs
grows log (Tried n ∷ cs) = grows log cs
grows log (Appended e ∷ cs) =
    omega (arith, grows (log ++ e ∷ []) cs, length-append log (e ∷ []))

-- what tells the length after one change
abbrev pub TellsOne : ℕ → Change → ℕ → Type 0
TellsOne len change after =
    (log : List Entry) → len ≡ length log → length (log_after log (Some change)) ≤ most_entries
    → after ≡ length (log_after log (Some change))

pub length_none : (len : ℕ) (changes : List Change) → changes ≡ [] → TellsLength len changes len
length_none len changes none log is long = rw none is

pub length_more : (len next after : ℕ) (changes rest : List Change) (change : Change)
    → changes ≡ change ∷ rest → TellsOne len change next → TellsLength next rest after
    → TellsLength len changes after
length_more len next after changes rest change both one more log is long =
    let far : length (log_after_all (log_after log (Some change)) rest) ≤ most_entries =
    subst (λ cs. length (log_after_all log cs) ≤ most_entries) both long in
    let near : length (log_after log (Some change)) ≤ most_entries =
    omega (arith, far, grows (log_after log (Some change)) rest) in
    subst (λ cs. after ≡ length (log_after_all log cs)) (sym both)
    (more (log_after log (Some change)) (one log is near) far)

pub each_none : (at : ℕ) (changes : List Change) (old : State) (x : Unit {0})
    → changes ≡ [] → MakesAllInside at changes old old (Ok x)
each_none at changes old x none clean home t more past k last long =
    subst (λ cs. GoesOn home (stored_after_all t cs) (log_after_all more cs) past old (Ok x))
    (sym none) (k, tt)

pub each_stops : (at : ℕ) (changes : List Change) (change : Change) (old new : State)
    (e : Error) → MakesInside {X = ℕ} at change old new (Err e)
    → MakesAllInside {X = Unit {0}} at changes old new (Err e)
each_stops at changes change old new e stops clean home t more past k last long =
    (tt, (stops clean home t more past k last).1)

pub each_more : (at next count : ℕ) (changes rest : List Change) (change : Change)
    (old mid new : State) (r : Result (Unit {0}) Error)
    → MakesInside at change old mid (Ok count) → TellsOne at change next
    → Survives mid new (λ _. ⊥) → MakesAllInside next rest mid new r → changes ≡ change ∷ rest
    → MakesAllInside at changes old new r
each_more at next count changes rest change old mid new r one tells lives all both clean home t more
    past k last long =
    let far : length (log_after_all (log_after more (Some change)) rest) ≤ most_entries =
    subst (λ cs. length (log_after_all more cs) ≤ most_entries) both long in
    let near : length (log_after more (Some change)) ≤ most_entries =
    omega (arith, far, grows (log_after more (Some change)) rest) in
    let early : HasCleanDisk mid = omega (arith, lives.clean, clean) in
    subst (λ cs. GoesOn home (stored_after_all t cs) (log_after_all more cs) past new r) (sym both)
    (all clean home (stored_after t (Some change)) (log_after more (Some change)) past
    (one early home t more past k last).0 (tells more last near) far)

-- ---- and the end of the transaction

abbrev pub begun : State → State
begun old = record old { in_transaction = true }

begins : (home : Home) (s : Stored) (log : List Entry) (old : State) → Keeps home s log old
    → Inside home s log old.committed (begun old)
begins home s log old k =
    record { is_open = k.is_open; mode = refl; committed = refl; ours = k.ours; holds = k.holds }

kept_again : (home : Home) (s : Stored) (log : List Entry) (old new : State) → Keeps home s log old
    → IsTrue new.is_open → new.in_transaction ≡ false → new.now ≡ old.committed
    → new.committed ≡ old.committed → Keeps home s log new
kept_again home s log old new k live mode now past =
    let same = sym (now ∙ sym k.settled) in
    record {
      is_open = live;
      autocommit = mode;
      settled = now ∙ sym past;
      ours = subst (λ (d : Database). IsOurs d.schema) same k.ours;
      holds = subst (λ (d : Database). Holds home d.trees s log) same k.holds;
    }

left_before : (home : Home) (s : Stored) (log : List Entry) (old : State) → Settles old
    → Keeps home s log old → (db : Trees) → old.may_leave db → Holds home db s log
left_before home s log old settles k db left =
    let same = settles db k.is_open left ∙ ap (λ (d : Database). d.trees) (sym k.settled) in
    subst (λ d. Holds home d s log) (sym same) k.holds

-- one of the changes was refused, and the transaction is dropped
pub all_stops : (old mid new : State) (len : ℕ) (changes : List Change) (e : Error) → Settles old
    → MakesAllInside {X = Unit {0}} len changes (begun old) mid (Err e)
    → Survives (begun old) mid (λ _. ⊥)
    → (HasCleanDisk new → IsRolledBack mid new) → Survives mid new (λ _. ⊥)
    → SavesAllAt {X = Unit {0}} len changes old new (Err e)
all_stops old mid new len changes e settles all lives back dies clean home s log k last long =
    let early : HasCleanDisk mid = omega (arith, dies.clean, clean) in
    let undone = back clean in
    let past = (all early home s log old.committed (begins home s log old k) last long).1 in
    record {
      ok = tt;
      err = λ live.
          kept_again home s log old new k live undone.autocommit
          ((undone.undone live).0 ∙ past (undone.was_open live))
          ((undone.undone live).1 ∙ past (undone.was_open live));
      crash = λ db left. elim (dies.crash clean db left) [
        | inr never ↦ absurd never
        | inl before ↦ elim (lives.crash early db before) [
          | inr never ↦ absurd never
          | inl first ↦ inl (left_before home s log old settles k db first)
        ]
      ];
    }

-- all were made, and the transaction is committed, or that fails
pub all_made : (old mid new : State) (len : ℕ) (changes : List Change) (x : Unit {0})
    (r : Result (Unit {0}) Error) → Settles old → MakesAllInside len changes (begun old) mid (Ok x)
    → Survives (begun old) mid (λ _. ⊥)
    → (HasCleanDisk new → OnOk r (IsTrue mid.in_transaction × Shows mid new mid.now mid.now false
    × KeepsCounts mid new × (new.marks ≡ [])))
    → (HasCleanDisk new → IfErr r (FailsToCommit mid new))
    → Survives mid new (λ db. db ≡ mid.now.trees) → SavesAllAt len changes old new r
all_made old mid new len changes x r settles all lives commits fails dies clean home s log k last
    long =
    record {
      ok = went_ok r (commits clean);
      err = went_err r (fails clean);
      crash = λ db left. elim (dies.crash clean db left) [
        | inr is ↦ inr (subst (λ d. Holds home d (stored_after_all s changes)
            (log_after_all log changes)) (sym is) inside.holds)
        | inl before ↦ elim (lives.crash early db before) [
          | inr never ↦ absurd never
          | inl first ↦ inl (left_before home s log old settles k db first)
        ]
      ];
    }
  where
    early : HasCleanDisk mid
    early = omega (arith, dies.clean, clean)

    inside : Inside home (stored_after_all s changes) (log_after_all log changes) old.committed mid
    inside = (all early home s log old.committed (begins home s log old k) last long).0

    went_ok : (r : Result (Unit {0}) Error)
        → OnOk r (IsTrue mid.in_transaction × Shows mid new mid.now mid.now false
        × KeepsCounts mid new × (new.marks ≡ []))
        → OnOk r (Keeps home (stored_after_all s changes) (log_after_all log changes) new)
    went_ok (Err e) h = tt
    went_ok (Ok y) h = record {
      is_open = h.1.is_open;
      autocommit = h.1.mode;
      settled = h.1.now_is ∙ sym h.1.committed_is;
      ours = subst (λ (d : Database). IsOurs d.schema) (sym h.1.now_is) inside.ours;
      holds =
          subst (λ (d : Database). Holds home d.trees (stored_after_all s changes)
          (log_after_all log changes)) (sym h.1.now_is) inside.holds;
    }

    went_err : (r : Result (Unit {0}) Error) → IfErr r (FailsToCommit mid new)
        → OnErr r (IsTrue new.is_open → Keeps home s log new)
    went_err (Ok y) h = tt
    went_err (Err e) (inl h) = λ (live : IsTrue new.is_open).
        kept_again home s log old new k live h.3.autocommit
        ((h.3.undone live).0 ∙ inside.committed) ((h.3.undone live).1 ∙ inside.committed)
    went_err (Err e) (inr h) = λ (live : IsTrue new.is_open).
        absurd (let off = h.1 in let on = inside.mode in cc)
