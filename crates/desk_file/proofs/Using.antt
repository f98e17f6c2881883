-- A use that begins and one that ends.
use Rattle.std.proofs.Common.{◌≡◌, ◌⊎◌, inl, inr, refl, true, false, ℕ, List, [], ◌∷◌, ◌≤◌, length}
use Rattle.std.proofs.Common.{subst, sym, arith, Result, Ok, Err, OnOk, Option, Some, IfSome}
use Rattle.sqlite_disk.specs.{Disk.Mixed, Disk.Torn, Events.replay, Modelled.start_of}
use Rattle.sqlite_disk.specs.declared.{Files.Files, modelled.Modelled.Modelled, start.Start.Ghosts}
use Rattle.sqlite_std_file.specs.{File.IsFresh, declared.host.Host.Host}
use Rattle.desk_file.specs.Marks.{IsBegun, IsBetween, IsLog, IsMarked, number_of, uses_of}
use Rattle.desk_file.proofs.Marking.{same_count}
use Rattle.sqlite_disk.specs.declared.Disk as disk
use Rattle.sqlite_disk.specs.declared.calls.Calls as calls

-- ---- files as they are opened

module _ {S : Type 0} {g : calls.Ghosts Host} (start : Ghosts S) where
  pub fresh_log : (f : Modelled Host S g start) → IsFresh true f
      → (replay (start_of start f) f.calls.log.events).seen ≡ start.log
  fresh_log f fresh = rw fresh.1 (rw fresh.0 refl)

  pub fresh_db : (f : Modelled Host S g start) → IsFresh false f
      → (replay (start_of start f) f.calls.log.events).seen ≡ start.db
  fresh_db f fresh = rw fresh.1 (rw fresh.0 refl)

pub as_they_were : {l m d e : List ℕ} (Are : List ℕ → List ℕ → Type 0) → l ≡ m → d ≡ e → Are l d
    → Are m e
as_they_were {l} {m} {d} {e} Are one two are =
    subst (λ k. Are k e) one (subst (λ k. Are l k) two are)

pub tells_ok : {E : Type 0} (A B : Type 0) (o : Result (Unit {0}) E)
    (Are : List ℕ → List ℕ → Type 0)
    {l m d e : List ℕ} → l ≡ m → d ≡ e → OnOk o (A → B → Are l d) → OnOk o (A → B → Are m e)
tells_ok A B (Ok _) Are one two are = λ log db. as_they_were Are one two (are log db)
tells_ok A B (Err _) Are one two are = tt

pub there_ok : {T E : Type 0} (o : Result (Unit {0}) E) (P : T → Type 0) (x : T) → OnOk o (P x)
    → OnOk o ((y : T) × P y)
there_ok (Ok _) P x p = (x, p)
there_ok (Err _) P x p = tt

pub some_is : {T : Type 0} (P : T → Type 0) (o : Option T) (x : T) → o ≡ Some x → IfSome o P → P x
some_is P o x is p = subst (λ m. IfSome m P) is p

-- ---- a use that ends, and the next one

-- what a cut of the power leaves while the first byte is taken away
pub between : {D : Type 0} (g : disk.Ghosts D) (old : Files D) (log db d : List ℕ)
    → g.may_leave old.db d → 64 ≤ length d → g.may_leave old.log log → Mixed 60 (0 ∷ []) d db
    → IsBetween g old log db
between g old log db d left long of_log mixed =
    elim (mixed.each 0 (omega arith) (omega arith)) [
      | inl same ↦ inl (d, left, same, of_log)
      | inr zero ↦ inr (inl (λ (marked : IsMarked db). marked.1 zero))
    ]

-- what it leaves while the next use begins
pub begun_or_free : (log db s : List ℕ) (n : ℕ) (Left : List ℕ → Type 0) → (Left db → db ≡ s)
    → ¬ IsMarked s → Left db ⊎ IsBegun n log db
    → (¬ IsMarked db) ⊎ (IsMarked db × IsLog (number_of db) log)
begun_or_free log db s n Left only free (inl left) =
    inl (subst (λ k. ¬ IsMarked k) (sym (only left)) free)
begun_or_free log db s n Left only free (inr (inl none)) = inl none
begun_or_free log db s n Left only free (inr (inr begun)) =
    inr (begun.0, subst (λ k. IsLog k log) (sym begun.1) begun.2)

pub counted_still : (n : ℕ) (d c : List ℕ) → (64 ≤ length d) × (n ≤ uses_of d) → Torn 60 1 d c
    → (64 ≤ length c) × (n ≤ uses_of c)
counted_still n d c was torn =
    let long = was.0 in
    let longer = torn.no_shorter in
    (omega arith, subst (λ k. n ≤ k) (sym (same_count d c long torn)) was.1)

pub counted_at : (s t c : List ℕ) → 64 ≤ length s → Torn 60 1 s t → c ≡ t
    → (64 ≤ length c) × (uses_of t ≤ uses_of c)
counted_at s t c long torn is =
    let longer = torn.no_shorter in (
      subst (λ k. 64 ≤ length k) (sym is) (omega arith),
      subst (λ k. uses_of t ≤ uses_of k) (sym is) (omega arith),
    )
