-- What a keeper in memory has, and what a save and a load make of it (the project's own).
use Rattle.std.specs.Prelude.{ℕ, ◌≡◌, ◌⊎◌, ◌+◌, ◌-◌, ◌==◌, ◌||◌, Bool, true, false, IsTrue}
use Rattle.std.specs.Prelude.{if◌then◌else◌, List, [], Option, Some, None, Result, Ok, Err, nat_lt}
use Rattle.acceptor.specs.declared.{entry.Entry.Entry, stored.Stored.Stored, stored.Change.Change}
use Rattle.acceptor.specs.Storing.{first_stored, stored_after, log_after}
use Rattle.learner.specs.Logs.{LogValue}
use Rattle.store.specs.declared.{home.Home.Home, failing.Failing.Failing, fault.SaveFault.SaveFault}
use Rattle.store.specs.declared.fault.SaveFault.TheVariants.{Device, NoMemory, Down}
use Rattle.store.specs.{declared.fault.LoadFault.LoadFault, Keeping.most_failures, Ranges.IsFit}
use Rattle.store.specs.declared.fault.LoadFault.TheVariants as load

-- what it holds, which save it was told to fail at, and what it has failed
pub record MemoryState : Type 0 where
  pub home : Home
  pub stored : Stored
  pub log : List Entry
  pub failing : Option Failing
  pub failures : ℕ
  pub down : Bool

-- a keeper that was made for this desk, with the first state and the empty log
abbrev pub first_memory : Home → MemoryState
first_memory home = record {
  home = home;
  stored = first_stored;
  log = [];
  failing = None;
  failures = 0;
  down = false;
}

abbrev pub is_stopped : MemoryState → Bool
is_stopped m = m.down || (m.failures == most_failures)

-- the save that fails is one save nearer
abbrev pub nearer : Option Failing → Option Failing
nearer None = None
nearer (Some f) =
    if nat_lt 1 f.saves then Some (record { saves = f.saves - 1; kept = f.kept }) else None

-- this save is the one that fails, and its change is kept or not
abbrev pub FailsNow : Bool → MemoryState → Type 0
FailsNow kept m = m.failing ≡ Some (record { saves = 1; kept = kept })

abbrev pub with_change : MemoryState → Change → MemoryState
with_change m change =
    record m { stored = stored_after m.stored (Some change); log = log_after m.log (Some change) }

abbrev pub after_failure : MemoryState → MemoryState
after_failure m = record m { failing = None; failures = m.failures + 1; down = true }

-- A save fails where it was told to, and there alone.
abbrev pub MemorySaves : MemoryState → Change → Result (Unit {0}) SaveFault → MemoryState → Type 0
MemorySaves old change (Ok _) new =
    ((kept : Bool) → ¬ FailsNow kept old)
    × (new ≡ record (with_change old change) { failing = nearer old.failing })
MemorySaves old change (Err NoMemory) new = new ≡ old
MemorySaves old change (Err Device) new =
    (FailsNow true old × (new ≡ after_failure (with_change old change)))
    ⊎ (FailsNow false old × (new ≡ after_failure old))
MemorySaves old change (Err Down) new = IsTrue (is_stopped old) × (new ≡ old)

-- A load gives what is held, and is Damaged where that is out of its ranges or the count of
-- failures is at its end.
abbrev pub MemoryLoads : MemoryState → Result (Stored × LogValue) LoadFault → MemoryState → Type 0
MemoryLoads old (Ok r) new =
    (r.0 ≡ old.stored) × (r.1.entries ≡ old.log) × (new ≡ record old { down = false })
MemoryLoads old (Err load.NoMemory) new = new ≡ old
MemoryLoads old (Err load.Damaged) new =
    ((old.failures ≡ most_failures) ⊎ (¬ IsFit old.home.desks old.stored old.log)) × (new ≡ old)
MemoryLoads old (Err load.Device) new = ⊥
