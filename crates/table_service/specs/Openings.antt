-- A journal's file that is opened (the project's own).
use Rattle.std.specs.Prelude.{◌≡◌, ◌==◌, ℕ, if◌then◌else◌, List, Option, None, Some}
use Rattle.std.specs.List.{list_any}
use Rattle.outbox.specs.{Histories.IsStarted, Histories.world, Outboxes.OutboxOf}
use Rattle.outbox.specs.Lines.{HallOf, hall_line, with_end}
use Rattle.table_service.specs.Disks.{DiskOf, IsSynced, JournalOf, Told, lines_in}

-- an outbox over the file of a hall's journal: it is read from these bytes, and the file has their
-- whole lines, and nothing after them
pub record IsOver (hall : HallOf) (desk now : ℕ) (bytes : List ℕ) (outbox : OutboxOf)
    (file : JournalOf) : Type 0 where
  pub lines : List ℕ
  pub there : lines_in file ≡ Some lines
  pub synced : IsSynced file
  pub started : IsStarted hall desk now bytes (world outbox lines)

-- where that is known of a file
abbrev pub IsOverIn : HallOf → (now : ℕ) → List ℕ → Option DiskOf → OutboxOf → JournalOf → Type 0
IsOverIn hall now bytes None outbox file = Unit {0}
IsOverIn hall now bytes (Some d) outbox file = IsOver hall 1 now bytes outbox file

-- a file has these bytes, where that is known
abbrev pub HasBytes : List ℕ → Option DiskOf → Type 0
HasBytes bytes None = Unit {0}
HasBytes bytes (Some d) = d.bytes ≡ bytes

-- it has these bytes after a call, where that is known; and it is known, where it was before
abbrev pub HasNow : List ℕ → Option DiskOf → Option DiskOf → Type 0
HasNow bytes old new = Told (λ old new. new.bytes ≡ bytes) old new

-- a file in which no line was written to its end is begun with the hall's
abbrev pub journal_bytes : HallOf → List ℕ → List ℕ
journal_bytes hall bytes =
    if list_any (λ b. b == 10) bytes then bytes else with_end (hall_line hall)

-- the journal of a hall is opened in a file: it is that of its bytes, or it is begun
abbrev pub OpensIn : HallOf → (now : ℕ) → Option DiskOf → OutboxOf → JournalOf → Type 0
OpensIn hall now None outbox file = Unit {0}
OpensIn hall now (Some d) outbox file =
    IsOver hall 1 now (journal_bytes hall d.bytes) outbox file
