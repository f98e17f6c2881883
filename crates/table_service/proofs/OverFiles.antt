-- What is opened over a journal's file.
use Rattle.std.proofs.Common.{◌≡◌, ◌∙◌, ◌+◌, ℕ, List, Option, None, Some, Ok, ap, length, take}
use Rattle.outbox.specs.{Journals.read_back, Lines.HallOf, Lines.cut_line}
use Rattle.outbox.specs.Outboxes.{OutboxOf, new_outbox}
use Rattle.table_service.specs.Disks.{DiskOf, JournalOf, OpensOver}
use Rattle.table_service.{specs.Openings.HasBytes, specs.Openings.IsOverIn, proofs.Fronts.cut_from}

pub is_over : (hall : HallOf) (now whole : ℕ) (bytes : List ℕ) (h : Option DiskOf) (o : OutboxOf)
    (file : JournalOf) → HasBytes bytes h → read_back hall now bytes ≡ Ok o.list
    → o ≡ new_outbox hall.number 1 o.list → whole + length (cut_line bytes) ≡ length bytes
    → OpensOver whole h file → IsOverIn hall now bytes h o file
is_over hall now whole bytes None o file are reads fresh long opens = tt
is_over hall now whole bytes (Some d) o file are reads fresh long opens = record {
  lines = take whole bytes;
  there = opens.lines ∙ ap (λ (xs : List ℕ). Some (take whole xs)) are;
  synced = opens.synced;
  started = record {
    list = o.list;
    reads = reads;
    fresh = fresh;
    whole = cut_from bytes whole long;
  };
}
