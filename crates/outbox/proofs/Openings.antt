-- What a journal's first line and its other lines come to.
use Rattle.std.proofs.Common.{◌≡◌, ℕ, Bool, true, false, List, ◌∷◌, Result, Err, ap, ◌∙◌}
use Rattle.std.proofs.Common.{if◌then◌else◌}
use Rattle.std.specs.Prelude.{bytes_eq}
use Rattle.texts.specs.Fields.{cut}
use Rattle.outbox.specs.{declared.journal.JournalFault.JournalFault, Items.ItemsOf, Items.no_items}
use Rattle.outbox.specs.Journals.{IsFaultOf, after_lines, fault_of_first, read_back, read_lines}
use Rattle.outbox.specs.Lines.{HallOf, hall_line, parts, whole_lines}
use Rattle.outbox.proofs.FirstLines.{first_of}
use Rattle.outbox.specs.declared.journal.JournalFault.TheVariants as fault

pub is_fault : (read : Result ItemsOf JournalFault) (why : JournalFault) → read ≡ Err why
    → IsFaultOf read why
is_fault read fault.NoMemory e = tt
is_fault read _ e = e

module _ (hall : HallOf) (now : ℕ) (bytes : List ℕ) where
  module _ (line next : List ℕ) (is : parts bytes ≡ line ∷ parts next) where
    by_first : (b : Bool) → bytes_eq line (hall_line hall) ≡ b → read_back hall now bytes
        ≡ (if b then after_lines no_items now 2 (whole_lines next)
        else Err (fault_of_first (cut 32 line).0))
    by_first b same =
        ap (read_lines hall now) (first_of bytes line next is).0
        ∙ ap (λ t. if t then after_lines no_items now 2 (whole_lines next)
        else Err (fault_of_first (cut 32 line).0)) same

    pub read_named : bytes_eq line (hall_line hall) ≡ true
        → read_back hall now bytes ≡ after_lines no_items now 2 (whole_lines next)
    read_named same = by_first true same

    pub read_other : bytes_eq line (hall_line hall) ≡ false
        → read_back hall now bytes ≡ Err (fault_of_first (cut 32 line).0)
    read_other other = by_first false other
