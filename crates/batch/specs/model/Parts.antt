-- One request for a part of a log.
use Rattle.std.specs.Prelude.{◌≡◌, ◌++◌, ◌∷◌, [], ℕ, ◌≤◌, List, length, Result, Ok}
use Rattle.acceptor.specs.declared.entry.Entry.{Entry}
use Rattle.wire.specs.declared.frame.FrameBody.{FrameBody}
use Rattle.batch.specs.{Asking.IsAnswer, Logs.IsNoPart, Logs.IsPart, Logs.log_of}
use Rattle.batch.specs.Dialing.{GoesBy, Way, asked_so}
use Rattle.batch.specs.declared.{asking.Receiver.Receiver, fault.BatchFault.BatchFault}

-- the request for what is behind these entries was made, and answered by a part that comes behind
-- them
pub record AddsPart (w : Way) (r : Receiver) (before : List Entry) (told : ℕ) (after : List Entry)
    (len : ℕ) : Type 0 where
  pub answer : FrameBody
  pub entries : List Entry
  pub goes : GoesBy w (asked_so (log_of r (length before)) (Ok answer) ∷ [])
  pub comes : IsAnswer (log_of r (length before)) answer
  pub part : IsPart (length before) told len entries answer
  pub behind : after ≡ before ++ entries
  pub most : len ≤ 65536

-- it was made, and no part came
pub record FailsPart (w : Way) (r : Receiver) (before : List Entry) (told : ℕ) (f : BatchFault)
    : Type 0 where
  pub answer : Result FrameBody BatchFault
  pub goes : GoesBy w (asked_so (log_of r (length before)) answer ∷ [])
  pub fails : IsNoPart f (length before) told answer
