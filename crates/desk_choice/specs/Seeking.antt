-- Desks that are asked one after the other, from the last one to the first, until one answers (the
-- project's own).
use Rattle.std.specs.Prelude.{◌≡◌, ◌≢◌, ◌⊎◌, ◌∷◌, [], ℕ, zero, suc, List, Option, None, Some}
use Rattle.std.specs.Prelude.{Result, Ok, Err}
use Rattle.batch.specs.Dialing.{Adds, Dialed, Place, asked_so}
use Rattle.batch.specs.declared.fault.BatchFault.{BatchFault}
use Rattle.client.specs.Standings.{status_request}
use Rattle.desk_requests.specs.{Statuses.fault_of_batch, declared.fault.DeskFault.DeskFault}
use Rattle.hall_file.specs.{Halls.address_at, Halls.texts_of, declared.hall_file.HallFile.HallFile}
use Rattle.wire.specs.declared.frame.FrameBody.{FrameBody}
use Rattle.desk_requests.specs.declared.fault.DeskFault.TheVariants as fault
use Rattle.lines.specs.declared.fault.RunFault.TheVariants as run
use Rattle.wire.specs.declared.frame.FrameBody.TheVariants as what

-- the hall whose desks are asked, where they listen, for how many seconds each is waited for, and
-- under which key they are asked
pub record Seeking : Type 0 where
  pub hall : ℕ
  pub addresses : List (List ℕ)
  pub patience : ℕ
  pub key : Option (List ℕ)

abbrev pub seeking : HallFile → ℕ → Option (List ℕ) → Seeking
seeking file patience key =
    record { hall = file.hall; addresses = texts_of file; patience = patience; key = key }

-- where a desk is asked that listens here
abbrev pub place_in : Seeking → List ℕ → Place
place_in s address = record { to = address; patience = s.patience; key = s.key }

-- why the answer to a Status says nothing; none where it says how the desk is
abbrev pub why_not : Result FrameBody BatchFault → Option DeskFault
why_not (Ok (what.Standing standing)) = None
why_not (Ok _) = Some fault.NoAnswer
why_not (Err e) = Some (fault_of_batch e)

-- the desk of this number was asked for its status once, over a connection of its own to where it
-- listens, and this came of it; nothing else was asked
pub record AsksDesk (s : Seeking) (desk : ℕ) (answer : Result FrameBody BatchFault)
    (old new : Option (List Dialed)) : Type 0 where
  pub address : List ℕ
  pub listens : address_at s.addresses desk ≡ Some address
  pub asked : Adds (place_in s address) old new (asked_so (status_request s.hall desk) answer ∷ [])

abbrev pub no_memory : DeskFault
no_memory = fault.Run run.NoMemory

-- The desk of this number was asked, and those below it, each after the one above it had said
-- nothing: the number of the first that answered is found. Where none answers, it is the fault of
-- desk 1; where memory runs out, no further one is asked.
abbrev pub Seeks : Seeking → (desk : ℕ) → (old new : Option (List Dialed)) → Result ℕ DeskFault
    → Type 0
Seeks s zero old new found = ⊥
Seeks s (suc n) old new found =
    (answer : Result FrameBody BatchFault) × (mid : Option (List Dialed))
    × AsksDesk s (suc n) answer old mid
    × (((why_not answer ≡ None) × (mid ≡ new) × (found ≡ Ok (suc n)))
    ⊎ ((f : DeskFault) × (why_not answer ≡ Some f)
    × ((((n ≡ 0) ⊎ (f ≡ no_memory)) × (mid ≡ new) × (found ≡ Err f))
    ⊎ ((n ≢ 0) × (f ≢ no_memory) × Seeks s n mid new found))))
