-- A command, or those of an input, entered at a desk (the project's own).
use Rattle.std.specs.Prelude.{◌≡◌, ◌⊎◌, ℕ, Bool, true, List, Option, None, Some, IsTrue, codes}
use Rattle.std.specs.{Borrow.Bor, Io.KnownBytes.Keeps, List.join_by}
use Rattle.desk_choice.specs.Seeking.{no_memory}
use Rattle.arguments.specs.declared.{places.Place.Place, task.EnterOptions.EnterOptions}
use Rattle.batch.specs.Dialing.{Dialed, Told}
use Rattle.batch.specs.{Probing.KnowsAwait, declared.asking.Receiver.Receiver}
use Rattle.desk_requests.specs.Entering.{EntersInput, EntersOne, FailsInput, FailsOne, IsEnterable}
use Rattle.desk_requests.specs.{Entering.IsUnenterable, Statuses.status_of}
use Rattle.desk_requests.specs.declared.fault.DeskFault.{DeskFault}
use Rattle.lines.specs.Bytes.{Sides}
use Rattle.subcommands.specs.Places.{EndsAt, Reach}

-- a command that is entered: its id where one is given, its text, and whether it is waited for
pub record Single : Type 0 where
  pub id : Option ℕ
  pub text : List ℕ
  pub waits : Bool

-- the desk was asked whether it is to be asked by an Await, and after that this was done with it
abbrev pub Probed : Receiver → Told → (Told → Type 0) → Type 0
Probed one t Does =
    (mid : Option (List Dialed))
    × KnowsAwait (record { place = t.place; old = t.old; new = mid }) one.hall one.desk one.awaits
    × Does (record { place = t.place; old = mid; new = t.new })

-- it was entered and its answer printed, or that failed
abbrev pub EndsOne : ℕ → Receiver → Single → Told → (old new : Option (List ℕ)) → Type 0
EndsOne status one s t old new =
    EntersOne status one s.id s.waits s.text t old new
    ⊎ ((f : DeskFault) × (status ≡ status_of f) × FailsOne f one s.id s.waits s.text t old new)

abbrev pub EndsEnter : Place → ℕ → Single → ℕ → Reach → (old new : Option (List ℕ)) → Type 0
EndsEnter p patience single status r old new =
    EndsAt p patience status r (Keeps old new) (λ one _ t.
    Probed one t (λ u. EndsOne status one single u old new))

-- the text of words that were given one after the other
abbrev pub spaced : List (Bor (List ℕ)) → List ℕ
spaced words = join_by (λ w. w.now) (codes " ") words

-- its text has to be a command where it is waited for, and where it has no id
abbrev pub is_looked_at : Option ℕ → (waits : Bool) → Bool
is_looked_at None waits = true
is_looked_at (Some id) waits = waits

-- it is one, or need not be
abbrev pub IsFit : Option ℕ → (waits : Bool) → List ℕ → Type 0
IsFit id waits text = IsTrue (is_looked_at id waits) → IsEnterable text

-- it has to be one and is not, or there is no memory to see that
abbrev pub IsUnfit : DeskFault → Option ℕ → (waits : Bool) → List ℕ → Type 0
IsUnfit f id waits text = IsTrue (is_looked_at id waits) × IsUnenterable f text

-- nothing was asked or written, by this fault
abbrev pub EndsUnsent : DeskFault → ℕ → Reach → (old new : Option (List ℕ)) → Type 0
EndsUnsent f status r old new = (status ≡ status_of f) × (r.dialed ≡ r.dialed_then) × Keeps old new

-- Memory ran out; or the text of these words was not fit, and nothing was asked or written; or it
-- was fit, and it was entered, or that failed.
abbrev pub EndsWords : Place → ℕ → Option ℕ → List (Bor (List ℕ)) → (waits : Bool) → ℕ → Reach
    → (old new : Option (List ℕ)) → Type 0
EndsWords p patience id words waits status r old new =
    EndsUnsent no_memory status r old new
    ⊎ (((f : DeskFault) × EndsUnsent f status r old new × IsUnfit f id waits (spaced words))
    ⊎ (IsFit id waits (spaced words) × (told : Option (List ℕ))
    × EndsEnter p patience (record { id = id; text = spaced words; waits = waits }) status
    (record r { told = told }) old new))

-- all of an input were entered, or not
abbrev pub EndsInput : ℕ → Receiver → EnterOptions → Sides → Told → Type 0
EndsInput status one lines s t =
    ((status ≡ 0) × EntersInput one lines s t)
    ⊎ ((f : DeskFault) × (status ≡ status_of f) × FailsInput f one lines s t)

abbrev pub EndsLines : Place → ℕ → EnterOptions → ℕ → Reach → Sides → Type 0
EndsLines p patience lines status r s =
    EndsAt p patience status r (Keeps s.had s.left × Keeps s.old s.new)
    (λ one _ t. Probed one t (EndsInput status one lines s))
