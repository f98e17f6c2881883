-- A desk that is asked once, for its newest sheet, or for its log, and its answer printed (the
-- project's own).
use Rattle.std.specs.Prelude.{◌≡◌, ◌⊎◌, ℕ, Bool, true, false, List, Option, None}
use Rattle.std.specs.Io.KnownBytes.{Keeps}
use Rattle.arguments.specs.declared.{places.Place.Place, task.ClientRequest.ClientRequest}
use Rattle.arguments.specs.declared.task.LogFormOption.{LogFormOption as AskedForm}
use Rattle.batch.specs.{Dialing.Told, declared.newest_asked.RoundSheet.RoundSheet}
use Rattle.batch.specs.declared.{asking.Receiver.Receiver, dialing.Contact.Contact}
use Rattle.desk_requests.specs.Errands.{DoesErrand, FailsErrand}
use Rattle.desk_requests.specs.{Logs.FailsTold, Statuses.status_of, declared.requests.Errand.Errand}
use Rattle.desk_requests.specs.{Logs.PrintsTold, Newest.FailsToPrint, Newest.PrintsNewest}
use Rattle.desk_requests.specs.declared.{fault.DeskFault.DeskFault, logs.LogForm.LogForm}
use Rattle.subcommands.specs.Places.{EndsAt, Reach}
use Rattle.arguments.specs.declared.places.Place.TheVariants as place
use Rattle.arguments.specs.declared.task.LogFormOption.TheVariants as asked
use Rattle.arguments.specs.declared.task.ClientRequest.TheVariants as request
use Rattle.desk_requests.specs.declared.logs.LogForm.TheVariants as form
use Rattle.log_rows.specs.declared.writing.ShownEntries.TheVariants as shown

-- the desk is one of a file's hall, and is named where it did what was asked
abbrev pub is_of_file : Place → Bool
is_of_file (place.Desk hall desk address key) = false
is_of_file (place.File file desk key) = true

abbrev pub errand_of : (names : Bool) → Receiver → Contact → ClientRequest → Errand
errand_of names one there request =
    record { hall = one.hall; desk = one.desk; contact = there; request = request; names = names }

-- a desk is to stop, and none is named
abbrev pub lacks_name : Place → ClientRequest → Bool
lacks_name (place.File file None key) request.Stop = true
lacks_name _ _ = false

-- the desk was asked and its answer printed, or that failed
abbrev pub EndsErrand : ℕ → Errand → Told → (old new : Option (List ℕ)) → Type 0
EndsErrand status e t old new =
    ((status ≡ 0) × DoesErrand e t old new)
    ⊎ ((f : DeskFault) × (status ≡ status_of f) × FailsErrand f e t old new)

-- so it was of the desk that was found
abbrev pub EndsRequest : Place → ℕ → ClientRequest → (names : Bool) → ℕ → Reach
    → (old new : Option (List ℕ)) → Type 0
EndsRequest p patience request names status r old new =
    EndsAt p patience status r (Keeps old new)
    (λ one there t. EndsErrand status (errand_of names one there request) t old new)

-- none was found, or one was, and it was asked no more
abbrev pub EndsUnnamed : Place → ℕ → ℕ → Reach → Type 0
EndsUnnamed p patience status r =
    EndsAt p patience status r (Unit {0}) (λ _ _ t. (status ≡ 2) × (t.old ≡ t.new))

-- where a desk is to stop and none is named, none is asked
abbrev pub EndsAsBidden : (lacks : Bool) → Place → ℕ → ClientRequest → ℕ → Reach
    → (old new : Option (List ℕ)) → Type 0
EndsAsBidden true p patience request status r old new =
    EndsUnnamed p patience status r × Keeps old new
EndsAsBidden false p patience request status r old new =
    EndsRequest p patience request (is_of_file p) status r old new

abbrev pub EndsCarry : Place → ℕ → ClientRequest → ℕ → Reach → (old new : Option (List ℕ)) → Type 0
EndsCarry p patience request status r old new =
    EndsAsBidden (lacks_name p request) p patience request status r old new

-- its newest sheet of the round was printed, or that failed
abbrev pub EndsSheet : ℕ → Receiver → RoundSheet → Told → (old new : Option (List ℕ)) → Type 0
EndsSheet status one sheet t old new =
    ((status ≡ 0) × PrintsNewest one sheet t old new)
    ⊎ ((f : DeskFault) × (status ≡ status_of f) × FailsToPrint f one sheet t old new)

abbrev pub EndsNewest : Place → ℕ → RoundSheet → ℕ → Reach → (old new : Option (List ℕ)) → Type 0
EndsNewest p patience sheet status r old new =
    EndsAt p patience status r (Keeps old new) (λ one _ t. EndsSheet status one sheet t old new)

-- in which form a log is printed
abbrev pub log_form : AskedForm → LogForm
log_form asked.Lines = form.Lines
log_form asked.Rows = form.Rows shown.All
log_form (asked.ChangesOf event round number) =
    form.Rows (shown.ChangesOf (record { event = event; round = round; number = number }))

-- its log from a position on was printed, or that failed
abbrev pub EndsCopy : ℕ → Receiver → LogForm → (from : ℕ) → Told → (old new : Option (List ℕ))
    → Type 0
EndsCopy status one form from t old new =
    ((status ≡ 0) × PrintsTold one form from t old new)
    ⊎ ((f : DeskFault) × (status ≡ status_of f) × FailsTold f one form from t old new)

abbrev pub EndsCopyLog : Place → ℕ → (from : ℕ) → LogForm → ℕ → Reach
    → (old new : Option (List ℕ)) → Type 0
EndsCopyLog p patience from form status r old new =
    EndsAt p patience status r (Keeps old new) (λ one _ t. EndsCopy status one form from t old new)
