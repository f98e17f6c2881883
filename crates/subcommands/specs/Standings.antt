-- How the desks of a hall are, printed once or again and again (the project's own).
use Rattle.std.specs.Prelude.{◌≡◌, ◌⊎◌, ◌≤◌, ℕ, Bool, true, false, List, Option, length, map}
use Rattle.std.specs.{Prelude.option_map, Io.KnownBytes.Keeps}
use Rattle.desk_choice.specs.{Files.IsOfFile, Resolving.IsKeyless, Resolving.IsSaid}
use Rattle.desk_choice.specs.Keys.{FailsKey, IsKeyOf, Naming, naming}
use Rattle.arguments.specs.declared.places.DeskPlaces.{DeskPlaces}
use Rattle.desk_requests.specs.Polling.{FailsReport, Outside, Reports}
use Rattle.desk_requests.specs.{Statuses.status_of, Watching.FailsWatch, Watching.HasWatched}
use Rattle.desk_requests.specs.declared.{fault.DeskFault.DeskFault, polling.Inquiry.Inquiry}
use Rattle.hall_file.specs.Halls.{texts_of}
use Rattle.standings.specs.declared.forms.Form.{Form}
use Rattle.batch.specs.Dialing.{Dialed}
use Rattle.arguments.specs.declared.places.DeskPlaces.TheVariants as desks

-- at most five desks are asked
abbrev pub AreFew : DeskPlaces → Type 0
AreFew (desks.Addresses hall addresses key) = length addresses.now ≤ 5
AreFew (desks.File file key) = Unit {0}

-- the desks of an inquiry were asked and a report on them printed, once, or again and again until
-- that failed
abbrev pub EndsInquiry : ℕ → Inquiry → Form → (watches : Bool) → Outside → Type 0
EndsInquiry status q form false o =
    Reports form q status o ⊎ ((f : DeskFault) × (status ≡ status_of f) × FailsReport f form q o)
EndsInquiry status q form true o =
    ((status ≡ 0) × HasWatched form q o)
    ⊎ ((f : DeskFault) × (status ≡ status_of f) × FailsWatch f form q o)

-- A report was printed, or that failed; after it more may have been asked of the desks, and
-- printed.
pub record EndsAll (status : ℕ) (q : Inquiry) (form : Form) (o : Outside) : Type 0 where
  pub report : ℕ
  pub dialed : Option (List Dialed)
  pub out : Option (List ℕ)
  pub reports : EndsInquiry report q form false
      (record { dialed = o.dialed; dialed_then = dialed; old = o.old; new = out })
  pub is : (status ≡ report) ⊎ (status ≡ 4)

-- the desks of an inquiry were asked, and where all is wanted, further lines were printed
abbrev pub EndsAsked : (all : Bool) → ℕ → Inquiry → Form → (watches : Bool) → Outside → Type 0
EndsAsked true status q form watches o = EndsAll status q form o
EndsAsked false status q form watches o = EndsInquiry status q form watches o

-- these desks of this hall are asked, each for this long, under this key, or without one
pub record Asks (q : Inquiry) (hall : ℕ) (addresses : List (List ℕ)) (key : Option (List ℕ))
    (patience : ℕ) : Type 0 where
  pub hall_is : q.hall ≡ hall
  pub there : map (λ a. a.now) q.addresses.now ≡ addresses
  pub key_is : q.key ≡ key
  pub patience_is : q.patience ≡ patience

-- so it was, of the desks at these addresses
abbrev pub EndsAddresses : ℕ → (hall : ℕ) → List (List ℕ) → Option (List ℕ) → ℕ → Form
    → (watches all : Bool) → Outside → Type 0
EndsAddresses status hall addresses key patience form watches all o =
    (q : Inquiry) × Asks q hall addresses key patience × EndsAsked all status q form watches o

-- no desk was asked and nothing printed, by such a fault
abbrev pub EndsUnasked : (DeskFault → Type 0) → ℕ → Outside → Type 0
EndsUnasked Is status o =
    (f : DeskFault) × (status ≡ status_of f) × Is f × (o.dialed ≡ o.dialed_then) × Keeps o.old o.new

-- the file gives no hall, or its key cannot be read, or memory ran out
abbrev pub EndsFile : ℕ → Naming → Outside → Type 0
EndsFile status n o = EndsUnasked (λ f. IsOfFile f ⊎ IsKeyless n f) status o

abbrev pub EndsStatus : DeskPlaces → ℕ → Form → (watches all : Bool) → ℕ → Outside → Type 0
EndsStatus (desks.Addresses hall addresses key) patience form watches all status o =
    EndsUnasked (FailsKey (option_map (λ k. k.now) key)) status o
    ⊎ ((k : Option (List ℕ)) × IsKeyOf (option_map (λ k. k.now) key) k
    × EndsAddresses status hall (map (λ a. a.now) addresses.now) k patience form watches all o)
EndsStatus (desks.File file key) patience form watches all status o =
    EndsFile status (naming file key) o ⊎ IsSaid (naming file key)
    (λ hall k. EndsAddresses status hall.hall (texts_of hall) k patience form watches all o)
