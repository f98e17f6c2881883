-- A task that asks a desk: the desk is found, and then it is asked (the project's own).
use Rattle.std.specs.Prelude.{◌≡◌, ◌⊎◌, ℕ, List, Option, Result, Ok, Err, string_bytes}
use Rattle.desk_choice.specs.Resolving.{FailsToResolve, Outside, Resolves}
use Rattle.desk_choice.specs.declared.resolving.DeskAddress.{DeskAddress}
use Rattle.arguments.specs.declared.places.Place.{Place}
use Rattle.batch.specs.Dialing.{Dialed, Told, place_of}
use Rattle.batch.specs.declared.{asking.Receiver.Receiver, dialing.Contact.Contact}
use Rattle.desk_requests.specs.{Statuses.status_of, declared.fault.DeskFault.DeskFault}
use Rattle.arguments.specs.declared.places.Place.TheVariants as place

-- what became of connections before a task and afterwards, and what the fault stream had before it
pub record Reach : Type 0 where
  pub dialed : Option (List Dialed)
  pub dialed_then : Option (List Dialed)
  pub told : Option (List ℕ)

abbrev pub reach : {D F : Type 0} → (D → Option (List Dialed)) → (F → Option (List ℕ))
    → (dial dial_then : D) → F → Reach
reach dialed contents dial dial_then faults =
    record { dialed = dialed dial; dialed_then = dialed dial_then; told = contents faults }

-- as long as the desk is looked for, up to here
abbrev pub looking : Reach → Option (List Dialed) → Option (List ℕ) → Outside
looking r mid told =
    record { dialed = r.dialed; dialed_then = mid; told = r.told; told_then = told }

-- no desk was found, by a fault of this status
pub record MissesDesk (status : ℕ) (p : Place) (patience : ℕ) (r : Reach) : Type 0 where
  pub fault : DeskFault
  pub told : Option (List ℕ)
  pub is : status ≡ status_of fault
  pub misses : FailsToResolve fault p patience (looking r r.dialed_then told)

-- a desk that was found is asked there, for this long, under its key
pub record IsAsked (found : DeskAddress) (patience : ℕ) (there : Contact) : Type 0 where
  pub address : there.address.now ≡ string_bytes found.address
  pub patience_is : there.patience ≡ patience
  pub key : there.key ≡ found.key

-- a desk was found, after what became of connections up to here, and it is asked as this one there
pub record FindsDesk (p : Place) (patience : ℕ) (r : Reach) (one : Receiver) (there : Contact)
    (mid : Option (List Dialed)) : Type 0 where
  pub found : DeskAddress
  pub told : Option (List ℕ)
  pub resolves : Resolves p patience found (looking r mid told)
  pub hall : one.hall ≡ found.hall
  pub desk : one.desk ≡ found.desk
  pub asked : IsAsked found patience there

-- no desk was found, and this is left as it was; or one was, and this was done with it
abbrev pub EndsAt : Place → ℕ → ℕ → Reach → Type 0 → (Receiver → Contact → Told → Type 0) → Type 0
EndsAt p patience status r Left Does =
    (MissesDesk status p patience r × Left)
    ⊎ ((one : Receiver) × (there : Contact) × (mid : Option (List Dialed))
    × FindsDesk p patience r one there mid
    × Does one there (record { place = place_of there; old = mid; new = r.dialed_then }))

-- the status is 0 after what was done, and that of the fault otherwise
abbrev pub EndsAs : Result (Unit {0}) DeskFault → ℕ → Type 0
EndsAs (Ok done) status = status ≡ 0
EndsAs (Err fault) status = status ≡ status_of fault

-- the arguments name the desk and its address
abbrev pub NamesDesk : Place → Type 0
NamesDesk (place.Desk hall desk address key) = Unit {0}
NamesDesk (place.File file desk key) = ⊥
