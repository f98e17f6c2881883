-- A task that asks a desk ends.
use Rattle.std.proofs.Common.{◌≡◌, ◌⊎◌, Bool, ℕ, List, Option, Result, Ok, Err, IfErr, OnOk, inl}
use Rattle.std.proofs.Common.{arith, inr, refl}
use Rattle.std.specs.Io.KnownBytes.{Keeps}
use Rattle.desk_choice.specs.{Resolving.Resolves, declared.resolving.DeskAddress.DeskAddress}
use Rattle.arguments.specs.declared.places.Place.{Place}
use Rattle.batch.specs.Dialing.{Dialed, Told, place_of}
use Rattle.batch.specs.declared.{asking.Receiver.Receiver, dialing.Contact.Contact}
use Rattle.desk_requests.specs.{Statuses.status_of, declared.fault.DeskFault.DeskFault}
use Rattle.subcommands.specs.Places.{EndsAs, EndsAt, IsAsked, Reach, looking}
use Rattle.desk_requests.specs.declared.fault.DeskFault.TheVariants as fault
use Rattle.keys.specs.declared.key_file.fault.KeyFileFault.TheVariants as key
use Rattle.lines.specs.declared.fault.RunFault.TheVariants as run

-- one was, and this was done with it
pub done : (p : Place) (patience status : ℕ) (r : Reach) (Left : Type 0)
    (Does : Receiver → Contact → Told → Type 0) (found : DeskAddress) (there : Contact)
    (mid : Option (List Dialed)) (told : Option (List ℕ)) (awaits : Bool)
    → Resolves p patience found (looking r mid told) → IsAsked found patience there
    → Does (record { hall = found.hall; desk = found.desk; awaits = awaits }) there
    (record { place = place_of there; old = mid; new = r.dialed_then })
    → EndsAt p patience status r Left Does
done p patience status r Left Does found there mid told awaits resolves asked does =
    inr (
      record { hall = found.hall; desk = found.desk; awaits = awaits },
      there,
      mid,
      record {
        found = found;
        told = told;
        resolves = resolves;
        hall = refl;
        desk = refl;
        asked = asked;
      },
      does,
    )

-- what was done with it is what the status says
pub as_it_ended : (asked : Result (Unit {0}) DeskFault) (status : ℕ) (Did : Type 0)
    (Failed : DeskFault → Type 0) → EndsAs asked status → OnOk asked Did → IfErr asked Failed
    → ((status ≡ 0) × Did) ⊎ ((f : DeskFault) × (status ≡ status_of f) × Failed f)
as_it_ended (Ok done) status Did Failed ends did failed = inl (ends, did)
as_it_ended (Err f) status Did Failed ends did failed = inr (f, ends, failed)

-- no fault ends with status 0
pub not_zero : (f : DeskFault) (status : ℕ) → status ≡ status_of f → status ≡ 0 → ⊥
not_zero (fault.Run run.BadCount) status is zero = omega (arith, is, zero)
not_zero (fault.Run _) status is zero = omega (arith, is, zero)
not_zero (fault.KeyFile key.NoMemory) status is zero = omega (arith, is, zero)
not_zero (fault.KeyFile _) status is zero = omega (arith, is, zero)
not_zero fault.CannotConnect status is zero = omega (arith, is, zero)
not_zero _ status is zero = omega (arith, is, zero)

-- where the status is 0, the fault stream is as it was when the desk was found
pub quiet : (asked : Result (Unit {0}) DeskFault) (status : ℕ) (old mid new : Option (List ℕ))
    → EndsAs asked status → OnOk asked (new ≡ mid) → Keeps old mid → status ≡ 0 → Keeps old new
quiet (Ok done) status old mid new ends same kept zero = rw same kept
quiet (Err f) status old mid new ends same kept zero = absurd (not_zero f status ends zero)
