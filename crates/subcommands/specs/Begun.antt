-- Whether a hall's day has begun: what those of its desks report that answer (the project's own).
use Rattle.std.specs.Prelude.{◌≡◌, ◌⊎◌, ◌+◌, ◌-◌, ◌∷◌, ◌↔◌, ◌||◌, [], ℕ, Bool, true, false, IsTrue}
use Rattle.std.specs.Prelude.{List, Option, Result, Ok, max, slice_index}
use Rattle.std.specs.{Borrow.Bor, Io.KnownBytes.Keeps}
use Rattle.desk_choice.specs.Keys.{IsKeyOf, key_file_of, naming}
use Rattle.arguments.specs.declared.task.HallService.{HallService}
use Rattle.batch.specs.Dialing.{Adds, Dialed, Place, asked_so}
use Rattle.batch.specs.declared.fault.BatchFault.{BatchFault}
use Rattle.client.specs.Standings.{status_request}
use Rattle.desk_requests.specs.declared.polling.Inquiry.{Inquiry}
use Rattle.hall_file.specs.declared.hall_file.HallFile.{HallFile}
use Rattle.hall_file.specs.declared.service.StoreOrigin.TheVariants.{New}
use Rattle.wire.specs.{Spelling.lengths_of, declared.frame.FrameBody.FrameBody}
use Rattle.subcommands.specs.{Standings.Asks, declared.begun.KnownDesks.KnownDesks}
use Rattle.wire.specs.declared.frame.FrameBody.TheVariants as what

-- what a desk says that was asked how it is: the length of its log, and that which the desk of this
-- number reported to it
abbrev pub known_by : ℕ → Result FrameBody BatchFault → KnownDesks
known_by lost (Ok (what.Standing s)) =
    record { answers = true; have = s.length; had = slice_index (lengths_of s.told) (lost - 1) }
known_by lost _ = record { answers = false; have = 0; had = 0 }

-- the greatest that two report
abbrev pub joined : KnownDesks → KnownDesks → KnownDesks
joined a b =
    record { answers = a.answers || b.answers; have = max a.have b.have; had = max a.had b.had }

-- none has a command, or heard of one
abbrev pub IsFree : KnownDesks → Type 0
IsFree k = (k.have ≡ 0) × (k.had ≡ 0)

-- so it is, and one answers, or the whole hall is new
abbrev pub MayBegin : (new_hall : Bool) → KnownDesks → Type 0
MayBegin new_hall k = IsFree k × IsTrue (k.answers || new_hall)

-- where a desk of an inquiry is asked, for how many seconds it is waited for, and under which key
abbrev pub place_at : Inquiry → List ℕ → Place
place_at q address = record { to = address; patience = q.patience; key = q.key }

-- The desks at these addresses were asked one after the other, the first as the desk of this
-- number, and each further one as the next; this is what they report.
abbrev pub AsksEach : Inquiry → (lost desk : ℕ) → List (Bor (List ℕ)) → KnownDesks
    → (old new : Option (List Dialed)) → Type 0
AsksEach q lost desk [] k old new =
    (k ≡ record { answers = false; have = 0; had = 0 }) × (old ≡ new)
AsksEach q lost desk (address ∷ addresses) k old new =
    (answer : Result FrameBody BatchFault) × (mid : Option (List Dialed)) × (more : KnownDesks)
    × Adds (place_at q address.now) old mid (asked_so (status_request q.hall desk) answer ∷ [])
    × AsksEach q lost (desk + 1) addresses more mid new × (k ≡ joined (known_by lost answer) more)

-- The desks of an inquiry were asked, and a store may be made where none that answers has a command
-- or heard of one, and one answers, or the whole hall is new. Where it may, nothing is said.
abbrev pub MayMake : Inquiry → ℕ → (new_hall may : Bool) → (old new : Option (List Dialed))
    → (said saying : Option (List ℕ)) → Type 0
MayMake q desk new_hall may old new said saying =
    (k : KnownDesks) × AsksEach q desk 1 q.addresses.now k old new
    × (IsTrue may ↔ MayBegin new_hall k) × (IsTrue may → Keeps said saying)

-- The desks of this hall were asked so at these addresses, under its key, for two seconds each, by
-- the desk that is wanted.
abbrev pub HasAsked : Bor (List ℕ) → HallService → HallFile → List (List ℕ) → Bool
    → (old new : Option (List Dialed)) → Type 0
HasAsked file wanted hall texts may old new =
    (q : Inquiry) × (key : Option (List ℕ))
    × IsKeyOf (key_file_of (naming file wanted.options.key) hall) key × Asks q hall.hall texts key 2
    × (k : KnownDesks) × AsksEach q wanted.options.desk 1 q.addresses.now k old new
    × (IsTrue may ↔ MayBegin wanted.new_hall k)

-- Whether the desk that is wanted may serve: where its store is to be made the others may have been
-- asked, and it may not only where one of them had a command, or none answered in a hall that is
-- not new.
abbrev pub AsksFirst : Bor (List ℕ) → HallService → HallFile → List (List ℕ) → Bool
    → (old new : Option (List Dialed)) → Type 0
AsksFirst file wanted hall texts true old new =
    (old ≡ new) ⊎ ((wanted.options.making ≡ New) × HasAsked file wanted hall texts true old new)
AsksFirst file wanted hall texts false old new =
    (wanted.options.making ≡ New) × HasAsked file wanted hall texts false old new
