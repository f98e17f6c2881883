-- Whether the logs of a hall's desks are alike, as far as all have them (the project's own).
use Rattle.std.specs.Prelude.{◌≡◌, ◌+◌, ◌-◌, ◌++◌, ◌∷◌, [], ℕ, List, Option, None, Some, min}
use Rattle.std.specs.Prelude.{Result, Ok, if◌then◌else◌, nat_le, ◌&&◌}
use Rattle.acceptor.specs.{Entries.is_same_entry, declared.entry.Entry.Entry}
use Rattle.batch.specs.Dialing.{Adds, Dialed, Place, asked_so}
use Rattle.batch.specs.declared.fault.BatchFault.{BatchFault}
use Rattle.client.specs.Standings.{log_request}
use Rattle.standings.specs.declared.polled.PolledDesk.{PolledDesk}
use Rattle.standings.specs.declared.polled.StatusReply.{StatusReply, TheVariants.Stands}
use Rattle.wire.specs.declared.frame.FrameBody.{FrameBody}
use Rattle.desk_requests.specs.declared.polling.Inquiry.{Inquiry}
use Rattle.wire.specs.declared.frame.FrameBody.TheVariants as what

-- where a desk of an inquiry is asked, for how many seconds it is waited for, and under which key
abbrev pub place_at : Inquiry → List ℕ → Place
place_at q address = record { to = address; patience = q.patience; key = q.key }

-- the length of a log, where a desk said how it is, and else the greatest that one can have
abbrev pub length_in : StatusReply → ℕ
length_in (Stands desk standing) = standing.length
length_in _ = 65536

-- that of the shortest of their logs
abbrev pub common_length : List PolledDesk → ℕ
common_length [] = 65536
common_length (p ∷ polled) = min (length_in p.reply) (common_length polled)

-- the first position, from this one on and below an end, at which two logs have different entries;
-- these are their entries there
unfoldable pub other_from : (position end : ℕ) → (known told : List Entry) → Option ℕ
other_from position end [] told = None
other_from position end (one ∷ known) [] = None
other_from position end (one ∷ known) (other ∷ told) =
    if nat_le end position then None
    else if is_same_entry one other then other_from (position + 1) end known told else Some position

-- the same of what two desks reported, where both did
abbrev pub other_in : (position end : ℕ) → (known told : Option (List Entry)) → Option ℕ
other_in position end (Some known) (Some told) = other_from position end known told
other_in position end _ _ = None

-- what the first of the desks reported
abbrev pub first_told : (known told : Option (List Entry)) → Option (List Entry)
first_told (Some known) told = Some known
first_told None told = told

abbrev pub entries_of : Result FrameBody BatchFault → Option (List Entry)
entries_of (Ok (what.Entries position len entries)) = Some entries
entries_of _ = None

-- the number of a desk that said how it is, where it is one that a desk can have
abbrev pub standing_desk : StatusReply → Option ℕ
standing_desk (Stands desk standing) = if nat_le 1 desk && nat_le desk 5 then Some desk else None
standing_desk _ = None

-- such a desk was asked for its log from a position on, and reported these entries; another one was
-- not asked
abbrev pub AsksLog : Inquiry → (position : ℕ) → (address : List ℕ) → Option ℕ
    → (old new : Option (List Dialed)) → Option (List Entry) → Type 0
AsksLog q position address None old new told = (old ≡ new) × (told ≡ None)
AsksLog q position address (Some desk) old new told =
    (came : Result FrameBody BatchFault)
    × Adds (place_at q address) old new (asked_so (log_request q.hall desk position) came ∷ [])
    × (told ≡ entries_of came)

-- a desk, and where its log has another entry
abbrev pub with_other : PolledDesk → Option ℕ → PolledDesk
with_other p other = record { asked = p.asked; address = p.address; reply = p.reply; other = other }

-- These desks were asked, one after the other. Each is given with where it has another entry than
-- those that were known, or that the first one reported.
abbrev pub Compares : Inquiry → (position end : ℕ) → Option (List Entry)
    → (polled compared : List PolledDesk) → (old new : Option (List Dialed)) → Type 0
Compares q position end known [] compared old new = (compared ≡ []) × (old ≡ new)
Compares q position end known (p ∷ polled) compared old new =
    (told : Option (List Entry)) × (mid : Option (List Dialed)) × (more : List PolledDesk)
    × AsksLog q position p.address.now (standing_desk p.reply) old mid told
    × Compares q position end (first_told known told) polled more mid new
    × (compared ≡ with_other p (other_in position end known told) ∷ more)

-- they come after others
abbrev pub ComparesMore : Inquiry → (position end : ℕ) → Option (List Entry) → List PolledDesk
    → (before after : List PolledDesk) → (old new : Option (List Dialed)) → Type 0
ComparesMore q position end known polled before after old new =
    (more : List PolledDesk) × Compares q position end known polled more old new
    × (after ≡ before ++ more)

-- the last 400 entries that all logs have were compared
abbrev pub ComparesAll : Inquiry → (polled compared : List PolledDesk)
    → (old new : Option (List Dialed)) → Type 0
ComparesAll q polled compared old new =
    Compares q (common_length polled - 400) (common_length polled) None polled compared old new
