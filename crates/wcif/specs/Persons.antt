-- The accepted persons of a competition in the WCA Competition Interchange Format (its Person and
-- Registration): their numbers, names and events, and what a desk cannot hold of them.
use Rattle.std.specs.Prelude.{ℕ, ◌==◌, ◌&&◌, Bool, false, not, nat_lt, if◌then◌else◌, List, [], ◌∷◌}
use Rattle.std.specs.Prelude.{◌++◌, length, count_by, codes, bytes_eq, Option, Some, None}
use Rattle.std.specs.{Prelude.unwrap_or, List.list_any, Option.option_and_then}
use Rattle.serde_json.specs.{Data.Data, Find.get, Find.as_str}
use Rattle.texts.specs.{Numerals.within, Names.is_clear_name}
use Rattle.wcif.specs.declared.options.SameNames.{SameNames, TheVariants.Refuse, TheVariants.WithId}
use Rattle.wcif.specs.{declared.fault.PersonFault.PersonFault, Told.told, Told.place}
use Rattle.wcif.specs.Members.{text_at, number_at, list_at}
use Rattle.wcif.specs.declared.fault.PersonFault.TheVariants as fault

-- the text that a value is; what is no text is the empty one
abbrev pub text_of : Data → List ℕ
text_of d = unwrap_or (as_str d) []

-- a text under a name; the empty one where there is none
abbrev pub text_under : List ℕ → Data → List ℕ
text_under name d = unwrap_or (text_at name d) []

-- the status of the registration is `accepted`
unfoldable pub is_accepted : Data → Bool
is_accepted p =
    bytes_eq (unwrap_or (option_and_then (text_at (codes "status")) (get (codes "registration")
    p)) []) (codes "accepted")

unfoldable pub number_of : Data → Option ℕ
number_of p = number_at (codes "registrantId") p

unfoldable pub given_name : Data → List ℕ
given_name p = text_under (codes "name") p

unfoldable pub wca_id : Data → Option (List ℕ)
wca_id p = text_at (codes "wcaId") p

-- the ids of the events for which the person is registered
unfoldable pub event_ids : Data → Option (List Data)
event_ids p = option_and_then (list_at (codes "eventIds")) (get (codes "registration") p)

abbrev pub last_number : ℕ
last_number = 9999

-- The number.

abbrev pub is_number : ℕ → Option ℕ → Bool
is_number n None = false
is_number n (Some m) = m == n

-- an accepted person with this number
abbrev pub has_number : ℕ → Data → Bool
has_number n p = is_accepted p && is_number n (number_of p)

abbrev pub taken_faults : List Data → Option ℕ → List PersonFault
taken_faults earlier None = fault.NumberOutOfRange ∷ []
taken_faults earlier (Some n) =
    if list_any (has_number n) earlier then fault.NumberTaken ∷ [] else []

abbrev pub number_faults : List Data → Option ℕ → List PersonFault
number_faults earlier None = fault.NoNumber ∷ []
number_faults earlier (Some n) = taken_faults earlier (within 1 last_number n)

-- The name.

-- an accepted person whose name in the file is this one
abbrev pub has_given : List ℕ → Data → Bool
has_given name p = is_accepted p && bytes_eq name (given_name p)

-- several accepted persons have this name in the file
unfoldable pub is_shared : List Data → List ℕ → Bool
is_shared everyone name = nat_lt 1 (count_by (has_given name) everyone)

abbrev pub with_id : List ℕ → Option (List ℕ) → List ℕ
with_id name None = name
with_id name (Some id) = name ++ codes " " ++ id

-- the WCA ID, where it is to tell apart those who share the name
unfoldable pub id_as : SameNames → List Data → Data → Option (List ℕ)
id_as Refuse everyone p = None
id_as WithId everyone p = if is_shared everyone (given_name p) then wca_id p else None

-- the name that a desk gets: that of the file, and the ID where there is to be one
abbrev pub name_as : SameNames → List Data → Data → List ℕ
name_as how everyone p = with_id (given_name p) (id_as how everyone p)

-- an accepted person for whom a desk gets this name
abbrev pub has_name : SameNames → List Data → List ℕ → Data → Bool
has_name how everyone name p = is_accepted p && bytes_eq name (name_as how everyone p)

abbrev pub has_quote : List ℕ → Bool
has_quote name = list_any (λ byte. byte == 34) name

-- what is wrong with a name that a desk refuses
abbrev pub bad_name : List ℕ → PersonFault
bad_name name =
    if length name == 0 then fault.NoName
    else if nat_lt 160 (length name) then fault.LongName
    else if has_quote name then fault.QuoteInName
    else fault.BadName

-- a name that is spelled wrong, or that a person in front has
abbrev pub name_faults : Bool → List ℕ → List PersonFault
name_faults taken name =
    if not (is_clear_name name) then bad_name name ∷ []
    else if taken then fault.NameTaken ∷ []
    else []

-- The events.

-- the most events of which a list is read
abbrev pub most_events : ℕ
most_events = 100

-- an event of the file with this id
abbrev pub has_id : List ℕ → Data → Bool
has_id id event = bytes_eq id (text_under (codes "id") event)

-- the item of a list is this id
abbrev pub is_id : List ℕ → Data → Bool
is_id id d = bytes_eq id (text_of d)

abbrev pub id_faults : List Data → List Data → Data → List PersonFault
id_faults events earlier d =
    if not (list_any (has_id (text_of d)) events) then fault.NotHeld (place earlier) ∷ []
    else if list_any (is_id (text_of d)) earlier then fault.EnteredTwice (place earlier) ∷ []
    else []

abbrev pub events_faults : List Data → Option (List Data) → List PersonFault
events_faults events None = fault.NoEvents ∷ []
events_faults events (Some ids) =
    if nat_lt most_events (length ids) then fault.TooManyEvents ∷ []
    else told (id_faults events) ids

-- A person.

-- what a desk cannot hold of an accepted person, given all persons and those in front
unfoldable pub accepted_faults : SameNames → List Data → List Data → List Data → Data
    → List PersonFault
accepted_faults how events everyone earlier p =
    number_faults earlier (number_of p)
    ++ name_faults (list_any (has_name how everyone (name_as how everyone p)) earlier)
    (name_as how everyone p)
    ++ events_faults events (event_ids p)
