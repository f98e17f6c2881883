-- What a desk cannot hold of a competition in the WCA Competition Interchange Format: of its
-- persons, and then of its events, each in the order of the file.
use Rattle.std.specs.Prelude.{ℕ, nat_lt, if◌then◌else◌, List, [], ◌∷◌, ◌++◌, length, map, take}
use Rattle.std.specs.Prelude.{codes, Option, Some, None}
use Rattle.serde_json.specs.Data.{Data}
use Rattle.wcif.specs.declared.options.{Options.Options, SameNames.SameNames}
use Rattle.wcif.specs.declared.fault.{CompetitionFault.CompetitionFault, FilePerson.FilePerson}
use Rattle.wcif.specs.{Members.list_at, Events.event_faults, Told.told, Told.place}
use Rattle.wcif.specs.Persons.{accepted_faults, given_name, is_accepted, most_events, number_of}
use Rattle.wcif.specs.declared.fault.CompetitionFault.TheVariants as of

-- the first bytes of a text, at most this many
abbrev pub front_within : ℕ → List ℕ → List ℕ
front_within most text = if nat_lt most (length text) then take most text else text

-- the first 160 bytes of the name, and the number, of a person
abbrev pub who : Data → FilePerson
who p = record { name = front_within 160 (given_name p); number = number_of p }

-- of a person: nothing, where he is not accepted
unfoldable pub person_faults : SameNames → List Data → List Data → List Data → Data
    → List CompetitionFault
person_faults how events everyone earlier p =
    if is_accepted p
    then map (of.Person (place earlier) (who p)) (accepted_faults how events everyone earlier p)
    else []

abbrev pub faults_in : Options → Option (List Data) → Option (List Data) → List CompetitionFault
faults_in options None None = of.NoPersons ∷ of.NoEvents ∷ []
faults_in options None (Some events) = of.NoPersons ∷ []
faults_in options (Some persons) None = of.NoEvents ∷ []
faults_in options (Some persons) (Some events) =
    if nat_lt most_events (length events) then of.TooManyEvents ∷ []
    else told (person_faults options.names events persons) persons
    ++ told (event_faults options.limits persons) events

-- all that a desk cannot hold of a competition
unfoldable pub faults : Options → Data → List CompetitionFault
faults options d =
    faults_in options (list_at (codes "persons") d) (list_at (codes "events") d)
