-- What somebody does in a group beside competing, in the WCA Competition Interchange Format (its
-- Assignment).
use Rattle.std.specs.Prelude.{ℕ, Bool, if◌then◌else◌, List, bytes_eq, codes, filter, map}
use Rattle.std.specs.{Prelude.Option, Prelude.None, List.list_any}
use Rattle.serde_json.specs.Data.{Data}
use Rattle.wcif.specs.{Members.number_at, Persons.given_name, Persons.is_number, Persons.text_under}
use Rattle.competition_file.specs.declared.duties.Duty.{Duty}
use Rattle.competition_file.specs.declared.duties.Duty.TheVariants.{Scrambler, Runner, Judge}
use Rattle.competition_file.specs.Items.{items_under}

abbrev pub code_of : Duty → List ℕ
code_of Scrambler = codes "staff-scrambler"
code_of Runner = codes "staff-runner"
code_of Judge = codes "staff-judge"

-- the id of the activity of the group in which an assignment is this duty
abbrev pub duty_at : Duty → Data → Option ℕ
duty_at duty d =
    if bytes_eq (text_under (codes "assignmentCode") d) (code_of duty)
    then number_at (codes "activityId") d else None

-- it is this duty in the group whose activity has this id
abbrev pub is_this : Duty → ℕ → Data → Bool
is_this duty id d = is_number id (duty_at duty d)

-- a person has a duty in the group whose activity has this id
abbrev pub has_duty : Duty → ℕ → Data → Bool
has_duty duty id p = list_any (is_this duty id) (items_under (codes "assignments") p)

-- the names of those who have it, in the order of the file
abbrev pub helpers : Duty → ℕ → List Data → List (List ℕ)
helpers duty id ps = map given_name (filter (has_duty duty id) ps)
