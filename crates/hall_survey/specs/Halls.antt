-- The desks of a hall, and what is said of them (the project's own).
use Rattle.std.specs.Prelude.{◌≡◌, ◌≢◌, ℕ, ◌-◌, List, [], ◌∷◌, ◌++◌, length, if◌then◌else◌, nat_le}
use Rattle.std.specs.Prelude.{codes, decimal, Bool, true, false, String, Option, None, Some, ◌==◌}
use Rattle.std.specs.{Prelude.flat_map, Prelude.map, Prelude.min, Prelude.slice_get, Global.Global}
use Rattle.desk_talks.specs.KeptConnections.{wait_of}
use Rattle.desk_survey.specs.Surveys.{new_survey, speaks_five}
use Rattle.desk_survey.specs.declared.survey.{Reachability.Reachability, SurveyAnswer.SurveyAnswer}
use Rattle.standings.specs.{Reports.json_line, Standings.difference}
use Rattle.standings.specs.declared.polled.PolledDesk.{PolledDesk}
use Rattle.wire.specs.declared.{standing.Difference.Difference, values.ClientRefusal.ClientRefusal}
use Rattle.hall_survey.specs.{declared.asked.AskedDesk.AskedDesk, Told.AreTold}
use Rattle.desk_survey.specs.declared.survey.Reachability.TheVariants as contact
use Rattle.wire.specs.declared.values.ClientRefusal.TheVariants as refusal

-- the number of the hall, and the desks that are asked
pub record HallDesksOf : Type 0 where
  pub hall : ℕ
  pub asked : List AskedDesk

abbrev pub hall_desks : ℕ → List AskedDesk → HallDesksOf
hall_desks hall asked = record { hall = hall; asked = asked }

abbrev pub no_desks : ℕ → HallDesksOf
no_desks hall = hall_desks hall []

-- a desk of the hall that was not asked yet
abbrev pub new_asked : ℕ → ℕ → String Global → AskedDesk
new_asked hall desk address =
    record { desk = desk; address = address; survey = new_survey hall desk }

-- a desk after the others; a sixth one is left out
abbrev pub adds : HallDesksOf → ℕ → String Global → HallDesksOf
adds h desk address =
    if nat_le 5 (length h.asked) then h
    else hall_desks h.hall (h.asked ++ new_asked h.hall desk address ∷ [])

-- nothing is another one but the survey of the desk at a place
pub record IsKept (place : ℕ) (old new : HallDesksOf) : Type 0 where
  pub hall : new.hall ≡ old.hall
  pub others : (other : ℕ) → other ≢ place → slice_get new.asked other ≡ slice_get old.asked other

-- the least of these, and at most that
abbrev pub least_of : ℕ → List ℕ → ℕ
least_of most [] = most
least_of most (n ∷ ns) = min n (least_of most ns)

-- in how many milliseconds the survey of each desk is due, if nothing comes
abbrev pub waits_of : List AskedDesk → ℕ → List ℕ
waits_of asked now = map (λ a. wait_of a.survey.line now) asked

-- the same of the first of them that is due, and at most a second
abbrev pub desks_wait : HallDesksOf → ℕ → ℕ
desks_wait h now = least_of 1000 (waits_of h.asked now)

-- a second has gone since a desk said how it is
abbrev pub is_late : ℕ → Option SurveyAnswer → Bool
is_late now None = false
is_late now (Some told) = nat_le 1000 (now - told.at)

abbrev pub is_away_by : Reachability → Bool → Bool
is_away_by contact.NotAsked late = late
is_away_by contact.Answers late = late
is_away_by contact.Silent late = true
is_away_by (contact.Refuses why) late = true

-- a desk does not say how it is: it is not reached, it refuses, or it is late
abbrev pub is_away : ℕ → AskedDesk → Bool
is_away now asked = is_away_by asked.survey.contact (is_late now asked.survey.told)

abbrev pub away_one : ℕ → AskedDesk → List ℕ
away_one now asked = if is_away now asked then asked.desk ∷ [] else []

abbrev pub says_other : ClientRefusal → Bool
says_other refusal.Foreign = true
says_other _ = false

abbrev pub is_other_by : Reachability → Bool
is_other_by (contact.Refuses why) = says_other why
is_other_by _ = false

-- a desk says that it is of another hall
abbrev pub is_other : AskedDesk → Bool
is_other asked = is_other_by asked.survey.contact

-- the number of the first desk that says so
abbrev pub first_other : List AskedDesk → Option ℕ
first_other [] = None
first_other (asked ∷ others) = if is_other asked then Some asked.desk else first_other others

-- the numbers of those that do not say how they are, in their order
abbrev pub away_in : ℕ → HallDesksOf → List ℕ
away_in now h = flat_map (away_one now) h.asked

-- the desk of this number answers now in version 5 of the wire
abbrev pub one_speaks_five : ℕ → List AskedDesk → Bool
one_speaks_five desk [] = false
one_speaks_five desk (a ∷ asked) =
    if a.desk == desk then speaks_five a.survey else one_speaks_five desk asked

-- a line with the milliseconds since a desk said how it is, or `-` where it has not said so
abbrev pub age_line : ℕ → Option SurveyAnswer → List ℕ
age_line now None = codes "-\n"
age_line now (Some told) = decimal (now - told.at) ++ codes "\n"

abbrev pub age_of : ℕ → AskedDesk → List ℕ
age_of now asked = age_line now asked.survey.told

-- a line for each desk, in their order
abbrev pub ages_text : ℕ → HallDesksOf → List ℕ
ages_text now h = flat_map (age_of now) h.asked

-- how a desk differs from others, by all that is told of the desks
abbrev pub Differs : HallDesksOf → Option Difference → Type 0
Differs h differs =
    (told : List PolledDesk) × AreTold h.asked told × (differs ≡ difference told)

-- the JSON value of all that is told of the desks, on a line
abbrev pub IsStatus : HallDesksOf → List ℕ → Type 0
IsStatus h text =
    (told : List PolledDesk) × AreTold h.asked told × (text ≡ json_line h.hall told)
