-- A model of the code: what is kept of the persons of a file.
use Rattle.std.specs.Prelude.{◌≡◌, ◌++◌, ◌∷◌, ℕ, Bool, if◌then◌else◌, List, [], map, codes}
use Rattle.std.specs.Prelude.{Option, None, Some, nat_eq}
use Rattle.std.specs.Global.{Vec}
use Rattle.std.specs.HashMap.{HashMap, get}
use Rattle.serde_json.specs.Data.{Data}
use Rattle.wcif.specs.Persons.{text_under}
use Rattle.competition_file.specs.{Duties.helpers, Groups.seats_of, Numbers.AreFirsts}
use Rattle.competition_file.specs.declared.duties.Duty.{Duty}
use Rattle.competition_file.specs.declared.duties.Duty.TheVariants.{Scrambler, Runner, Judge}
use Rattle.competition_file.specs.declared.groups.ActivitySeat.{ActivitySeat}
use Rattle.competition_file.specs.declared.kept.{KeptPerson.KeptPerson, KeptPersons.KeptPersons}

-- of one person: the seats, the WCA ID and the country
abbrev pub kept_of : Data → List ActivitySeat × List ℕ × List ℕ
kept_of p =
    (seats_of p, text_under (codes "wcaId") p, text_under (codes "countryIso2") p)

abbrev pub seen : KeptPerson → List ActivitySeat × List ℕ × List ℕ
seen one = (one.seats.items, one.wca_id.items, one.country.items)

abbrev pub texts : Option (Vec (Vec ℕ)) → List (List ℕ)
texts None = []
texts (Some all) = map (λ one. one.items) all.items

-- the names that are noted at an activity
abbrev pub names_at : {S : Type 0} → HashMap ℕ (Vec (Vec ℕ)) S → ℕ → List (List ℕ)
names_at names id = texts (get nat_eq names id)

-- a name is added at the activities that pass
abbrev pub AddsName : {S : Type 0} → (ℕ → Bool) → List ℕ
    → HashMap ℕ (Vec (Vec ℕ)) S → HashMap ℕ (Vec (Vec ℕ)) S → Type 0
AddsName at name old new =
    (id : ℕ) → names_at new id ≡ names_at old id ++ (if at id then name ∷ [] else [])

-- the names of those who have a duty are noted at each activity
abbrev pub AreHelpers : {S : Type 0} → Duty → List Data
    → HashMap ℕ (Vec (Vec ℕ)) S → Type 0
AreHelpers duty ps names = (id : ℕ) → names_at names id ≡ helpers duty id ps

-- the first accepted one with each number is found, and the rest is that of each person
pub record IsKept (ps : List Data) (kept : KeptPersons) : Type 0 where
  pub places : AreFirsts kept.places ps
  pub people : map seen kept.people.items ≡ map kept_of ps
  pub scramblers : AreHelpers Scrambler ps kept.scramblers
  pub runners : AreHelpers Runner ps kept.runners
  pub judges : AreHelpers Judge ps kept.judges
