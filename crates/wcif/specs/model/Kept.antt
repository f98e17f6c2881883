-- A model of the code: what is kept of the persons so far.
use Rattle.std.specs.Prelude.{◌≡◌, ◌≤◌, ℕ, List, find, count_by, unwrap_or, nat_eq, [], ◌∷◌, ◌++◌}
use Rattle.std.specs.{List.list_any, Option.option_map, HashSet.contains_text}
use Rattle.std.specs.HashMap.{get, get_by_text}
use Rattle.serde_json.specs.{Data.Data, View.view}
use Rattle.wcif.specs.declared.{options.SameNames.SameNames, people.People.People}
use Rattle.wcif.specs.declared.people.{NameCounts.NameCounts, Numbers.Numbers, Names.Names}
use Rattle.wcif.specs.{declared.fault.CompetitionFault.CompetitionFault, Faults.person_faults}
use Rattle.wcif.specs.Told.{place}
use Rattle.wcif.specs.Persons.{has_given, has_number, has_name, last_number}

-- the count of each name is that of the accepted persons who have it
pub record CountsNames (persons : List Data) (kept : NameCounts) : Type 0 where
  pub counts : (name : List ℕ)
      → unwrap_or (get_by_text kept.counts name) 0 ≡ count_by (has_given name) persons

-- each number has the first accepted person who has it
pub record AreNumbers (persons : List Data) (kept : Numbers) : Type 0 where
  pub numbers : (n : ℕ) → 1 ≤ n → n ≤ last_number
      → option_map (λ v. view v.now) (get nat_eq kept.persons n) ≡ find (has_number n) persons

-- the names are those that accepted persons have at a desk
pub record AreNames (how : SameNames) (everyone persons : List Data) (kept : Names) : Type 0 where
  pub names : (name : List ℕ)
      → contains_text kept.names name ≡ list_any (has_name how everyone name) persons

-- all that is kept of the persons in front, among all of them
pub record AreKept (how : SameNames) (everyone earlier : List Data) (kept : People) : Type 0 where
  pub counts : CountsNames everyone kept.counts
  pub numbers : AreNumbers earlier kept.numbers
  pub names : AreNames how everyone earlier kept.names

-- what is added of a person at a place: what a desk cannot hold of him, given those in front
abbrev pub AddsFaults : SameNames → List Data → ℕ → Data → People → List CompetitionFault
    → List CompetitionFault → Type 0
AddsFaults how events at p kept old new =
    (everyone earlier : List Data) → AreKept how everyone earlier kept → at ≡ place earlier
    → new ≡ old ++ person_faults how events everyone earlier p

-- what is kept after one more person
abbrev pub KeepsPerson : SameNames → Data → People → People → Type 0
KeepsPerson how p old new =
    (everyone earlier : List Data) → AreKept how everyone earlier old
    → AreKept how everyone (earlier ++ p ∷ []) new
