use Rattle.std.proofs.Common.{◌≡◌, ℕ, map, nat_eq, take}
use Rattle.std.specs.{HashSet.contains, List.list_any}
use Rattle.serde_json.specs.View.{view}
use Rattle.wcif.specs.Persons.{given_name}
use Rattle.competition_file.specs.{Duties.is_this, Kept.AddsName}
use Rattle.competition_file.proofs.duties.note_person.Given as goal

-- what was noted is that of the assignments so far, and the name was added there
abbrev pub invariant-loop-assignment : goal.invariant-loop-assignment
invariant-loop-assignment l = record {
  noted : (id : ℕ) → contains nat_eq l.noted id
      ≡ list_any (is_this l.duty id) (map view (take l.assignment-index l.assignments));
  names : AddsName
      (λ id. list_any (is_this l.duty id) (map view (take l.assignment-index l.assignments)))
      (given_name (view l.person)) l.initial.names l.names;
}
