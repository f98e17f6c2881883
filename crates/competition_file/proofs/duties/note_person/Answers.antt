use Rattle.std.proofs.Common.{◌∙◌, ◌++◌, ◌∷◌, ℕ, [], ap, sym, map, nat_eq, take}
use Rattle.std.specs.{HashSet.contains, List.list_any, Prelude.◌||◌, Prelude.if◌then◌else◌}
use Rattle.serde_json.specs.View.{view}
use Rattle.wcif.specs.Persons.{given_name}
use Rattle.competition_file.specs.{Duties.is_this, Kept.names_at}
use Rattle.competition_file.proofs.Helping.{any_more, once}
use Rattle.competition_file.proofs.duties.note_person.Goals as goal

pub loop-assignment-preserved : goal.loop-assignment-preserved
loop-assignment-preserved c =
    let name = given_name (view c.args.person.now) in
    let vs = c.items_under-assignments.result.now in
    let i = c.loop-assignment.assignment-index in
    let v = c.assignment-item.result in
    let more = λ (id : ℕ).
    any_more (is_this c.args.duty id) vs i v c.loop-assignment-test.true c.assignment-item.is in
    record {
      noted = λ id.
          c.in_ok-note_assignment.ensures.noted id
          ∙ ap (λ b. b || is_this c.args.duty id (view v)) (c.loop-assignment.invariant.noted id)
          ∙ sym (more id);
      names = λ id.
          once (names_at c.args.names.now id) (names_at c.loop-assignment.names id)
          (names_at c.note_assignment.new.names id) name
          (list_any (is_this c.args.duty id) (map view (take i vs)))
          (contains nat_eq c.loop-assignment.noted id) (is_this c.args.duty id (view v))
          (c.loop-assignment.invariant.names id) (c.in_ok-note_assignment.ensures.names id)
          (c.loop-assignment.invariant.noted id)
          ∙ ap (λ b. names_at c.args.names.now id ++ (if b then name ∷ [] else [])) (sym (more id));
    }
