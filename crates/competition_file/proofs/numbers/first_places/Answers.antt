use Rattle.std.proofs.Common.{◌∙◌, Option, None, Some, ℕ, ap, arith}
use Rattle.std.specs.Prelude.{if◌then◌else◌}
use Rattle.std.specs.Option.{option_or}
use Rattle.wcif.specs.Persons.{is_number}
use Rattle.competition_file.proofs.Numbered.{next_first}
use Rattle.competition_file.proofs.numbers.first_places.Goals as goal

pub loop-place-preserved : goal.loop-place-preserved
loop-place-preserved c = λ n.
    c.in_ok-note.ensures n
    ∙ ap (λ (o : Option ℕ). option_or o
    (if is_number n c.own_number.result then Some c.loop-place.place else None))
    (c.loop-place.invariant n)
    ∙ next_first n c.args.persons.now c.loop-place.place c.index-persons-place.result
    c.own_number.result (omega arith) c.index-persons-place.is c.own_number.ensures
