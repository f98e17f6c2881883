use Rattle.std.proofs.Common.{◌∙◌, ap, sym}
use Rattle.competition_file.proofs.Numbered.{of_bytes, person_found}
use Rattle.competition_file.specs.Files.{data_of, persons}
use Rattle.competition_file.proofs.file.CompetitionFile.person.Goals as goal

pub returns : goal.returns
returns c =
    let keeps = of_bytes c.args.self.now _ c.self.inside.kept
    (ap data_of (sym c.self.view_is) ∙ c.self.invariant.0) c.self.invariant.1 in
    c.person_at.ensures
    ∙ person_found c.args.number c.persons.result.now (persons (data_of c.args.self.now))
    c.place_noted.result c.persons.ensures (c.place_noted.ensures ∙ keeps.places c.args.number)
