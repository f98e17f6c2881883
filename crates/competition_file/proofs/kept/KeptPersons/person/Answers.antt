use Rattle.std.proofs.Common.{◌∙◌, ap, map}
use Rattle.wcif.specs.Persons.{has_number}
use Rattle.competition_file.specs.Kept.{kept_of, seen}
use Rattle.competition_file.proofs.Places.{alike_at}
use Rattle.competition_file.proofs.kept.KeptPersons.person.Goals as goal

pub returns : goal.returns
returns c ps keeps =
    c.kept_at.ensures
    ∙ alike_at seen kept_of c.deref.result.now ps (has_number c.args.number)
    c.place_noted.result (ap (map seen) c.deref.ensures.value ∙ keeps.people)
    (c.place_noted.ensures ∙ keeps.places c.args.number)
