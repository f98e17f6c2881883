use Rattle.std.proofs.Common.{◌∙◌, Some, None, ap, sym}
use Rattle.std.specs.Prelude.{find, option_map}
use denote.Bor.{Bor}
use Rattle.wcif.specs.Persons.{has_number}
use Rattle.competition_file.specs.{Files.data_of, Files.persons, Kept.seen}
use Rattle.competition_file.specs.declared.kept.KeptPerson.{KeptPerson}
use Rattle.competition_file.proofs.Numbered.{wca_id_found}
use Rattle.competition_file.proofs.file.CompetitionFile.wca_id.Goals as goal

pub returns-in-Some : goal.returns-in-Some
returns-in-Some c =
    c.deref.ensures.value
    ∙ wca_id_found (Some (seen c.in-Some.person.now))
    (find (has_number c.args.number) (persons (data_of c.args.self.now)))
    (ap (option_map (λ (one : Bor KeptPerson). seen one.now)) (sym c.in-Some.is)
    ∙ c.kept_person.ensures)

pub returns-in-None : goal.returns-in-None
returns-in-None c =
    wca_id_found None (find (has_number c.args.number) (persons (data_of c.args.self.now)))
    (ap (option_map (λ (one : Bor KeptPerson). seen one.now)) (sym c.in-None.is)
    ∙ c.kept_person.ensures)
