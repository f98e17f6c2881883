use Rattle.std.proofs.Common.{◌∙◌, ap, sym}
use Rattle.competition_file.proofs.Numbered.{of_bytes}
use Rattle.competition_file.specs.Files.{data_of, persons}
use Rattle.competition_file.proofs.file.CompetitionFile.helpers.Goals as goal

pub returns : goal.returns
returns c =
    c.helpers.ensures (persons (data_of c.args.self.now))
    (of_bytes c.args.self.now _ c.self.inside.kept
    (ap data_of (sym c.self.view_is) ∙ c.self.invariant.0) c.self.invariant.1)
