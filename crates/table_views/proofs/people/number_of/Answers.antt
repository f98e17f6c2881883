use Rattle.std.proofs.Common.{◌∙◌, ap}
use Rattle.texts.specs.Fields.{number_between}
use Rattle.table_views.proofs.people.number_of.Goals as goal

pub returns-in-Some : goal.returns-in-Some
returns-in-Some c = c.in-Some.ensures.value ∙ ap (number_between 1 9999) c.trimmed.ensures

pub returns-in-None : goal.returns-in-None
returns-in-None c = c.in-None.ensures.value ∙ ap (number_between 1 9999) c.trimmed.ensures
