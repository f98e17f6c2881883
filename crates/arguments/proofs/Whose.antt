-- A result that is named is a form of the log.
use Rattle.std.specs.Prelude.{◌≡◌, List, Option, None, Some, IfSome, codes}
use Rattle.clap.specs.Words.{Row, Text, all_of}
use Rattle.arguments.specs.Asking.{AreWhose, IsForm}
use Rattle.arguments.specs.declared.task.LogFormOption.{LogFormOption}
use Rattle.arguments.specs.declared.task.LogFormOption.TheVariants as log_form

pub whose_is_form : (rows : List Row) (words : List Text) (form : LogFormOption)
    → all_of (codes "who") rows ≡ Some words → AreWhose words form → IsForm rows form
whose_is_form rows words (log_form.ChangesOf event round number) given h = (words, given, h)
whose_is_form rows words log_form.Lines given h = absurd h
whose_is_form rows words log_form.Rows given h = absurd h

pub whoses_are_forms : (rows : List Row) (words : List Text) (found : Option LogFormOption)
    → all_of (codes "who") rows ≡ Some words → IfSome found (AreWhose words)
    → IfSome found (IsForm rows)
whoses_are_forms rows words None given h = tt
whoses_are_forms rows words (Some form) given h = whose_is_form rows words form given h
