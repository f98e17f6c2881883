-- What was found in the arguments asks at most five desks at once.
use Rattle.std.proofs.Common.{◌≤◌, List, Option, subst}
use Rattle.std.proofs.lemmas.List.{length-map}
use Rattle.clap.specs.Words.{Row, Text}
use Rattle.arguments.specs.{Asking.Finds, declared.task.Task.Task}
use Rattle.desk.specs.Statuses.{HasFew}
use Rattle.arguments.specs.declared.places.DeskPlaces.TheVariants as desks
use Rattle.arguments.specs.declared.task.Task.TheVariants as task

pub found_few : (found : Option (Text × List Row)) (t : Task) → Finds found t → HasFew t
found_few found (task.Status (desks.Addresses hall addresses key) patience json watches all) h =
    subst (λ n. n ≤ 5) (length-map addresses.now (λ a. a.now)) h.3.1.1.few
found_few found (task.Status (desks.File file key) patience json watches all) h = tt
found_few found _ h = tt
