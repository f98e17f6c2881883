-- A desk that is to stop, and is not named.
use Rattle.std.proofs.Common.{◌≡◌, true}
use Rattle.arguments.specs.declared.{places.Place.Place, task.ClientRequest.ClientRequest}
use Rattle.subcommands.specs.{Asking.lacks_name, Places.NamesDesk}
use Rattle.arguments.specs.declared.places.Place.TheVariants as place

-- the arguments name none
pub names_none : (p : Place) (r : ClientRequest) → lacks_name p r ≡ true → NamesDesk p → ⊥
names_none (place.Desk hall desk address key) r lacks named = cc
names_none (place.File file desk key) r lacks named = named
