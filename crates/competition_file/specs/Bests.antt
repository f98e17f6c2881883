-- Personal bests in the WCA Competition Interchange Format (its PersonalBest).
use Rattle.std.specs.Prelude.{ℕ, ◌&&◌, Bool, if◌then◌else◌, List, bytes_eq, codes, Option, None}
use Rattle.std.specs.Prelude.{filter_map, slice_get}
use Rattle.serde_json.specs.Data.{Data}
use Rattle.formats.specs.declared.events.Event.{Event}
use Rattle.formats.specs.Events.{event_name}
use Rattle.wcif.specs.Persons.{text_under}
use Rattle.wcif.specs.Rounds.{number_within}
use Rattle.competition_file.specs.declared.bests.ResultKind.{ResultKind}
use Rattle.competition_file.specs.declared.bests.ResultKind.TheVariants.{Single, Average}
use Rattle.competition_file.specs.Items.{items_under}

abbrev pub kind_name : ResultKind → List ℕ
kind_name Single = codes "single"
kind_name Average = codes "average"

abbrev pub is_best_of : Event → ResultKind → Data → Bool
is_best_of e k d =
    bytes_eq (text_under (codes "eventId") d) (event_name e)
    && bytes_eq (text_under (codes "type") d) (kind_name k)

abbrev pub best_in : Event → ResultKind → Data → Option ℕ
best_in e k d =
    if is_best_of e k d then number_within 1 4294967295 (codes "best") d else None

-- the first number that the file has for a person's best of this kind in an event
unfoldable pub best_of : Event → ResultKind → Data → Option ℕ
best_of e k p = slice_get (filter_map (best_in e k) (items_under (codes "personalBests") p)) 0
