-- What the sheet of a round has of its entrants, as JSON values (the project's own).
use Rattle.std.specs.Prelude.{ℕ, Bool, List, codes, flat_map, option_to_list}
use Rattle.std.specs.Option.{option_map}
use Rattle.json.specs.Json.{Json, boolean, array, object, Members, no_members, member}
use Rattle.json.specs.Value.{items_of}
use Rattle.commands.specs.Accepted.{name_of}
use Rattle.formats.specs.Results.{average_of}
use Rattle.rounds.specs.Tables.{Entrant, Table, entrant, place, standings}
use Rattle.texts.specs.declared.command.{Command.Command, Settings.Settings}
use Rattle.wcif_results.specs.{Results.ranking_json, results_json.Values.values_json}
use Rattle.wcif_results.specs.results_json.Values.{average_json, best_json, name_json, natural}

-- the members of the entrant with a number: number and name; the place, once there is an attempt;
-- the attempts, the best and the average; and whether the sheet marks it as one who advances
abbrev pub entrant_members : List Command → Settings → Table → (ℕ → Bool) → ℕ → Entrant → Members
entrant_members cs settings t marks n e =
    member (codes "number") (natural n) (member (codes "name") (name_json (name_of cs n))
    (member (codes "place") (ranking_json e.values (place t e))
    (member (codes "attempts") (values_json e.values) (member (codes "best") (best_json e.values)
    (member (codes "average") (average_json (average_of t.format t.unit e.values))
    (member (codes "advances") (boolean (marks n)) no_members))))))

unfoldable pub entrant_json : List Command → Settings → Table → (ℕ → Bool) → ℕ → Entrant → Json
entrant_json cs settings t marks n e = object (entrant_members cs settings t marks n e)

abbrev pub entrant_list : List Command → Settings → Table → (ℕ → Bool) → ℕ → List Json
entrant_list cs settings t marks n =
    option_to_list (option_map (entrant_json cs settings t marks n) (entrant t n))

-- of all entrants, by place, and at one place in the order of entry
unfoldable pub entrants_json : List Command → Settings → Table → (ℕ → Bool) → Json
entrants_json cs settings t marks =
    array (items_of (flat_map (entrant_list cs settings t marks) (standings t)))
