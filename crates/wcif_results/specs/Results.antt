-- The results of a round in the WCA Competition Interchange Format (its Round and Result;
-- https://github.com/thewca/wcif, specification.md): one for each entrant, in the order of the
-- round's standings. An entrant without an attempt has no ranking, no best and no average.
use Rattle.std.specs.Prelude.{ℕ, ℤ, List, [], ◌∷◌, map, flat_map, codes, decimal, option_to_list}
use Rattle.std.specs.{Fmt.signed_decimal, Option.option_map}
use Rattle.json.specs.Json.{Json, null, number, array, object, Members, no_members, member}
use Rattle.json.specs.Value.{items_of}
use Rattle.attempts.specs.declared.Value.{Value}
use Rattle.formats.specs.Results.{average_of}
use Rattle.rounds.specs.Tables.{Entrant, Table, entrant, place, standings}
use Rattle.wcif_results.specs.Encoding.{attempt_result, best_result, average_result}

abbrev pub integer : ℤ → Json
integer z = number (signed_decimal z)

-- one attempt; a desk has no reconstruction of it
abbrev pub attempt_json : Value → Json
attempt_json v =
    object (member (codes "result") (integer (attempt_result v))
    (member (codes "reconstruction") null no_members))

abbrev pub attempts_json : List Value → Json
attempts_json vs = array (items_of (map attempt_json vs))

-- the place, once there is an attempt
abbrev pub ranking_json : List Value → ℕ → Json
ranking_json [] place = null
ranking_json (v ∷ vs) place = number (decimal place)

-- the members of an entrant's result
abbrev pub result_members : Table → Entrant → Members
result_members t e =
    member (codes "personId") (number (decimal e.number))
    (member (codes "ranking") (ranking_json e.values (place t e))
    (member (codes "attempts") (attempts_json e.values)
    (member (codes "best") (integer (best_result e.values))
    (member (codes "average") (integer (average_result (average_of t.format t.unit e.values)))
    no_members))))

unfoldable pub result_json : Table → Entrant → Json
result_json t e = object (result_members t e)

-- the result of the entrant with a number
abbrev pub result_of : Table → ℕ → List Json
result_of t n = option_to_list (option_map (result_json t) (entrant t n))

-- the results of a round, by place, and at one place in the order of entry
abbrev pub results_list : Table → List Json
results_list t = flat_map (result_of t) (standings t)

unfoldable pub results_json : Table → Json
results_json t = array (items_of (results_list t))
