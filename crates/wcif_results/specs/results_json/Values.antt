-- Numbers of results and settings as JSON values. Times are in hundredths of a second, results of
-- fewest moves in moves and their means in hundredths of a move, and a result of multi-blind is the
-- WCA's number 0DDTTTTTMM. -1 is DNF, and -2 is DNS. null says that there is none.
use Rattle.std.specs.Prelude.{ℕ, List, [], ◌∷◌, map, codes, decimal, if◌then◌else◌, Option, None}
use Rattle.std.specs.{Prelude.Some, Str.is_utf8}
use Rattle.json.specs.Json.{Json, null, number, string, array, object, no_members, member}
use Rattle.json.specs.Value.{items_of}
use Rattle.attempts.specs.declared.Value.{Value}
use Rattle.formats.specs.declared.{advance.Advance.Advance, results.Averaged.Averaged}
use Rattle.formats.specs.declared.advance.Advance.TheVariants.{Final, Top, Percent}
use Rattle.formats.specs.Results.{best_of}
use Rattle.wcif_results.specs.{Encoding.attempt_result, Encoding.average_result, Results.integer}
use Rattle.formats.specs.declared.results.Averaged.TheVariants as averaged

abbrev pub natural : ℕ → Json
natural n = number (decimal n)

-- an attempt that is done
abbrev pub value_json : Value → Json
value_json v = integer (attempt_result v)

abbrev pub values_json : List Value → Json
values_json vs = array (items_of (map value_json vs))

-- the best of the attempts, where there is one
abbrev pub best_json : List Value → Json
best_json [] = null
best_json (v ∷ vs) = value_json (best_of (v ∷ vs))

-- the average, where there is one
abbrev pub average_json : Averaged → Json
average_json averaged.Missing = null
average_json (averaged.Number n) = integer (average_result (averaged.Number n))
average_json averaged.Dnf = integer (average_result averaged.Dnf)

-- a name, which is UTF-8
abbrev pub name_json : Option (List ℕ) → Json
name_json None = null
name_json (Some name) = if is_utf8 name then string name else null

-- an object with one number
abbrev pub one_member : List ℕ → ℕ → Json
one_member name n = object (member name (natural n) no_members)

-- after how many attempts, and below which number one of them has to be
abbrev pub cutoff_json : Option (ℕ × ℕ) → Json
cutoff_json None = null
cutoff_json (Some cutoff) =
    object (member (codes "attempts") (natural cutoff.0)
    (member (codes "below") (natural cutoff.1) no_members))

-- hundredths of a second
abbrev pub limit_json : Option ℕ → Json
limit_json None = null
limit_json (Some limit) = natural limit

-- how many advance, or how many of a hundred; from a final nobody does
abbrev pub advance_json : Advance → Json
advance_json Final = null
advance_json (Top n) = one_member (codes "top") n
advance_json (Percent n) = one_member (codes "percent") n
