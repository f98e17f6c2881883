-- The tokens of a result, from the row of its entrant.
use Rattle.std.proofs.Common.{eqb-true, ◌≡◌, refl, ap, ℕ, List, [], ◌∷◌, ◌++◌, codes, decimal, Some}
use Rattle.std.{proofs.Common.find, proofs.Common.flat_map, specs.Fmt.signed_decimal}
use Rattle.wcif.proofs.Found.{found_passes}
use Rattle.json.specs.Token.{Token, begin_array, begin_object, end_object, key, number}
use Rattle.json.specs.{Tree.json_tokens, Tree.items_tokens, Value.items_of}
use Rattle.attempts.specs.declared.Value.{Value}
use Rattle.formats.specs.declared.results.Averaged.{Averaged}
use Rattle.rounds.specs.{declared.table.EntrantRow.EntrantRow, Rows.IsRow}
use Rattle.rounds.specs.Tables.{Entrant, Table, has_number, place, standings}
use Rattle.wcif_results.specs.{Encoding.best_result, Encoding.average_result, Results.results_json}
use Rattle.wcif_results.specs.Results.{attempts_json, ranking_json, result_json, result_of}

number_found : (n : ℕ) (es : List Entrant) (e : Entrant) → find (has_number n) es ≡ Some e
    → n ≡ e.number
number_found n es e h = eqb-true n e.number (found_passes (has_number n) es e h)

-- the tokens of a result with these parts
abbrev pub tokens_of : ℕ → List Value → ℕ → Averaged → List Token
tokens_of n vs place average =
    begin_object ∷ key (codes "personId") ∷ number (decimal n) ∷ key (codes "ranking")
    ∷ (json_tokens (ranking_json vs place) ++ (key (codes "attempts") ∷ (json_tokens
    (attempts_json vs) ++ (key (codes "best") ∷ number (signed_decimal (best_result vs)) ∷ key
    (codes "average") ∷ number (signed_decimal (average_result average)) ∷ end_object ∷ []))))

pub result_tokens : (t : Table) (n : ℕ) (e : Entrant) (row : EntrantRow) → IsRow t n e row
    → tokens_of n row.values.now row.place row.average ≡ json_tokens (result_json t e)
unfolding result_json
result_tokens t n e row is =
    rw (number_found n t.entrants e is.entrant, is.values, is.place, is.average) refl

pub results_tokens : (t : Table) (ns : List ℕ) → ns ≡ standings t
    → begin_array ∷ items_tokens (items_of (flat_map (result_of t) ns))
    ≡ json_tokens (results_json t)
unfolding results_json
results_tokens t ns is = rw is refl
