-- An item of a list, as it is seen.
use Rattle.std.proofs.Common.{◌≡◌, ℕ, List, map, option_map, slice_get}
use Rattle.std.proofs.lemmas.Option.{slice_get-map}
use Rattle.serde_json.specs.View.{view}
use Rattle.serde_json.specs.declared.value.Value.{Value}

pub viewed_at : (vs : List Value) (place : ℕ)
    → slice_get (map view vs) place ≡ option_map view (slice_get vs place)
viewed_at vs place = slice_get-map view vs place
