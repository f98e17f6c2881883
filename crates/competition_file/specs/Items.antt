-- Lists of a value, by their names (the project's own).
use Rattle.std.specs.Prelude.{ℕ, List, [], Option, Some, None, unwrap_or}
use Rattle.serde_json.specs.Data.{Data}
use Rattle.wcif.specs.Members.{list_at}

-- the items of the list under a name; none where there is no list
unfoldable pub items_under : List ℕ → Data → List Data
items_under name d = unwrap_or (list_at name d) []

-- those of a value that may not be there
abbrev pub items_of : List ℕ → Option Data → List Data
items_of name None = []
items_of name (Some d) = items_under name d
