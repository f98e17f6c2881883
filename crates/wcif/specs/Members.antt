-- What is in a JSON value: members by their names, and what kind of value they are (the project's
-- own).
use Rattle.std.specs.Prelude.{ℕ, List, [], ◌∷◌, Option, Some, None}
use Rattle.std.specs.Option.{option_and_then, option_map}
use Rattle.serde_json.specs.Data.{Data, null, number, array, Items, no_items, item}
use Rattle.serde_json.specs.Find.{get, as_number, as_str, as_array, as_u64}

-- the items of an array as a list
abbrev pub listed : Items → List Data
listed no_items = []
listed (item d ds) = d ∷ listed ds

-- a value that is not null
abbrev pub not_null : Data → Option Data
not_null null = None
not_null d = Some d

-- a member that is there and is not null
abbrev pub member_at : List ℕ → Data → Option Data
member_at name d = option_and_then not_null (get name d)

-- a member that is a text
abbrev pub text_at : List ℕ → Data → Option (List ℕ)
text_at name d = option_and_then as_str (get name d)

-- a member that is a whole number, and not negative
abbrev pub number_at : List ℕ → Data → Option ℕ
number_at name d = option_and_then as_u64 (option_and_then as_number (get name d))

-- a member that is a list
abbrev pub list_at : List ℕ → Data → Option (List Data)
list_at name d = option_map listed (option_and_then as_array (get name d))
