-- A report on a hall's desks, in either form (the project's own).
use Rattle.std.specs.Prelude.{◌≡◌, ℕ, List, ◌++◌, Some, codes}
use Rattle.json.specs.{Json.document, Print.print, Tree.json_tokens}
use Rattle.standings.specs.{AsJson.hall_json, AsText.text_of, declared.polled.PolledDesk.PolledDesk}
use Rattle.standings.specs.declared.forms.Form.{Form, TheVariants.Text, TheVariants.Json}

-- the JSON value, without white space
abbrev pub json_text : (hall : ℕ) → List PolledDesk → List ℕ
json_text hall polled = print (json_tokens (hall_json hall polled))

-- it reads back as the value
pub record ReadsBack (hall : ℕ) (polled : List PolledDesk) : Type 0 where
  pub value : document (json_text hall polled) ≡ Some (hall_json hall polled)

-- the JSON value and a line feed
abbrev pub json_line : (hall : ℕ) → List PolledDesk → List ℕ
json_line hall polled = json_text hall polled ++ codes "\n"

-- lines for people, or the JSON value on a line
abbrev pub report : Form → (hall : ℕ) → List PolledDesk → List ℕ
report Text hall polled = text_of polled
report Json hall polled = json_line hall polled
