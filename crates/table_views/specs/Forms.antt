-- Forms that send commands (the project's own).
use Rattle.std.specs.Prelude.{ℕ, ◌==◌, if◌then◌else◌, List, [], ◌∷◌, ◌++◌, codes, decimal}
use Rattle.formats.specs.declared.events.Event.{Event}
use Rattle.markup.specs.{board_page.Escaped.escaped, Pieces.fill}
use Rattle.round_words.specs.Words.{round_name}
use Rattle.texts.specs.declared.command.RoundId.{RoundId}
use Rattle.table_views.specs.Hidden.{hidden}
use Rattle.table_views.specs.declared.forms.TheConstants.{BUTTON, CHOICE, PERSON_PATH, TEXT_FIELD}
use Rattle.table_views.specs.declared.forms.TheConstants.{UNIT_FIELD, UNSEEN}

abbrev pub round_numbered : Event → ℕ → RoundId
round_numbered event round = record { event = event; round = round }

-- a value that a form carries unseen
abbrev pub unseen : List ℕ → List ℕ → List ℕ
unseen name value = fill UNSEEN.now (name ∷ escaped value ∷ [])

-- a form carries its token and its id, the word of its command, and the page to go to after it
unfoldable pub form_start : List ℕ → ℕ → List ℕ → List ℕ → List ℕ
form_start token id command back =
    codes "<form method=\"post\" action=\"/command\" autocomplete=\"off\">\n" ++ hidden token id
    ++ unseen (codes "command") command ++ unseen (codes "back") back

unfoldable pub round_value : RoundId → List ℕ
round_value id =
    codes "<input type=\"hidden\" name=\"round\" value=\"" ++ round_name id ++ codes "\">\n"

abbrev pub button : List ℕ → List ℕ
button words = fill BUTTON.now (words ∷ [])

-- a field with a label
abbrev pub text_field : List ℕ → List ℕ → List ℕ → List ℕ
text_field name label value = fill TEXT_FIELD.now (label ∷ name ∷ escaped value ∷ [])

-- a field with a label, and with the unit in which a script reads what is in it
abbrev pub unit_field : List ℕ → List ℕ → List ℕ → List ℕ → List ℕ
unit_field name label unit value = fill UNIT_FIELD.now (label ∷ name ∷ unit ∷ escaped value ∷ [])

-- after a number of commands
abbrev pub commands_word : ℕ → List ℕ
commands_word count = if count == 1 then codes " command" else codes " commands"

-- one of the values that can be chosen
abbrev pub choice : List ℕ → List ℕ → List ℕ
choice value words = fill CHOICE.now (value ∷ words ∷ [])

-- the path of the page of a round's forms
abbrev pub path_of : RoundId → List ℕ
path_of id = codes "/rounds?round=" ++ round_name id

-- the path of the page of a competitor
abbrev pub person_path : ℕ → List ℕ
person_path number = fill PERSON_PATH.now (decimal number ∷ [])

-- a form for a command about a round, which it carries unseen
unfoldable pub round_form : List ℕ → ℕ → List ℕ → RoundId → List ℕ
round_form token form command id =
    form_start token form command (path_of id) ++ round_value id
