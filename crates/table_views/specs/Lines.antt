-- The form that sends several commands, one a line, or shows what would become of them (the
-- project's own).
use Rattle.std.specs.Prelude.{ℕ, List, [], ◌∷◌, ◌++◌, codes}
use Rattle.markup.specs.{board_page.Escaped.escaped, Pieces.fill}
use Rattle.table_views.specs.{Hidden.hidden, declared.line_forms.TheConstants.LINES_FORM}

-- a command after a break. HTML leaves out a break with which a text area begins, so that what is
-- sent of commands, each after a break, has a break between each two.
abbrev pub line : List ℕ → List ℕ
line text = codes "\n" ++ text

-- the beginning of a form that enters its lines
abbrev pub enters : List ℕ
enters = codes "<form method=\"post\" action=\"/commands\" autocomplete=\"off\">\n"

-- the beginning of a form that only shows what its lines would enter
abbrev pub looks : List ℕ
looks = codes "<form method=\"post\" action=\"/lines\" autocomplete=\"off\">\n"

-- where to go after the form, the lines, folded, and the button
abbrev pub lines_rest : List ℕ → List ℕ → List ℕ → List ℕ
lines_rest back lines words = fill LINES_FORM.now (escaped back ∷ escaped lines ∷ words ∷ [])

-- a form with these lines carries its token and its id
unfoldable pub lines_form : List ℕ → List ℕ → ℕ → List ℕ → List ℕ → List ℕ → List ℕ
lines_form start token id back lines words = start ++ hidden token id ++ lines_rest back lines words
