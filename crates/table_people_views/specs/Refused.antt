-- The pages of a form that asks for no command (the project's own).
use Rattle.std.specs.Prelude.{ℕ, List, [], ◌∷◌, ◌++◌, codes}
use Rattle.markup.specs.{board_page.Escaped.escaped, Pieces.fill}
use Rattle.table_views.specs.{declared.around.PageContext.PageContext, Frame.top, Frame.bottom}
use Rattle.table_people_views.specs.declared.refused.TheConstants.{WHY}

-- what stands before the reason and after it, with a link back to the page of the form
abbrev pub why_section : List ℕ → List ℕ → List ℕ → List ℕ → List ℕ
why_section start end back why = fill WHY.now (start ∷ escaped why ∷ end ∷ escaped back ∷ [])

abbrev pub why_page : List ℕ → List ℕ → List ℕ → PageContext → List ℕ → List ℕ → List ℕ
why_page title start end around back why =
    top (codes "hall") title around
    ++ why_section start end back why ++ bottom

-- why, with a link back to the page of the form
abbrev pub refused_page : PageContext → List ℕ → List ℕ → List ℕ
refused_page around back why =
    why_page (codes "Not sent") (codes "<section><h1>Not sent</h1>\n<p><strong role=\"alert\">")
    (codes "</strong></p>\n") around back why

-- why, in several lines, with a link back to the page of the form
abbrev pub faults_page : PageContext → List ℕ → List ℕ → List ℕ
faults_page around back why =
    why_page (codes "Not entered") (codes "<section><h1>Not entered</h1>\n<pre role=\"alert\">")
    (codes "</pre>\n") around back why
