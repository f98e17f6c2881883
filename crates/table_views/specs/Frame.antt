-- The frame of every page (the project's own).
use Rattle.std.specs.Prelude.{ℕ, Bool, List, [], ◌∷◌, ◌++◌, codes, if◌then◌else◌, length}
use Rattle.markup.specs.{board_page.Escaped.escaped, Pieces.fill}
use Rattle.table_views.specs.{declared.around.PageContext.PageContext, Bar.bar}
use Rattle.table_views.specs.declared.frame.TheConstants.{BOTTOM, HEAD, LINKS, REFRESH}

-- where what was sent waits, the page asks for itself again after a second, without scripts
unfoldable pub refresh : Bool → List ℕ
refresh waits = if waits then REFRESH.now else []

-- the head of a page, and the beginning of its body
abbrev pub head : List ℕ → List ℕ → Bool → List ℕ
head class title waits = fill HEAD.now (escaped title ∷ refresh waits ∷ class ∷ [])

-- what is before the sections of a page
abbrev pub top : List ℕ → List ℕ → PageContext → List ℕ
top class title around =
    head class title around.waits ++ LINKS.now ++ bar around.desks.now (length around.mirror.now)
    ++ codes "<main>\n"

abbrev pub bottom : List ℕ
bottom = BOTTOM.now
