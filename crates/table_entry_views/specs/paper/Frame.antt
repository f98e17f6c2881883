-- The frame of a page that is printed (the project's own).
use Rattle.std.specs.Prelude.{ℕ, List, [], ◌∷◌}
use Rattle.markup.specs.{board_page.Escaped.escaped, Pieces.fill}
use Rattle.table_entry_views.specs.declared.paper.frame.TheConstants.{TOP}

-- what is before what is printed
abbrev pub top : List ℕ → List ℕ → List ℕ
top class title = fill TOP.now (escaped title ∷ class ∷ [])
