-- What a form carries unseen (the project's own).
use Rattle.std.specs.Prelude.{ℕ, List, [], ◌∷◌, decimal}
use Rattle.markup.specs.{board_page.Escaped.escaped, Pieces.fill}
use Rattle.table_views.specs.declared.hidden.TheConstants.{HIDDEN_NUMBER}

-- the token and the id of a form
abbrev pub hidden : List ℕ → ℕ → List ℕ
hidden token id = fill HIDDEN_NUMBER.now (escaped token ∷ decimal id ∷ [])
