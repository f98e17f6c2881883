-- Edition 4 of the commands, in which a scorecard is one command (the project's own).
use Rattle.std.specs.Prelude.{ℕ, Bool, nat_le, List, [], ◌∷◌, ◌++◌}
use Rattle.commands.specs.Accepted.{edition_in}
use Rattle.texts.specs.declared.command.Command.{Command}
use Rattle.markup.specs.{board_page.Escaped.escaped, Pieces.fill}
use Rattle.table_views.specs.Hidden.{hidden}
use Rattle.table_views.specs.declared.editions.TheConstants.{EDITION_REST, EDITION_START}

-- edition 4 holds
abbrev pub is_latest : List Command → Bool
is_latest accepted = nat_le 4 (edition_in accepted)

abbrev pub edition_rest : List ℕ → List ℕ
edition_rest back = fill EDITION_REST.now (escaped back ∷ [])

-- the form that moves to edition 4, which says what it means
unfoldable pub edition_form : List ℕ → ℕ → List ℕ → List ℕ
edition_form token form back = EDITION_START.now ++ hidden token form ++ edition_rest back
